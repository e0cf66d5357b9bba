-- Field masks: found field by field, and kept where a request is read.
use Rattle.std.proofs.Common.{◌≡◌, ℕ, zero, suc, ◌+◌, ◌-◌, ◌<◌, ◌≤◌, Bool, true, false, eqb, ◌||◌, List, [], length, drop, Option, Some, None, refl, sym, ap, subst, ◌∙◌, arith, inl, inr}
use Rattle.std.specs.Prelude.{is_some, if◌then◌else◌, ◌==◌}
use Rattle.std.specs.List.{cons_option}
use Rattle.std.proofs.lemmas.Bool.{cases_eq, ne_eqb}
use Rattle.std.proofs.lemmas.List.{drop-drop}
use Rattle.hb_wire.specs.Varint.{AreBytes}
use Rattle.hb_wire.specs.Field.{Piece}
use Rattle.hb_wire.specs.Reading.{field_at}
use Rattle.hb_flow.specs.Fields.{Part, parts, parts_of, body_in, joined, knows}
use Rattle.hb_flow.proofs.Loop.{parts_after}
use Rattle.hb_flow.proofs.Fitting.{picked_unknown}
use Rattle.hb_api.specs.Requests.{request_row, read_request, have_mask, is_masked}

-- the mask that a field is
abbrev pub mask_in : Piece → Option (List ℕ)
mask_in field = if field.number == 10 then body_in field.content else None

-- ---- field by field

-- where no field starts there is none
pub none_start : (most : ℕ) (bytes : List ℕ) → field_at bytes ≡ None → parts_of most bytes ≡ []
unfolding parts_of
none_start zero bytes e = refl
none_start (suc most) bytes e = rw e refl

-- one more field in front
one_more : (mask : Option (List ℕ)) (bs : List (List ℕ)) → is_some (joined (cons_option mask bs)) ≡ (is_some mask || is_some (joined bs))
one_more None bs = refl
one_more (Some mask) bs = refl

-- the field at a place, and those behind it
mask_on : (most at end : ℕ) (bytes : List ℕ) (p : Piece) → at < length bytes → length bytes - at ≤ most → at ≤ end → field_at (drop at bytes) ≡ Some (p, end - at)
    → have_mask (parts_of most (drop at bytes)) ≡ (is_some (mask_in p) || have_mask (parts_of (most - 1) (drop end bytes)))
mask_on most at end bytes p lt fits le e =
    let here : at + (end - at) ≡ end = omega arith in
    let more = parts_after most (drop at bytes) p (end - at) (omega arith) e in
    let behind : parts_of (most - 1) (drop (end - at) (drop at bytes)) ≡ parts_of (most - 1) (drop end bytes) = rw (drop-drop (end - at) at bytes, here) refl in
    ap have_mask more ∙ one_more (mask_in p) _ ∙ ap (λ (ps : List Part). is_some (mask_in p) || have_mask ps) behind

module _ (most at end : ℕ) (bytes : List ℕ) (p : Piece) (total : Bool) (lt : at < length bytes) (fits : length bytes - at ≤ most) (le : at ≤ end)
    (e : field_at (drop at bytes) ≡ Some (p, end - at)) (so_far : have_mask (parts_of most (drop at bytes)) ≡ total) where
  pub found : true ≡ is_some (mask_in p) → true ≡ total
  found is = sym (sym so_far ∙ mask_on most at end bytes p lt fits le e ∙ ap (λ (b : Bool). b || have_mask (parts_of (most - 1) (drop end bytes))) (sym is))

  pub goes_on : false ≡ is_some (mask_in p) → have_mask (parts_of (most - 1) (drop end bytes)) ≡ total
  goes_on is = sym (sym so_far ∙ mask_on most at end bytes p lt fits le e ∙ ap (λ (b : Bool). b || have_mask (parts_of (most - 1) (drop end bytes))) (sym is))

-- ---- of what was read

known_none : (p : Part) → knows request_row p.field ≡ true → mask_in p.field ≡ None
known_none p known =
    elim (cases_eq p.field.number 10) [
      | inl e ↦ absurd (let both = subst (λ (n : ℕ). knows request_row (record { number = n; content = p.field.content }) ≡ true) e known in cc)
      | inr ne ↦ let not_10 : eqb p.field.number 10 ≡ false = ne_eqb p.field.number 10 ne in rw not_10 refl
    ]

pub mask_kept : (bytes : List ℕ) → AreBytes bytes → is_masked (read_request bytes) ≡ have_mask (parts bytes)
unfolding read_request
mask_kept bytes are = ap (λ (bs : List (List ℕ)). is_some (joined bs)) (picked_unknown (λ p. mask_in p.field) request_row known_none bytes are)
