-- Fields that a row does not know: nothing is picked from them, and nothing in them is checked.
use Rattle.std.proofs.Common.{◌≡◌, ℕ, Bool, true, false, cond, eqb, ◌||◌, List, [], ◌∷◌, ◌++◌, Option, None, refl, sym, ap, subst, ◌∙◌, inl, inr}
use Rattle.std.specs.List.{AllByRecursion, filter_map, flat_map}
use Rattle.std.proofs.lemmas.Bool.{cases_eq, ne_eqb}
use Rattle.std.proofs.lemmas.List.{append-nil}
use Rattle.std.proofs.lemmas.List.Elements.{filter_map-append}
use Rattle.std.proofs.lemmas.List.Concat.{flat_map-append}
use Rattle.hb_wire.specs.Field.{Content, Varint, Fixed64, Body, Fixed32, Piece}
use Rattle.hb_flow.specs.Fields.{Part, numbers, bodies, member_in, members, Row, knows, unknown}
use Rattle.hb_flow.specs.Faults.{Check, content_fault, flow_check, lost_event_check, response_check}
use Rattle.hb_flow.specs.Messages.{flow_row, lost_event_row, response_row}

abbrev pub field_of : ℕ → Content → Piece
field_of number content = record { number = number; content = content }

abbrev pub part_of : List ℕ → ℕ → Content → Part
part_of raw number content = record { raw = raw; field = field_of number content }

-- parts of fields that are not known
abbrev pub NotKnown : Row → List Part → Type 0
NotKnown row = AllByRecursion (λ p. knows row p.field ≡ false)

-- a field that is no body, or no number, is passed over whatever number is asked for
pub no_body : (b : Bool) → cond {A = Option (List ℕ)} b None None ≡ None
no_body true = refl
no_body false = refl

pub no_number : (b : Bool) → cond {A = Option ℕ} b None None ≡ None
no_number true = refl
no_number false = refl

-- ---- what is picked by a number that is known, from fields that are not

module _ (row : Row) (number : ℕ) (known : (value : ℕ) → knows row (field_of number (Varint value)) ≡ true) where
  numbers_step : (raw : List ℕ) (k : ℕ) (content : Content) (us : List Part) → knows row (field_of k content) ≡ false → numbers number us ≡ [] → numbers number (part_of raw k content ∷ us) ≡ []
  numbers_step raw k (Varint value) us not rest =
      elim (cases_eq k number) [
        | inl e ↦ let both = sym (subst (λ (n : ℕ). knows row (field_of n (Varint value)) ≡ false) e not) ∙ known value in absurd cc
        | inr ne ↦ let other : eqb k number ≡ false = ne_eqb k number ne in rw other rest
      ]
  numbers_step raw k (Fixed64 value) us not rest = rw (no_number (eqb k number)) rest
  numbers_step raw k (Body body) us not rest = rw (no_number (eqb k number)) rest
  numbers_step raw k (Fixed32 value) us not rest = rw (no_number (eqb k number)) rest

  no_numbers : (us : List Part) → NotKnown row us → numbers number us ≡ []
  no_numbers [] not = refl
  no_numbers (u ∷ us) not = numbers_step u.raw u.field.number u.field.content us not.0 (no_numbers us not.1)

  -- the numbers among known fields and others
  pub numbers_first : (ps us : List Part) → NotKnown row us → numbers number (ps ++ us) ≡ numbers number ps
  numbers_first ps us not = filter_map-append _ ps us ∙ ap (λ (ns : List ℕ). numbers number ps ++ ns) (no_numbers us not) ∙ append-nil (numbers number ps)

module _ (row : Row) (number : ℕ) (known : (body : List ℕ) → knows row (field_of number (Body body)) ≡ true) where
  bodies_step : (raw : List ℕ) (k : ℕ) (content : Content) (us : List Part) → knows row (field_of k content) ≡ false → bodies number us ≡ [] → bodies number (part_of raw k content ∷ us) ≡ []
  bodies_step raw k (Body body) us not rest =
      elim (cases_eq k number) [
        | inl e ↦ let both = sym (subst (λ (n : ℕ). knows row (field_of n (Body body)) ≡ false) e not) ∙ known body in absurd cc
        | inr ne ↦ let other : eqb k number ≡ false = ne_eqb k number ne in rw other rest
      ]
  bodies_step raw k (Fixed64 value) us not rest = rw (no_body (eqb k number)) rest
  bodies_step raw k (Varint value) us not rest = rw (no_body (eqb k number)) rest
  bodies_step raw k (Fixed32 value) us not rest = rw (no_body (eqb k number)) rest

  no_bodies : (us : List Part) → NotKnown row us → bodies number us ≡ []
  no_bodies [] not = refl
  no_bodies (u ∷ us) not = bodies_step u.raw u.field.number u.field.content us not.0 (no_bodies us not.1)

  -- the bodies among known fields and others
  pub bodies_first : (ps us : List Part) → NotKnown row us → bodies number (ps ++ us) ≡ bodies number ps
  bodies_first ps us not = filter_map-append _ ps us ∙ ap (λ (bs : List (List ℕ)). bodies number ps ++ bs) (no_bodies us not) ∙ append-nil (bodies number ps)

-- ---- members of the oneof

-- a field that is no body is none
pub no_member : (a b c : Bool) → cond {A = Option (ℕ × List ℕ)} (a || b || c) None None ≡ None
no_member true b c = refl
no_member false true c = refl
no_member false false true = refl
no_member false false false = refl

not_member : (number : ℕ) (content : Content) → knows response_row (field_of number content) ≡ false → member_in (field_of number content) ≡ None
not_member number (Varint value) not = no_member (eqb number 1) (eqb number 2) (eqb number 3)
not_member number (Fixed64 value) not = no_member (eqb number 1) (eqb number 2) (eqb number 3)
not_member number (Fixed32 value) not = no_member (eqb number 1) (eqb number 2) (eqb number 3)
not_member number (Body body) not =
    elim (cases_eq number 1) [
      | inl e ↦ absurd (let both = subst (λ (n : ℕ). knows response_row (field_of n (Body body)) ≡ false) e not in cc)
      | inr ne ↦
          let not_1 : eqb number 1 ≡ false = ne_eqb number 1 ne in
          elim (cases_eq number 2) [
            | inl e ↦ absurd (let both = subst (λ (n : ℕ). knows response_row (field_of n (Body body)) ≡ false) e not in cc)
            | inr ne ↦
                let not_2 : eqb number 2 ≡ false = ne_eqb number 2 ne in
                elim (cases_eq number 3) [
                  | inl e ↦ absurd (let both = subst (λ (n : ℕ). knows response_row (field_of n (Body body)) ≡ false) e not in cc)
                  | inr ne ↦ let not_3 : eqb number 3 ≡ false = ne_eqb number 3 ne in rw (not_1, not_2, not_3) refl
                ]
          ]
    ]

no_members : (us : List Part) → NotKnown response_row us → members us ≡ []
no_members [] not = refl
no_members (u ∷ us) not = rw (not_member u.field.number u.field.content not.0) (no_members us not.1)

-- the members among known fields and others
pub members_first : (ps us : List Part) → NotKnown response_row us → members (ps ++ us) ≡ members ps
members_first ps us not = filter_map-append _ ps us ∙ ap (λ (ms : List (ℕ × List ℕ)). members ps ++ ms) (no_members us not) ∙ append-nil (members ps)

-- ---- the bytes that are kept

all_unknown : (row : Row) (us : List Part) → NotKnown row us → unknown row us ≡ flat_map (λ (p : Part). p.raw) us
all_unknown row [] not = refl
all_unknown row (u ∷ us) not = rw not.0 (ap (λ (bs : List ℕ). u.raw ++ bs) (all_unknown row us not.1))

-- of known fields and others they are those of the others
pub unknown_last : (row : Row) (ps us : List Part) → unknown row ps ≡ [] → NotKnown row us → unknown row (ps ++ us) ≡ flat_map (λ (p : Part). p.raw) us
unknown_last row ps us known not = flat_map-append _ ps us ∙ ap (λ (bs : List ℕ). bs ++ unknown row us) known ∙ all_unknown row us not

-- ---- what is not known is not checked

flow_passes : (end number : ℕ) (content : Content) → knows flow_row (field_of number content) ≡ false → content_fault flow_check end (field_of number content) ≡ None
unfolding flow_check
flow_passes end number (Varint value) not = refl
flow_passes end number (Fixed64 value) not = refl
flow_passes end number (Fixed32 value) not = refl
flow_passes end number (Body body) not =
    elim (cases_eq number 1) [
      | inl e ↦ absurd (let both = subst (λ (n : ℕ). knows flow_row (field_of n (Body body)) ≡ false) e not in cc)
      | inr ne ↦
          let not_1 : eqb number 1 ≡ false = ne_eqb number 1 ne in
          elim (cases_eq number 34) [
            | inl e ↦ absurd (let both = subst (λ (n : ℕ). knows flow_row (field_of n (Body body)) ≡ false) e not in cc)
            | inr ne ↦ let not_34 : eqb number 34 ≡ false = ne_eqb number 34 ne in rw (not_1, not_34) refl
          ]
    ]

lost_event_passes : (end number : ℕ) (content : Content) → knows lost_event_row (field_of number content) ≡ false → content_fault lost_event_check end (field_of number content) ≡ None
unfolding lost_event_check
lost_event_passes end number (Varint value) not = refl
lost_event_passes end number (Fixed64 value) not = refl
lost_event_passes end number (Fixed32 value) not = refl
lost_event_passes end number (Body body) not =
    elim (cases_eq number 3) [
      | inl e ↦ absurd (let both = subst (λ (n : ℕ). knows lost_event_row (field_of n (Body body)) ≡ false) e not in cc)
      | inr ne ↦ let not_3 : eqb number 3 ≡ false = ne_eqb number 3 ne in rw not_3 refl
    ]

response_passes : (end number : ℕ) (content : Content) → knows response_row (field_of number content) ≡ false → content_fault response_check end (field_of number content) ≡ None
unfolding response_check
response_passes end number (Varint value) not = refl
response_passes end number (Fixed64 value) not = refl
response_passes end number (Fixed32 value) not = refl
response_passes end number (Body body) not =
    elim (cases_eq number 1) [
      | inl e ↦ absurd (let both = subst (λ (n : ℕ). knows response_row (field_of n (Body body)) ≡ false) e not in cc)
      | inr ne ↦
          let not_1 : eqb number 1 ≡ false = ne_eqb number 1 ne in
          elim (cases_eq number 3) [
            | inl e ↦ absurd (let both = subst (λ (n : ℕ). knows response_row (field_of n (Body body)) ≡ false) e not in cc)
            | inr ne ↦
                let not_3 : eqb number 3 ≡ false = ne_eqb number 3 ne in
                elim (cases_eq number 1000) [
                  | inl e ↦ absurd (let both = subst (λ (n : ℕ). knows response_row (field_of n (Body body)) ≡ false) e not in cc)
                  | inr ne ↦
                      let not_1000 : eqb number 1000 ≡ false = ne_eqb number 1000 ne in
                      elim (cases_eq number 1001) [
                        | inl e ↦ absurd (let both = subst (λ (n : ℕ). knows response_row (field_of n (Body body)) ≡ false) e not in cc)
                        | inr ne ↦ let not_1001 : eqb number 1001 ≡ false = ne_eqb number 1001 ne in rw (not_1, not_3, not_1000, not_1001) refl
                      ]
                ]
          ]
    ]

-- no body of these fields has a fault
abbrev pub Unfaulty : Check → List Part → Type 0
Unfaulty check = AllByRecursion (λ p. (end : ℕ) → content_fault check end p.field ≡ None)

pub flow_unfaulty : (us : List Part) → NotKnown flow_row us → Unfaulty flow_check us
flow_unfaulty [] not = tt
flow_unfaulty (u ∷ us) not = (λ end. flow_passes end u.field.number u.field.content not.0, flow_unfaulty us not.1)

pub lost_event_unfaulty : (us : List Part) → NotKnown lost_event_row us → Unfaulty lost_event_check us
lost_event_unfaulty [] not = tt
lost_event_unfaulty (u ∷ us) not = (λ end. lost_event_passes end u.field.number u.field.content not.0, lost_event_unfaulty us not.1)

pub response_unfaulty : (us : List Part) → NotKnown response_row us → Unfaulty response_check us
response_unfaulty [] not = tt
response_unfaulty (u ∷ us) not = (λ end. response_passes end u.field.number u.field.content not.0, response_unfaulty us not.1)

-- ---- what is picked from no field that is known

module _ {A : Type 0} (pick : Part → Option A) (row : Row) (known_none : (p : Part) → knows row p.field ≡ true → pick p ≡ None) where
  pub none_picked : (ps : List Part) → AllByRecursion (λ p. knows row p.field ≡ true) ps → filter_map pick ps ≡ []
  none_picked [] known = refl
  none_picked (p ∷ ps) known = rw (known_none p known.0) (none_picked ps known.1)

  -- from known fields and others it is picked from the others
  pub picked_last : (ps us : List Part) → AllByRecursion (λ p. knows row p.field ≡ true) ps → filter_map pick (ps ++ us) ≡ filter_map pick us
  picked_last ps us known = filter_map-append pick ps us ∙ ap (λ (xs : List A). xs ++ filter_map pick us) (none_picked ps known)
