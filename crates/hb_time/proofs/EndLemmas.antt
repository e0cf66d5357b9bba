-- The end of a text: a fraction and an offset.
use Rattle.std.proofs.Common.{◌≡◌, ℕ, ◌+◌, ◌-◌, ◌*◌, ◌^◌, ◌<◌, ◌≤◌, inl, inr, List, ◌∷◌, ◌++◌, length, get_or, take, drop, Option, Some, None, ◌↔◌, refl, sym, ap, ◌∙◌, subst, arith}
use Rattle.std.specs.Int.{IsInRange}
use Rattle.std.proofs.Math.Nat.{mul-le-mul_right, one-le-pow, add-mul}
use Rattle.std.proofs.lemmas.Nat.{pow-add}
use Rattle.std.proofs.lemmas.Bool.{cases_order}
use Rattle.std.proofs.lemmas.List.{take-append-drop, get_or-append-add, get_or-take}
use Rattle.hb_time.specs.declared.offset.Offset.{Offset}
use Rattle.hb_time.specs.Texts.{padded, SpellsOffset, SpellsEnd}
use Rattle.hb_time.proofs.DigitLemmas.{padded_length, padded_digit, no_number, same_front, same_number}
use Rattle.hb_time.proofs.OffsetLemmas.{offset_head}
use Rattle.hb_time.proofs.Exact.{parts_of, of_parts}

-- what `digits_at` found
pub record Found (digits : List ℕ) (number count : ℕ) : Type 0 where
  pub spelled : take count digits ≡ padded count number
  pub fits : number < 10 ^ count
  pub short : count ≤ length digits
  pub most : count ≤ 9
  pub longest : count < 9 → count < length digits → IsInRange 48 57 (get_or digits count 0) → ⊥

pub found_of : (digits : List ℕ) (number count : ℕ) → take count digits ≡ padded count number → number < 10 ^ count → (count ≤ length digits) × (count ≤ 9) → (count < 9 → count < length digits → IsInRange 48 57 (get_or digits count 0) → ⊥) → Found digits number count
found_of digits number count spelled fits within longest =
    record { spelled = spelled; fits = fits; short = within.0; most = within.1; longest = longest }

-- a fraction's digits, and an offset behind them
pub record Parts (digits : List ℕ) (nanos : ℕ) (offset : Offset) : Type 0 where
  pub width : ℕ
  pub number : ℕ
  pub zone : List ℕ
  pub some : 1 ≤ width
  pub most : width ≤ 9
  pub fits : number < 10 ^ width
  pub spelled : digits ≡ padded width number ++ zone
  pub is_zone : SpellsOffset zone offset
  pub value : nanos ≡ number * 10 ^ (9 - width)

pub parts : (text digits : List ℕ) (nanos : ℕ) (offset : Offset) → text ≡ 46 ∷ digits → SpellsEnd text nanos offset → Parts digits nanos offset
unfolding padded
parts text digits nanos offset e h =
    elim h.is_fraction [
      | inl none ↦
          let text_is : text ≡ h.zone = h.spelled ∙ ap (λ f. f ++ h.zone) none.0 in
          let head : get_or h.zone 0 0 ≡ 46 = ap (λ l. get_or l 0 0) (sym text_is ∙ e) in
          absurd ((offset_head h.zone offset h.is_zone).1 head)
      | inr d ↦
          let both = sym e ∙ h.spelled ∙ ap (λ f. f ++ h.zone) d.spelled in
          record { width = d.width; number = d.number; zone = h.zone; some = d.some; most = d.most; fits = d.fits; spelled = cc; is_zone = h.is_zone; value = d.value }
    ]

longer : (digits zone : List ℕ) (number count width n : ℕ) → Found digits number count → width < count → digits ≡ padded width n ++ zone → IsInRange 48 57 (get_or zone 0 0)
longer digits zone number count width n found more e =
    let long = padded_length width n in
    let zero_more : width + 0 ≡ width = omega arith in
    let at_zone : get_or digits width 0 ≡ get_or zone 0 0 = ap (λ l. get_or l width 0) e ∙ (subst (λ (k : ℕ). get_or (padded width n ++ zone) k 0 ≡ get_or zone 0 0) (ap (λ k. k + 0) long ∙ zero_more) (get_or-append-add (padded width n) zone 0 0)) in
    let at_digit : get_or digits width 0 ≡ get_or (padded count number) width 0 = sym (get_or-take count digits width 0 more) ∙ ap (λ l. get_or l width 0) found.spelled in
    subst (IsInRange 48 57) (sym at_digit ∙ at_zone) (padded_digit count number width more)

-- the digits that were found are the fraction's
pub same_digits : (digits : List ℕ) (number count nanos : ℕ) (offset : Offset) → Found digits number count → (p : Parts digits nanos offset) → (count ≡ p.width) × (number ≡ p.number) × (drop count digits ≡ p.zone)
same_digits digits number count nanos offset found p =
    elim (cases_order count p.width) [
      | inr (inl few) ↦
          let most = p.most in
          absurd (no_number digits p.width count few (λ below. found.longest (omega arith)) p.number p.zone p.spelled)
      | inr (inr more) ↦ absurd ((offset_head p.zone offset p.is_zone).0 (longer digits p.zone number count p.width p.number found more p.spelled))
      | inl same ↦
          let front = sym (ap (λ l. l ++ drop count digits) found.spelled) ∙ take-append-drop count digits ∙ p.spelled in
          let both = same_front (padded count number) (padded p.width p.number) _ _ (padded_length count number ∙ same ∙ sym (padded_length p.width p.number)) front in
          let spelled = subst (λ (w : ℕ). padded w number ≡ padded p.width p.number) same both.0 in
          (same, same_number p.width number p.number (subst (λ (w : ℕ). number < 10 ^ w) same found.fits) p.fits spelled, both.1)
    ]

pub no_digits : (text digits : List ℕ) (number count nanos : ℕ) (offset : Offset) → text ≡ 46 ∷ digits → Found digits number count → count ≡ 0 → SpellsEnd text nanos offset → ⊥
no_digits text digits number count nanos offset e found none h =
    let p = parts text digits nanos offset e h in
    let same = same_digits digits number count nanos offset found p in
    let some = p.some in
    absurd (omega (arith, same.0))

abbrev pub Offsets : List ℕ → Option Offset → Type 0
Offsets text found = (offset : Offset) → (found ≡ Some offset) ↔ SpellsOffset text offset

pub no_offset : (text digits : List ℕ) (number count nanos : ℕ) (offset : Offset) → text ≡ 46 ∷ digits → Found digits number count → Offsets (drop count digits) None → SpellsEnd text nanos offset → ⊥
no_offset text digits number count nanos offset e found exact h =
    let p = parts text digits nanos offset e h in
    let same = same_digits digits number count nanos offset found p in
    let none = (exact offset).1 (subst (λ (l : List ℕ). SpellsOffset l offset) (sym same.2) p.is_zone) in
    absurd cc

pub one_end : (text digits : List ℕ) (number count : ℕ) (zone : Offset) → text ≡ 46 ∷ digits → Found digits number count → 1 ≤ count → Offsets (drop count digits) (Some zone) → (nanos : ℕ) (offset : Offset) → (◌≡◌ {A = Option (ℕ × Offset)} (Some (number * 10 ^ (9 - count), zone)) (Some (nanos, offset))) ↔ SpellsEnd text nanos offset
unfolding padded
one_end text digits number count zone e found some exact nanos offset = (
  λ f.
      let same = parts_of (number * 10 ^ (9 - count)) nanos zone offset f in
      let front = sym (take-append-drop count digits) ∙ ap (λ l. l ++ drop count digits) found.spelled in
      record {
        fraction = 46 ∷ padded count number;
        zone = drop count digits;
        is_fraction = inr (record { width = count; number = number; some = some; most = found.most; fits = found.fits; spelled = refl; value = sym same.0 });
        is_zone = (exact offset).0 (ap Some same.1);
        spelled = e ∙ ap (λ l. 46 ∷ l) front;
      },
  λ h.
      let p = parts text digits nanos offset e h in
      let same = same_digits digits number count nanos offset found p in
      let named = (exact offset).1 (subst (λ (l : List ℕ). SpellsOffset l offset) (sym same.2) p.is_zone) in
      let zones : zone ≡ offset = cc in
      let value = ap (λ n. n * 10 ^ (9 - count)) same.1 ∙ ap (λ w. p.number * 10 ^ (9 - w)) same.0 ∙ sym p.value in
      of_parts _ nanos zone offset value zones,
)

-- a fraction is less than a second
pub scaled : (number count : ℕ) → number < 10 ^ count → count ≤ 9 → number * 10 ^ (9 - count) < 1_000_000_000
scaled number count fits most =
    let whole : count + (9 - count) ≡ 9 = omega arith in
    let power : 10 ^ 9 ≡ 10 ^ count * 10 ^ (9 - count) = sym (ap (λ k. 10 ^ k) whole) ∙ pow-add 10 count (9 - count) in
    let next : (number + 1) * 10 ^ (9 - count) ≤ 10 ^ count * 10 ^ (9 - count) = mul-le-mul_right (10 ^ (9 - count)) (omega arith) in
    let some : 1 ≤ 10 ^ (9 - count) = one-le-pow (9 - count) 10 (omega arith) in
    omega (arith, add-mul number 1 (10 ^ (9 - count)))
