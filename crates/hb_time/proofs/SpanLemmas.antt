-- A number and its unit.
use Rattle.std.proofs.Common.{◌≡◌, ◌≢◌, ℕ, ◌*◌, ◌<◌, inl, inr, List, [], ◌∷◌, ◌++◌, length, Option, Some, None, Result, Ok, ◌↔◌, min, ◌-◌, ◌^◌, refl, sym, ap, ◌∙◌, subst, arith, append_assoc}
use Rattle.std.proofs.lemmas.List.{length-append}
use Rattle.std.specs.Char.{digit_value}
use Rattle.std.specs.Str.Parse.{AllDigits, IsNumeral}
use Rattle.hb_time.specs.declared.bad_time.BadTime.{BadTime}
use Rattle.hb_time.specs.Spans.{SpellsNumber, SpellsSpan}
use Rattle.hb_time.specs.Reading.{EndsInUnit}
use Rattle.hb_time.proofs.DigitLemmas.{same_front}
use Rattle.hb_time.proofs.Exact.{parts_of, of_parts}

-- the last byte of digits is a digit
last_digit : (front : List ℕ) (byte : ℕ) → AllDigits 10 (front ++ byte ∷ []) → digit_value byte < 10
last_digit [] byte h = h.0
last_digit (b ∷ front) byte h = last_digit front byte h.1

no_letter : (digits front : List ℕ) → IsNumeral 10 digits → digits ≢ front ++ 109 ∷ []
no_letter digits front h e = let low = last_digit front 109 (subst (AllDigits 10) e h.1) in absurd (omega arith)

-- texts that end in one byte each
same_end : (a b : List ℕ) (x y : ℕ) → a ++ x ∷ [] ≡ b ++ y ∷ [] → (a ≡ b) × (x ≡ y)
same_end a b x y e =
    let long = ap length e in
    let even : length a ≡ length b = omega (arith, length-append a (x ∷ []), length-append b (y ∷ [])) in
    let parts = same_front a b (x ∷ []) (y ∷ []) even e in
    (parts.0, cc)

two_ends : (digits : List ℕ) → digits ++ 109 ∷ 115 ∷ [] ≡ (digits ++ 109 ∷ []) ++ 115 ∷ []
two_ends digits = sym (append_assoc digits (109 ∷ []) (115 ∷ []))

abbrev pub IsExact : List ℕ → Option (List ℕ × ℕ) → Type 0
IsExact text answer = (digits : List ℕ) (scale : ℕ) → IsNumeral 10 digits → (answer ≡ Some (digits, scale)) ↔ EndsInUnit text digits scale

-- the text ends in `ms`
pub in_ms : (text front before : List ℕ) → text ≡ front ++ 115 ∷ [] → front ≡ before ++ 109 ∷ [] → IsExact text (Some (before, 1_000_000))
in_ms text front before e h digits scale numeral =
    let whole : text ≡ before ++ 109 ∷ 115 ∷ [] = e ∙ ap (λ l. l ++ 115 ∷ []) h ∙ sym (two_ends before) in (
      λ k.
          let same = parts_of before digits 1_000_000 scale k in
          (109 ∷ 115 ∷ [], inl (refl, sym same.1), subst (λ (l : List ℕ). text ≡ l ++ 109 ∷ 115 ∷ []) same.0 whole),
      λ k. elim k.1 [
        | inl ms ↦
            let one = same_end front (digits ++ 109 ∷ []) 115 115 (sym e ∙ k.2 ∙ ap (λ u. digits ++ u) ms.0 ∙ two_ends digits) in
            let two = same_end before digits 109 109 (sym h ∙ one.0) in
            of_parts before digits 1_000_000 scale two.0 (sym ms.1)
        | inr (inl s) ↦
            let one = same_end front digits 115 115 (sym e ∙ k.2 ∙ ap (λ u. digits ++ u) s.0) in
            absurd (no_letter digits before numeral (sym one.0 ∙ h))
        | inr (inr (inl m)) ↦
            let one = same_end front digits 115 109 (sym e ∙ k.2 ∙ ap (λ u. digits ++ u) m.0) in
            absurd (omega (arith, one.1))
        | inr (inr (inr hour)) ↦
            let one = same_end front digits 115 104 (sym e ∙ k.2 ∙ ap (λ u. digits ++ u) hour.0) in
            absurd (omega (arith, one.1))
      ],
    )

-- the text ends in `s` alone
pub in_s : (text front : List ℕ) → text ≡ front ++ 115 ∷ [] → ((before : List ℕ) → front ≢ before ++ 109 ∷ []) → IsExact text (Some (front, 1_000_000_000))
in_s text front e h digits scale numeral = (
  λ k.
      let same = parts_of front digits 1_000_000_000 scale k in
      (115 ∷ [], inr (inl (refl, sym same.1)), subst (λ (l : List ℕ). text ≡ l ++ 115 ∷ []) same.0 e),
  λ k. elim k.1 [
    | inl ms ↦
        let one = same_end front (digits ++ 109 ∷ []) 115 115 (sym e ∙ k.2 ∙ ap (λ u. digits ++ u) ms.0 ∙ two_ends digits) in
        absurd (h digits one.0)
    | inr (inl s) ↦
        let one = same_end front digits 115 115 (sym e ∙ k.2 ∙ ap (λ u. digits ++ u) s.0) in
        of_parts front digits 1_000_000_000 scale one.0 (sym s.1)
    | inr (inr (inl m)) ↦
        let one = same_end front digits 115 109 (sym e ∙ k.2 ∙ ap (λ u. digits ++ u) m.0) in
        absurd (omega (arith, one.1))
    | inr (inr (inr hour)) ↦
        let one = same_end front digits 115 104 (sym e ∙ k.2 ∙ ap (λ u. digits ++ u) hour.0) in
        absurd (omega (arith, one.1))
  ],
)

-- the text ends in no unit
pub in_none : (text : List ℕ) → ((front : List ℕ) → text ≢ front ++ 115 ∷ []) → ((front : List ℕ) → text ≢ front ++ 109 ∷ []) → ((front : List ℕ) → text ≢ front ++ 104 ∷ []) → IsExact text None
in_none text s m hour digits scale numeral = (
  λ k. absurd cc,
  λ k. elim k.1 [
    | inl u ↦ absurd (s (digits ++ 109 ∷ []) (k.2 ∙ ap (λ u. digits ++ u) u.0 ∙ two_ends digits))
    | inr (inl u) ↦ absurd (s digits (k.2 ∙ ap (λ u. digits ++ u) u.0))
    | inr (inr (inl u)) ↦ absurd (m digits (k.2 ∙ ap (λ u. digits ++ u) u.0))
    | inr (inr (inr u)) ↦ absurd (hour digits (k.2 ∙ ap (λ u. digits ++ u) u.0))
  ],
)

-- no span without a unit, or without a number
pub no_unit : (text : List ℕ) → IsExact text None → (nanos : ℕ) → SpellsSpan text nanos → ⊥
no_unit text exact nanos h =
    let none = (exact h.digits h.scale h.is_number.0).1 (h.unit, h.is_unit, h.spelled) in
    absurd cc

pub no_number : (text front : List ℕ) (scale : ℕ) → IsExact text (Some (front, scale)) → ((n : ℕ) → (◌≡◌ {A = Option ℕ} None (Some n)) ↔ SpellsNumber front n) → (nanos : ℕ) → SpellsSpan text nanos → ⊥
no_number text front scale exact number nanos h =
    let same = parts_of front h.digits scale h.scale ((exact h.digits h.scale h.is_number.0).1 (h.unit, h.is_unit, h.spelled)) in
    let none = (number h.number).1 (subst (λ (l : List ℕ). SpellsNumber l h.number) (sym same.0) h.is_number) in
    absurd cc

pub one_span : (text front : List ℕ) (m scale : ℕ) → IsExact text (Some (front, scale)) → ((n : ℕ) → (◌≡◌ {A = Option ℕ} (Some m) (Some n)) ↔ SpellsNumber front n) → (nanos : ℕ) → (◌≡◌ {A = Result ℕ BadTime} (Ok (min (m * scale) (2 ^ 64 - 1))) (Ok nanos)) ↔ SpellsSpan text nanos
one_span text front m scale exact number nanos = (
  λ e.
      let value : nanos ≡ min (m * scale) (2 ^ 64 - 1) = cc in
      let is = (number m).0 refl in
      let found = (exact front scale is.0).0 refl in
      record { digits = front; unit = found.0; number = m; scale = scale; is_number = is; is_unit = found.1; spelled = found.2; value = value },
  λ h.
      let same = parts_of front h.digits scale h.scale ((exact h.digits h.scale h.is_number.0).1 (h.unit, h.is_unit, h.spelled)) in
      let one : m ≡ h.number = let s = (number h.number).1 (subst (λ (l : List ℕ). SpellsNumber l h.number) (sym same.0) h.is_number) in cc in
      ap Ok (ap (λ a. min (a * scale) (2 ^ 64 - 1)) one ∙ ap (λ b. min (h.number * b) (2 ^ 64 - 1)) same.1 ∙ sym h.value),
)
