-- Lengths in decimal.
use Rattle.std.proofs.Common.{◌≡◌, ◌≢◌, ℕ, ◌^◌, ◌<◌, List, length, get_or, Some, Result, Ok, Err, ◌↔◌, decimal, refl, sym, ap, subst, ◌∙◌, arith, ne_eqb, inl, inr}
use Rattle.std.specs.Result.{result_ok}
use Rattle.std.specs.Str.Parse.{IsNumeral, digits_value, ParsesUnsigned, without_leading_plus}
use Rattle.std.proofs.lemmas.Bool.{cases_lt}
use Rattle.std.proofs.lemmas.Fmt.{decimal_is_IsNumeral, decimal_digit, first_decimal, decimal-digits_value}
use Rattle.std.proofs.lemmas.Str.Parse.{numerals_by_value, tells_digits, digit_at}
use Rattle.hb_ip.specs.Blocks.{IsPlain}

without_plus : (text : List ℕ) → get_or text 0 0 ≢ 43 → without_leading_plus text ≡ text
without_plus text h = rw (ne_eqb (get_or text 0 0) 43 h) refl

pub plain_decimal : (n : ℕ) → n < 256 → IsPlain (decimal n)
plain_decimal n fits =
    let small : n < 2 ^ 64 = omega arith in
    let numeral = decimal_is_IsNumeral n small in
    let first = digit_at (decimal n) 0 numeral.0.1 numeral.0.0 in
    record {
      some = numeral.0.0;
      unsigned = λ e. omega (arith, first);
      alone = λ e. elim (cases_lt n 10) [
        | inl one ↦ omega (arith, ap length (decimal_digit n one))
        | inr more ↦ absurd (omega (arith, first_decimal n (omega arith) small))
      ];
    }

-- what `parse` makes of such a text is exact
pub exact_length : {E : Type 0} (text : List ℕ) (r : Result ℕ E) → IsPlain text → ParsesUnsigned 8 10 text r → (n : ℕ) → n < 256 → (result_ok r ≡ Some n) ↔ (text ≡ decimal n)
exact_length text (Ok value) plain h n fits =
    let same = without_plus text plain.unsigned in
    let numeral = subst (λ (t : List ℕ). IsNumeral 10 t × (digits_value 10 t < 2 ^ 8)) same h.0 in
    let is : value ≡ digits_value 10 text = h.1 ∙ ap (digits_value 10) same in
    let spelled = decimal-digits_value (numerals_by_value _ tells_digits) text numeral.0.1 numeral.0.0 plain.alone (omega (arith, numeral.1)) in (
      λ e. let v : value ≡ n = cc in sym spelled ∙ ap decimal (sym is ∙ v),
      λ e. let value_is = (decimal_is_IsNumeral n (omega arith)).1 in let v : value ≡ n = is ∙ ap (digits_value 10) e ∙ value_is in ap Some v,
    )
exact_length text (Err e) plain h n fits = (
  λ e. absurd cc,
  λ e.
      let same = without_plus text plain.unsigned in
      let numeral = decimal_is_IsNumeral n (omega arith) in
      let own : IsNumeral 10 text × (digits_value 10 text < 2 ^ 8) = subst (λ (t : List ℕ). IsNumeral 10 t × (digits_value 10 t < 2 ^ 8)) (sym e) (numeral.0, omega (arith, numeral.1)) in
      absurd (h (subst (λ (t : List ℕ). IsNumeral 10 t × (digits_value 10 t < 2 ^ 8)) (sym same) own)),
)
