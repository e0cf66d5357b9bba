-- Numbers in words, as `parse` reads them, and powers of two.
use Rattle.std.proofs.Common.{◌≡◌, ℕ, ◌<◌, ◌≤◌, ◌+◌, ◌/◌, ◌^◌, List, length, get_or, Some, None, Result, Ok, Err, arith, Bool, true, false, ◌≢◌, ◌&&◌, ◌==◌, refl, ◌∙◌, ap, sym, rules, zero, suc, ◌%◌, pow-suc}
use Rattle.std.specs.Prelude.{if◌then◌else◌, nat_le, count_ones, slice_index}
use Rattle.std.specs.Int.{IsPowerOfTwo}
use Rattle.std.specs.List.{list_all}
use Rattle.std.specs.Str.{all_ascii_digits}
use Rattle.std.specs.Str.Parse.{ParsesUnsigned, digits_value}
use Rattle.std.specs.Result.{OkIff, result_ok}
use Rattle.std.proofs.lemmas.Nat.{ones_le_self, zero_from_ones}
use lib.Count.{ones_step}
use Rattle.std.proofs.lemmas.Bool.Decides.{Decides-ltb, Decides-eqb, nat_tests}
use Rattle.std.proofs.lemmas.Str.Parse.{IsNumeralModel, numerals_by_value, tells_all_ascii_digits, parse_plain}
use Rattle.std.proofs.Math.Pow.{pow-lt}
use Rattle.hb_api.specs.Limits.{longest_name}
use Rattle.hb_look.specs.Limits.{IsCapacity, largest_capacity}
use Rattle.hb_words.specs.Values.{number, is_name, is_name_letter}

own : IsNumeralModel (λ ds. all_ascii_digits ds ≡ true) (digits_value 10)
own = numerals_by_value _ tells_all_ascii_digits

taken : (a b c : Bool) (n : ℕ) → a ≡ true → b ≡ true → c ≡ true → (if a && b && c then Some n else None) ≡ Some n
taken a b c n p q r = rw (p, q, r) refl

left : (a b c : Bool) (n : ℕ) → (a ≡ true → b ≡ true → c ≡ true → ⊥) → (if a && b && c then Some n else None) ≡ None
left true true true n h = absurd (h refl refl refl)
left true true false n h = refl
left true false c n h = refl
left false b c n h = refl

no_plus : (text : List ℕ) → false ≡ (slice_index text 0 == 43) → get_or text 0 0 ≢ 43
no_plus text plain e = let t : (slice_index text 0 == 43) ≡ true = (Decides-eqb _ _).1 e in cc

-- where no plus stands first, a text is read as its number
pub number_read : {E : Type 0} (text : List ℕ) (r : Result ℕ E) → false ≡ (slice_index text 0 == 43) → ParsesUnsigned 64 10 text r
    → result_ok r ≡ number text
number_read {E} text (Ok n) plain h =
    let p : OkIff {E = E} (Ok n) ((all_ascii_digits text ≡ true) × (0 < length text) × (digits_value 10 text < 2 ^ 64)) (digits_value 10 text) =
    parse_plain own {E = E} 64 text (Ok n) h (no_plus text plain) in
    ap Some p.1 ∙ sym (taken _ _ _ _ ((Decides-ltb _ _).1 p.0.1) p.0.0 ((Decides-ltb _ _).1 p.0.2))
number_read text (Err e) plain h =
    let p : (all_ascii_digits text ≡ true) × (0 < length text) × (digits_value 10 text < 2 ^ 64) → ⊥ = parse_plain own 64 text (Err e) h (no_plus text plain) in
    sym (left _ _ _ _ (λ a b c. p (b, (Decides-ltb _ _).0 a, (Decides-ltb _ _).0 c)))

double : (n : ℕ) → n % 2 ≡ 0 → IsPowerOfTwo (n / 2) → IsPowerOfTwo n
double n even p = (suc p.0, omega (arith, p.1, pow-suc 2 p.0))

by_last_bit : (n b : ℕ) → n % 2 ≡ b → count_ones n ≡ 1 → (count_ones (n / 2) ≡ 1 → IsPowerOfTwo (n / 2)) → IsPowerOfTwo n
by_last_bit n zero even e half = double n even (half (omega (arith, ones_step n)))
by_last_bit n (suc b) odd e half = let rest : n / 2 ≡ 0 = zero_from_ones (n / 2) (omega (arith, ones_step n)) in (0, omega arith)

power_below : (d n : ℕ) → n ≤ d → count_ones n ≡ 1 → IsPowerOfTwo n
power_below zero n h e = absurd (omega (arith, ones_le_self n))
power_below (suc d) n h e = by_last_bit n (n % 2) refl e (power_below d (n / 2) (omega arith))

-- a number of one bit is a power of two
pub power_from_ones : (n : ℕ) → count_ones n ≡ 1 → IsPowerOfTwo n
power_from_ones n = power_below n n (omega arith)

low : (n k : ℕ) → 1 ≤ n → n + 1 ≡ 2 ^ k → 1 ≤ k
low n zero least e = absurd (omega arith)
low n (suc k) least e = omega arith

high : (n k : ℕ) → n ≤ largest_capacity → n + 1 ≡ 2 ^ k → k ≤ 16
high n k most e = let above : 16 < k → 65536 < 2 ^ k = λ h. pow-lt h in grind (arith, above)

-- what the test of a capacity says
pub capacity_from_ones : (n : ℕ) → 1 ≤ n → n ≤ largest_capacity → true ≡ (count_ones (n + 1) == 1) → IsCapacity n
capacity_from_ones n least most e =
    let p : IsPowerOfTwo (n + 1) = power_from_ones (n + 1) ((Decides-eqb _ _).0 (sym e)) in
    (p.0, low n p.0 least p.1, high n p.0 most p.1, p.1)

and_three : (a b c : Bool) → a ≡ true → b ≡ true → (a && b && c) ≡ c
and_three a b c p q = rw (p, q) refl

-- a text of a length that a name may have is one by its letters
pub name_by_letters : (text : List ℕ) → false ≡ (length text == 0) → length text ≤ longest_name → is_name text ≡ list_all is_name_letter text
name_by_letters text some most =
    let least : 1 ≤ length text = grind (arith, nat_tests) in
    and_three (nat_le 1 (length text)) (nat_le (length text) longest_name) (list_all is_name_letter text) (search (rules, arith)) (search (rules, arith))
