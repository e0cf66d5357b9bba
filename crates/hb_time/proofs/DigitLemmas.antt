-- Numbers in so many digits.
use Rattle.std.proofs.Common.{Option, Some, ◌↔◌, ◌≡◌, ℕ, zero, suc, ◌+◌, ◌-◌, ◌*◌, ◌/◌, ◌%◌, ◌^◌, ◌<◌, ◌≤◌, List, [], ◌∷◌, ◌++◌, length, get_or, take, drop, refl, sym, ap, ◌∙◌, subst, arith, inl, inr}
use Rattle.std.specs.Int.{IsInRange}
use Rattle.std.proofs.Math.Nat.{pow-suc, pow-le-pow_right}
use Rattle.std.proofs.lemmas.Bool.{cases_lt}
use Rattle.std.proofs.lemmas.List.{take_more, length_push, get_or_append_left, get_or_push, take-append-drop, length-append}
use Rattle.std.proofs.Math.Seq.{take-length}
use Rattle.hb_time.specs.Texts.{padded}
use Rattle.hb_time.proofs.Exact.{parts_of, of_parts}

-- the first bytes of the text are the number's digits, as far as they were read
pub record Standing (text : List ℕ) (most number count : ℕ) : Type 0 where
  pub spelled : take count text ≡ padded count number
  pub fits : number < 10 ^ count
  pub short : count ≤ length text
  pub within : count ≤ most

pub padded_suc : (width number : ℕ) → padded (suc width) number ≡ padded width (number / 10) ++ (48 + number % 10) ∷ []
unfolding padded
padded_suc width number = refl

pub padded_zero : (number : ℕ) → padded 0 number ≡ []
unfolding padded
padded_zero number = refl

ten : (width : ℕ) → 10 ^ (width + 1) ≡ 10 ^ width * 10
ten width = let next : width + 1 ≡ suc width = omega arith in rw next (pow-suc 10 width)

-- one digit more
padded_more : (width number digit : ℕ) → digit < 10 → padded (width + 1) (10 * number + digit) ≡ padded width number ++ (48 + digit) ∷ []
padded_more width number digit h =
    let next : width + 1 ≡ suc width = omega arith in
    let front : (10 * number + digit) / 10 ≡ number = omega arith in
    let last : (10 * number + digit) % 10 ≡ digit = omega arith in
    rw next (padded_suc width (10 * number + digit) ∙ rw (front, last) refl)

pub nothing : (text : List ℕ) (most : ℕ) → Standing text most 0 0
nothing text most = record { spelled = sym (padded_zero 0); fits = omega arith; short = omega arith; within = omega arith }

pub one_more : (text : List ℕ) (most number count byte : ℕ) → Standing text most number count → count < most → count < length text → get_or text count 0 ≡ byte → IsInRange 48 57 byte → Standing text most (10 * number + (byte - 48)) (count + 1)
one_more text most number count byte h below here e digit =
    let small : byte - 48 < 10 = omega (arith, digit) in
    let back : 48 + (byte - 48) ≡ byte = omega (arith, digit) in
    let fits = h.fits in
    record {
      spelled = take_more text count 0 here ∙ rw (e, h.spelled) (sym (padded_more count number (byte - 48) small ∙ ap (λ b. padded count number ++ b ∷ []) back));
      fits = omega (arith, ten count);
      short = omega arith;
      within = omega arith;
    }

-- while fewer than nine digits were read, the next one fits
pub small_yet : (text : List ℕ) (most number count : ℕ) → Standing text most number count → most ≤ 9 → count < most → number < 100_000_000
small_yet text most number count h nine below =
    let limit : 10 ^ count ≤ 10 ^ 8 = pow-le-pow_right {n = 10} (omega arith) {i = count} {j = 8} (omega arith) in
    let fits = h.fits in
    omega arith

pub padded_length : (width number : ℕ) → length (padded width number) ≡ width
padded_length zero number = rw (padded_zero number) refl
padded_length (suc width) number =
    rw (padded_suc width number) (length_push (padded width (number / 10)) (48 + number % 10) ∙ rw (padded_length width (number / 10)) (omega arith))

pub padded_digit : (width number at : ℕ) → at < width → IsInRange 48 57 (get_or (padded width number) at 0)
padded_digit zero number at h = absurd (omega arith)
padded_digit (suc width) number at h =
    let long = padded_length width (number / 10) in
    rw (padded_suc width number)
    (elim (cases_lt at width) [
      | inl before ↦ rw (get_or_append_left (padded width (number / 10)) ((48 + number % 10) ∷ []) 0 at (omega arith)) (padded_digit width (number / 10) at before)
      | inr last ↦ rw (get_or_push (padded width (number / 10)) (48 + number % 10) 0 at (omega arith)) (omega arith, omega arith)
    ])

-- texts that begin alike
pub same_front : (a b x y : List ℕ) → length a ≡ length b → a ++ x ≡ b ++ y → (a ≡ b) × (x ≡ y)
same_front [] [] x y h e = (refl, e)
same_front [] (d ∷ b) x y h e = absurd (omega arith)
same_front (c ∷ a) [] x y h e = absurd (omega arith)
same_front (c ∷ a) (d ∷ b) x y h e =
    let head : c ≡ d = cc in
    let tail : a ++ x ≡ b ++ y = cc in
    let rest = same_front a b x y (omega arith) tail in
    (cc, rest.1)

pub same_number : (width m n : ℕ) → m < 10 ^ width → n < 10 ^ width → padded width m ≡ padded width n → m ≡ n
same_number zero m n h k e = omega arith
same_number (suc width) m n h k e =
    let both = sym (padded_suc width m) ∙ e ∙ padded_suc width n in
    let long = padded_length width (m / 10) ∙ sym (padded_length width (n / 10)) in
    let parts = same_front (padded width (m / 10)) (padded width (n / 10)) _ _ long both in
    let last : 48 + m % 10 ≡ 48 + n % 10 = cc in
    let power = pow-suc 10 width in
    let front = same_number width (m / 10) (n / 10) (omega arith) (omega arith) parts.0 in
    omega arith

-- where too few digits were found, there is no such number
pub no_number : (text : List ℕ) (width count : ℕ) → count < width → (count < width → count < length text → IsInRange 48 57 (get_or text count 0) → ⊥) → (n : ℕ) (rest : List ℕ) → text ≡ padded width n ++ rest → ⊥
no_number text width count few longest n rest e =
    let long = padded_length width n in
    let within : count < length text = rw e (omega (arith, length-append (padded width n) rest)) in
    let here : get_or text count 0 ≡ get_or (padded width n) count 0 = rw e (get_or_append_left (padded width n) rest 0 count (omega arith)) in
    longest few within (rw here (padded_digit width n count few))

-- and where as many were found, there is one
pub one_number : (text : List ℕ) (width number : ℕ) → take width text ≡ padded width number → number < 10 ^ width → width ≤ length text → (n : ℕ) (rest : List ℕ) → (◌≡◌ {A = Option (ℕ × List ℕ)} (Some (number, drop width text)) (Some (n, rest))) ↔ ((n < 10 ^ width) × (text ≡ padded width n ++ rest))
one_number text width number spelled fits short n rest =
    let whole = sym (take-append-drop width text) in
    let front = whole ∙ ap (λ l. l ++ drop width text) spelled in (
      λ e.
          let same = parts_of number n (drop width text) rest e in
          (subst (λ (k : ℕ). k < 10 ^ width) same.0 fits, subst (λ (k : ℕ). text ≡ padded width k ++ rest) same.0 (subst (λ (l : List ℕ). text ≡ padded width number ++ l) same.1 front)),
      λ h.
          let parts = same_front (padded width number) (padded width n) _ _ (padded_length width number ∙ sym (padded_length width n)) (sym front ∙ h.1) in
          of_parts number n (drop width text) rest (same_number width number n fits h.0 parts.0) parts.1,
    )

-- the same with a sign behind the digits
pub signed_number : (text behind : List ℕ) (width number sign : ℕ) → ((n : ℕ) (rest : List ℕ) → (◌≡◌ {A = Option (ℕ × List ℕ)} (Some (number, behind)) (Some (n, rest))) ↔ ((n < 10 ^ width) × (text ≡ padded width n ++ rest))) → 1 ≤ length behind → get_or behind 0 0 ≡ sign
    → (n : ℕ) (rest : List ℕ) → (◌≡◌ {A = Option (ℕ × List ℕ)} (Some (number, take (length behind - 1) (drop 1 behind))) (Some (n, rest))) ↔ ((n < 10 ^ width) × (text ≡ padded width n ++ sign ∷ rest))
signed_number text [] width number sign exact some e n rest = absurd (omega arith)
signed_number text (b ∷ behind) width number sign exact some e n rest =
    let long : length (b ∷ behind) - 1 ≡ length behind = omega arith in
    let all : take (length (b ∷ behind) - 1) behind ≡ behind = ap (λ m. take m behind) long ∙ take-length behind in (
      λ h.
          let same = parts_of number n _ rest h in
          let to_rest : behind ≡ rest = sym all ∙ same.1 in
          (exact n (sign ∷ rest)).0 (of_parts number n (b ∷ behind) (sign ∷ rest) same.0 (λ i. e i ∷ to_rest i)),
      λ h.
          let same = parts_of number n (b ∷ behind) (sign ∷ rest) ((exact n (sign ∷ rest)).1 h) in
          let cells = same.1 in
          let to_rest : behind ≡ rest = cc in
          of_parts number n _ rest same.0 (all ∙ to_rest),
    )
