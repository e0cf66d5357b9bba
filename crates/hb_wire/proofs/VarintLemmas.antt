-- What reads as a varint is what spells one, and each number has one shortest varint.
use Rattle.std.proofs.Common.{◌≡◌, ℕ, zero, suc, ◌+◌, ◌-◌, ◌*◌, ◌/◌, ◌%◌, ◌^◌, ◌<◌, ◌≤◌, List, [], ◌∷◌, ◌++◌, ◌↔◌, length, take, drop, Option, Some, None, refl, sym, ap, subst, ◌∙◌, arith, add-one, inl, inr}
use Rattle.std.specs.Option.{option_map}
use Rattle.std.proofs.lemmas.Bool.{cases_lt}
use Rattle.std.proofs.lemmas.List.{take_at, take-append-drop, length-take}
use Rattle.std.proofs.Math.Nat.{pow-suc}
use Rattle.hb_wire.specs.Varint.{Spells, IsVarint, varint, varint_of, AreBytes}
use Rattle.hb_wire.specs.Reading.{varint_from, varint_at}
use Rattle.hb_wire.proofs.Writes.{of_last, of_more}
use Rattle.hb_wire.proofs.Limits.{step_last, step_past, step_ends, step_on, limit_one}

-- a number below 128 more times as far
higher : (more : ℕ) → 2 * 128 ^ (suc more) ≡ 128 * (2 * 128 ^ more)
higher more = rw pow-suc (omega arith)

-- ---- what spells a number reads as it

pub spelled_reads : (more : ℕ) (bytes rest : List ℕ) (n : ℕ) → Spells bytes n → length bytes ≤ more + 1 → n < 2 * 128 ^ more → varint_from more (bytes ++ rest) ≡ Some (n, length bytes)
spelled_reads more [] rest n h short fits = absurd h
spelled_reads zero (b ∷ []) rest n h short fits =
    let low : b < 2 = omega (arith, h.1) in
    step_last 0 b rest refl low ∙ ap (λ (k : ℕ). Some (k, 1)) (sym h.1)
spelled_reads (suc more) (b ∷ []) rest n h short fits =
    let pos : 0 < suc more = omega arith in
    step_ends (suc more) b rest pos h.0 ∙ ap (λ (k : ℕ). Some (k, 1)) (sym h.1)
spelled_reads zero (b ∷ c ∷ bytes) rest n h short fits = absurd (omega arith)
spelled_reads (suc more) (b ∷ c ∷ bytes) rest n h short fits =
    let pos : 0 < suc more = omega arith in
    let e : suc more - 1 ≡ more = omega arith in
    let below : h.1 < 2 * 128 ^ more = omega (arith, higher more, h.0, h.2) in
    let again = spelled_reads more (c ∷ bytes) rest h.1 h.3 (omega arith) below in
    let longer : length (c ∷ bytes) + 1 ≡ length (b ∷ c ∷ bytes) = omega arith in
    let same : b - 128 + 128 * h.1 ≡ n = omega (arith, h.0, h.2) in
    step_on (suc more) b (c ∷ bytes ++ rest) pos h.0 ∙ rw (e, again, same) (ap (λ (k : ℕ). Some (n, k)) longer)

-- ---- what reads as a number spells it

-- a value and a size that were read
pub some_is : {A : Type 0} (x y : A) → Some x ≡ Some y → x ≡ y
some_is x y e = cc

pub mapped : {A B : Type 0} (f : A → B) (o : Option A) (y : B) → option_map f o ≡ Some y → (x : A) × (o ≡ Some x) × (Some (f x) ≡ Some y)
mapped f None y e = absurd cc
mapped f (Some x) y e = (x, refl, e)

pub spells_on : (b n rest : ℕ) (bytes : List ℕ) → 0 < length bytes → 128 ≤ b → n + 128 ≡ b + 128 * rest → Spells bytes rest → Spells (b ∷ bytes) n
spells_on b n rest [] some le e h = absurd (omega arith)
spells_on b n rest (c ∷ bytes) some le e h = (le, rest, e, h)

-- what was read at the front
pub record Front (more : ℕ) (bytes : List ℕ) (n size : ℕ) : Type 0 where
  pub some : 0 < size
  pub within : size ≤ length bytes
  pub short : size ≤ more + 1
  pub spells : Spells (take size bytes) n
  pub fits : AreBytes bytes → n < 2 * 128 ^ more

front_on : (more b : ℕ) (bytes : List ℕ) (n size : ℕ) → 128 ≤ b → Front more bytes n size → Front (suc more) (b ∷ bytes) (b - 128 + 128 * n) (size + 1)
front_on more b bytes n size le front =
    let some = front.some in
    let within = front.within in
    let short = front.short in
    let long : 0 < length (take size bytes) = omega (arith, length-take size bytes) in
    let sum : b - 128 + 128 * n + 128 ≡ b + 128 * n = omega arith in
    record {
      some = omega arith;
      within = omega arith;
      short = omega arith;
      spells = rw add-one (spells_on b (b - 128 + 128 * n) n (take size bytes) long le sum front.spells);
      fits = λ are. omega (arith, higher more, are 0, front.fits (λ i. are (suc i)));
    }

pub front : (more : ℕ) (bytes : List ℕ) (n size : ℕ) → varint_from more bytes ≡ Some (n, size) → Front more bytes n size
unfolding varint_from
front more [] n size e = absurd cc
front zero (b ∷ bytes) n size e =
    elim (cases_lt b 2) [
      | inl lt ↦
          let lower : b < 128 = omega arith in
          subst (λ (r : ℕ × ℕ). Front zero (b ∷ bytes) r.0 r.1) (some_is (b, 1) (n, size) (sym (step_last 0 b bytes refl lt) ∙ e))
          (record { some = omega arith; within = omega arith; short = omega arith; spells = (lower, refl); fits = λ are. omega arith })
      | inr le ↦ let none = step_past 0 b bytes refl le in absurd cc
    ]
front (suc more) (b ∷ bytes) n size e =
    let pos : 0 < suc more = omega arith in
    elim (cases_lt b 128) [
      | inl lt ↦
          subst (λ (r : ℕ × ℕ). Front (suc more) (b ∷ bytes) r.0 r.1) (some_is (b, 1) (n, size) (sym (step_ends (suc more) b bytes pos lt) ∙ e))
          (record { some = omega arith; within = omega arith; short = omega arith; spells = (lt, refl); fits = λ are. omega (arith, limit_one (suc more) pos) })
      | inr le ↦
          let less : suc more - 1 ≡ more = omega arith in
          let on : varint_from (suc more) (b ∷ bytes) ≡ option_map (λ rest. (b - 128 + 128 * rest.0, rest.1 + 1)) (varint_from more bytes) = subst (λ (k : ℕ). varint_from (suc more) (b ∷ bytes) ≡ option_map (λ rest. (b - 128 + 128 * rest.0, rest.1 + 1)) (varint_from k bytes)) less (step_on (suc more) b bytes pos le) in
          let x = mapped (λ rest. (b - 128 + 128 * rest.0, rest.1 + 1)) (varint_from more bytes) (n, size) (sym on ∙ e) in
          subst (λ (r : ℕ × ℕ). Front (suc more) (b ∷ bytes) r.0 r.1) (some_is (b - 128 + 128 * x.0.0, x.0.1 + 1) (n, size) x.2)
          (front_on more b bytes x.0.0 x.0.1 le (front more bytes x.0.0 x.0.1 x.1))
    ]

-- ---- the shortest spelling

pub record Shortest (more n : ℕ) : Type 0 where
  pub some : 0 < length (varint_of more n)
  pub short : length (varint_of more n) ≤ more + 1
  pub spells : Spells (varint_of more n) n

pub shortest : (more n : ℕ) → n < 2 * 128 ^ more → Shortest more n
unfolding varint_of
shortest zero n lt = let lower : n < 128 = omega arith in record { some = omega arith; short = omega arith; spells = (lower, refl) }
shortest (suc more) n lt =
    let pos : 0 < suc more = omega arith in
    elim (cases_lt n 128) [
      | inl low ↦
          let e : n ∷ [] ≡ varint_of (suc more) n = sym (of_last (suc more) n low) in
          record {
            some = subst (λ (x : List ℕ). 0 < length x) e (omega arith);
            short = subst (λ (x : List ℕ). length x ≤ suc more + 1) e (omega arith);
            spells = subst (λ (x : List ℕ). Spells x n) e (low, refl);
          }
      | inr le ↦
          let less : suc more - 1 ≡ more = omega arith in
          let e : (n % 128 + 128) ∷ varint_of more (n / 128) ≡ varint_of (suc more) n = sym (subst (λ (k : ℕ). varint_of (suc more) n ≡ (n % 128 + 128) ∷ varint_of k (n / 128)) less (of_more (suc more) n pos le)) in
          let rest = shortest more (n / 128) (omega (arith, higher more)) in
          let rest_some = rest.some in
          let rest_short = rest.short in
          record {
            some = subst (λ (x : List ℕ). 0 < length x) e (omega arith);
            short = subst (λ (x : List ℕ). length x ≤ suc more + 1) e (omega arith);
            spells = subst (λ (x : List ℕ). Spells x n) e (spells_on (n % 128 + 128) n (n / 128) (varint_of more (n / 128)) rest_some (omega arith) (omega arith) rest.spells);
          }
    ]

pub no_shorter : (more : ℕ) (bytes : List ℕ) (n : ℕ) → AreBytes bytes → Spells bytes n → length (varint_of more n) ≤ length bytes
unfolding varint_of
no_shorter more [] n are h = absurd h
no_shorter more (b ∷ []) n are h =
    let low : n < 128 = omega (arith, h.0, h.1) in
    rw (of_last more n low) (omega arith)
no_shorter zero (b ∷ c ∷ bytes) n are h = omega arith
no_shorter (suc more) (b ∷ c ∷ bytes) n are h =
    let pos : 0 < suc more = omega arith in
    elim (cases_lt n 128) [
      | inl low ↦ rw (of_last (suc more) n low) (omega arith)
      | inr le ↦
          let less : suc more - 1 ≡ more = omega arith in
          let quotient : n / 128 ≡ h.1 = omega (arith, are 0, h.0, h.2) in
          let rest : length (varint_of more (n / 128)) ≤ length (c ∷ bytes) = rw quotient (no_shorter more (c ∷ bytes) h.1 (λ i. are (suc i)) h.3) in
          rw (of_more (suc more) n pos le, less) (omega arith)
    ]

-- ---- what callers need

pub varint_reads : (bytes rest : List ℕ) (n : ℕ) → IsVarint bytes n → varint_at (bytes ++ rest) ≡ Some (n, length bytes)
unfolding varint_at
varint_reads bytes rest n is =
    let short = is.short in
    let fits = is.fits in
    spelled_reads 9 bytes rest n is.spells (omega arith) (omega arith)

pub varint_front : (bytes : List ℕ) (n size : ℕ) → varint_at bytes ≡ Some (n, size) → Front 9 bytes n size
unfolding varint_at
varint_front bytes n size e = front 9 bytes n size e

pub varint_found : (bytes : List ℕ) (n size : ℕ) → AreBytes bytes → varint_at bytes ≡ Some (n, size) → IsVarint (take size bytes) n
varint_found bytes n size are e =
    let found = varint_front bytes n size e in
    let short = found.short in
    record { spells = found.spells; short = omega (arith, length-take size bytes); fits = omega (arith, found.fits are) }

pub varint_is : (n : ℕ) → n < 2 ^ 64 → IsVarint (varint n) n
unfolding varint
varint_is n lt = let short = shortest 9 n (omega arith) in record { spells = short.spells; short = short.short; fits = lt }

pub varint_some : (n : ℕ) → n < 2 ^ 64 → (0 < length (varint n)) × (length (varint n) ≤ 10)
unfolding varint
varint_some n lt = let short = shortest 9 n (omega arith) in (short.some, short.short)

of_nonempty : (more n : ℕ) → 0 < length (varint_of more n)
unfolding varint_of
of_nonempty zero n = omega arith
of_nonempty (suc more) n =
    let pos : 0 < suc more = omega arith in
    elim (cases_lt n 128) [ inl low ↦ rw (of_last (suc more) n low) (omega arith) | inr le ↦ rw (of_more (suc more) n pos le) (omega arith) ]

pub varint_nonempty : (n : ℕ) → 0 < length (varint n)
unfolding varint
varint_nonempty n = of_nonempty 9 n

pub varint_again : (n : ℕ) (rest : List ℕ) → n < 2 ^ 64 → varint_at (varint n ++ rest) ≡ Some (n, length (varint n))
varint_again n rest lt = varint_reads (varint n) rest n (varint_is n lt)

pub varint_shortest : (bytes : List ℕ) (n : ℕ) → AreBytes bytes → IsVarint bytes n → length (varint n) ≤ length bytes
unfolding varint
varint_shortest bytes n are is = no_shorter 9 bytes n are is.spells

pub varint_one : (a b x y : List ℕ) (m n : ℕ) → IsVarint a m → IsVarint b n → a ++ x ≡ b ++ y → (a ≡ b) × (m ≡ n)
varint_one a b x y m n first second e =
    let same : (m, length a) ≡ (n, length b) = some_is (m, length a) (n, length b) (sym (varint_reads a x m first) ∙ ap varint_at e ∙ varint_reads b y n second) in
    let sizes : length a ≡ length b = ap (λ (r : ℕ × ℕ). r.1) same in
    (sym (take_at a x (length a) refl) ∙ ap (λ (s : List ℕ). take (length a) s) e ∙ take_at b y (length a) (sym sizes), ap (λ (r : ℕ × ℕ). r.0) same)

pub varint_exact : (bytes : List ℕ) (n size : ℕ) → AreBytes bytes → (varint_at bytes ≡ Some (n, size)) ↔ ((size ≤ length bytes) × IsVarint (take size bytes) n)
varint_exact bytes n size are = (
  λ e. ((varint_front bytes n size e).within, varint_found bytes n size are e),
  λ h.
      let len : length (take size bytes) ≡ size = omega (arith, length-take size bytes, h.0) in
      ap varint_at (sym (take-append-drop size bytes)) ∙ varint_reads (take size bytes) (drop size bytes) n h.1 ∙ ap (λ (k : ℕ). Some (n, k)) len,
)
