-- Stamps by their numbers.
use Rattle.std.proofs.Common.{Option, Some, to_z, of_z, w32, w64, ◌+ℤ◌, ◌^◌, Bool, IsTrue, ◌&&◌, ◌↔◌, int_cmp, is_le, is_lt, ◌≡◌, ℕ, ◌<◌, ◌≤◌, refl, sym, ap, ◌∙◌, subst, arith, ℤ, pos, neg_ℤ, ◌-ℤ◌, ◌<ℤ◌, ◌≤ℤ◌, unsigned_abs}
use Rattle.std.proofs.lemmas.Int.{ints}
use Rattle.jiff_core.proofs.SignedLemmas.{signed_arith}
use Rattle.hb_time.specs.declared.stamp.Stamp.{Stamp}
use Rattle.hb_time.specs.Stamps.{since_1970, year_start, IsPrintable}
use Rattle.hb_time.specs.Texts.{IsAt}
use Rattle.hb_time.proofs.CalendarLemmas.{years_to_1, years_to_1970, years_to_10000, whole}

pub epoch : (second : ℕ) → since_1970 second ≡ pos second -ℤ pos 62_167_219_200
epoch second = rw years_to_1970 refl

pub first : year_start 1 ≡ neg_ℤ (pos 62_135_596_800)
first = rw (years_to_1, years_to_1970) refl

pub last : year_start 10_000 ≡ pos 253_402_300_800
last = rw (years_to_10000, years_to_1970) refl

-- a stamp within the bounds that the code tests
pub record Within (secs nanos : ℤ) : Type 0 where
  pub low : neg_ℤ (pos 62_135_596_800) ≤ℤ secs
  pub high : secs <ℤ pos 253_402_300_800
  pub not_negative : pos 0 ≤ℤ nanos
  pub below : nanos <ℤ pos 1_000_000_000

pub within : (stamp : Stamp) → IsPrintable stamp → Within stamp.secs stamp.nanos
within stamp h = record {
  low = subst (λ (z : ℤ). z ≤ℤ stamp.secs) first h.not_before;
  high = subst (λ (z : ℤ). stamp.secs <ℤ z) last h.before;
  not_negative = h.not_negative;
  below = h.nanos;
}

pub of_within : (stamp : Stamp) → Within stamp.secs stamp.nanos → IsPrintable stamp
of_within stamp h = record {
  not_before = subst (λ (z : ℤ). z ≤ℤ stamp.secs) (sym first) h.low;
  before = subst (λ (z : ℤ). stamp.secs <ℤ z) (sym last) h.high;
  not_negative = h.not_negative;
  nanos = h.below;
}

-- what a test of a range tells
pub in_range : (a b z : ℤ) (r : Bool) → r ≡ (is_le (int_cmp a z) && is_lt (int_cmp z b)) → IsTrue r ↔ ((a ≤ℤ z) × (z <ℤ b))
in_range a b z r e = rw e (grind (arith, ints))

pub tells : (stamp : Stamp) (a b : Bool) → (IsTrue a ↔ ((neg_ℤ (pos 62_135_596_800) ≤ℤ stamp.secs) × (stamp.secs <ℤ pos 253_402_300_800))) → (IsTrue b ↔ ((pos 0 ≤ℤ stamp.nanos) × (stamp.nanos <ℤ pos 1_000_000_000))) → (IsTrue a → IsTrue b ↔ IsPrintable stamp) × (IsPrintable stamp → IsTrue a)
tells stamp a b h k = (
  λ t. (
    λ u. of_within stamp (record { low = (h.0 t).0; high = (h.0 t).1; not_negative = (k.0 u).0; below = (k.0 u).1 }),
    λ p. let w = within stamp p in k.1 (w.not_negative, w.below),
  ),
  λ p. let w = within stamp p in h.1 (w.low, w.high),
)

pub one_at : (utc nanos : ℕ) (a b : Stamp) → IsAt utc nanos a → IsAt utc nanos b → a ≡ b
one_at utc nanos a b h k =
    let secs = h.second ∙ sym k.second in
    let rest = h.nanosecond ∙ sym k.nanosecond in
    λ i. record { secs = secs i; nanos = rest i }

-- the stamp of a second, where it is printable
pub exact_at : (utc nanos : ℕ) (stamp : Stamp) → stamp.secs ≡ pos utc -ℤ pos 62_167_219_200 → stamp.nanos ≡ pos nanos → IsPrintable stamp → (other : Stamp) → (◌≡◌ {A = Option Stamp} (Some stamp) (Some other)) ↔ IsAt utc nanos other
exact_at utc nanos stamp secs rest h other =
    let at : IsAt utc nanos stamp = record { second = secs ∙ sym (epoch utc); nanosecond = rest; printable = h } in (
      λ e. let same : stamp ≡ other = cc in subst (IsAt utc nanos) same at,
      λ k. ap Some (one_at utc nanos stamp other at k),
    )

-- and where it is not, there is none
pub none_at : (utc nanos : ℕ) (stamp : Stamp) → stamp.secs ≡ pos utc -ℤ pos 62_167_219_200 → stamp.nanos ≡ pos nanos → (IsPrintable stamp → ⊥) → (other : Stamp) → IsAt utc nanos other → ⊥
none_at utc nanos stamp secs rest h other k =
    let one = secs ∙ sym (epoch utc) ∙ sym k.second in
    let two = rest ∙ sym k.nanosecond in
    h (subst IsPrintable (λ i. record { secs = sym one i; nanos = sym two i }) k.printable)

pub second_of : (utc : ℕ) → utc < 2 ^ 41 → to_z w64 (of_z w64 (to_z w64 utc -ℤ pos 62_167_219_200)) ≡ pos utc -ℤ pos 62_167_219_200
second_of utc h = omega (arith, ints)

pub nanos_of : (nanos : ℕ) → nanos < 1_000_000_000 → to_z w32 nanos ≡ pos nanos
nanos_of nanos h = omega (arith, ints)

-- the second of UTC of a printable stamp
pub utc_at : (stamp : Stamp) (utc : ℕ) → IsPrintable stamp → stamp.secs +ℤ pos 62_167_219_200 ≡ pos utc → IsAt utc (unsigned_abs stamp.nanos) stamp
utc_at stamp utc h e = record {
  second = let z : stamp.secs ≡ pos utc -ℤ pos 62_167_219_200 = omega (arith, signed_arith) in z ∙ sym (epoch utc);
  nanosecond = whole stamp.nanos h.not_negative;
  printable = h;
}

pub utc_is : (secs nanos : ℤ) → Within secs nanos → (n : ℕ) × (to_z w64 (of_z w64 (to_z w64 (of_z w64 secs) +ℤ pos 62_167_219_200)) ≡ pos n) × (secs +ℤ pos 62_167_219_200 ≡ pos n) × (31_622_400 ≤ n) × (n < 315_569_520_000)
utc_is secs nanos h =
    let n = unsigned_abs (secs +ℤ pos 62_167_219_200) in
    let low = h.low in
    let high = h.high in
    let sum : secs +ℤ pos 62_167_219_200 ≡ pos n = whole _ (omega (arith, signed_arith)) in
    (n, omega (arith, signed_arith), sum, omega (arith, signed_arith), omega (arith, signed_arith))
