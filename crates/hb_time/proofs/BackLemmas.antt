-- What is written is read.
use Rattle.std.proofs.Common.{◌≡◌, ◌≢◌, ℕ, zero, suc, ◌/◌, ◌%◌, ◌<◌, inl, inr, List, ◌++◌, codes, refl, ◌∙◌, arith, ne_eqb, append_assoc}
use Rattle.std.proofs.lemmas.Bool.{cases_order}
use Rattle.jiff_core.proofs.SignedLemmas.{signed_arith}
use Rattle.hb_time.specs.declared.offset.Offset.TheVariants.{Ahead}
use Rattle.hb_time.specs.declared.stamp.Stamp.{Stamp}
use Rattle.hb_time.specs.Stamps.{seconds}
use Rattle.hb_time.specs.Texts.{padded, day_text, clock_text, shortest, SpellsFraction, SpellsStamp, IsAt, IsWritten}

three_digits : (n : ℕ) → n ≢ 0 → n % 1_000_000 ≡ 0 → shortest n ≡ codes "." ++ padded 3 (n / 1_000_000)
three_digits n h e = rw (ne_eqb n 0 h, e) refl

six_digits : (n : ℕ) → n ≢ 0 → n % 1_000_000 ≢ 0 → n % 1_000 ≡ 0 → shortest n ≡ codes "." ++ padded 6 (n / 1_000)
six_digits n h k e = rw (ne_eqb n 0 h, ne_eqb (n % 1_000_000) 0 k, e) refl

nine_digits : (n : ℕ) → n ≢ 0 → n % 1_000_000 ≢ 0 → n % 1_000 ≢ 0 → shortest n ≡ codes "." ++ padded 9 n
nine_digits n h k e = rw (ne_eqb n 0 h, ne_eqb (n % 1_000_000) 0 k, ne_eqb (n % 1_000) 0 e) refl

-- the digits that are written spell the nanoseconds
fraction : (n : ℕ) → n < 1_000_000_000 → SpellsFraction (shortest n) n
fraction zero h = inl (refl, refl)
fraction (suc m) h =
    let some : suc m ≢ 0 = λ e. absurd (omega arith) in
    elim (cases_order (suc m % 1_000_000) 0) [
      | inl e ↦ inr (record { width = 3; number = suc m / 1_000_000; some = omega arith; most = omega arith; fits = omega arith; spelled = three_digits (suc m) some e; value = omega arith })
      | inr (inl lt) ↦ absurd (omega arith)
      | inr (inr more) ↦
          let k : suc m % 1_000_000 ≢ 0 = λ e. absurd (omega arith) in
          elim (cases_order (suc m % 1_000) 0) [
            | inl e ↦ inr (record { width = 6; number = suc m / 1_000; some = omega arith; most = omega arith; fits = omega arith; spelled = six_digits (suc m) some k e; value = omega arith })
            | inr (inl lt) ↦ absurd (omega arith)
            | inr (inr left) ↦ inr (record { width = 9; number = suc m; some = omega arith; most = omega arith; fits = h; spelled = nine_digits (suc m) some k (λ e. absurd (omega arith)); value = omega arith })
          ]
    ]

nanos_bound : (stamp : Stamp) (utc n : ℕ) → IsAt utc n stamp → n < 1_000_000_000
nanos_bound stamp utc n h = let below = h.printable.nanos in let is = h.nanosecond in omega (arith, signed_arith)

pub read_again : (text : List ℕ) (stamp : Stamp) → IsWritten text stamp → SpellsStamp text stamp
read_again text stamp h =
    let front = day_text h.day ++ codes "T" ++ clock_text h.clock in
    record {
      day = h.day;
      clock = h.clock;
      rest = shortest h.nanos ++ codes "Z";
      nanos = h.nanos;
      offset = Ahead 0;
      utc = seconds h.day h.clock;
      is_day = h.is_day;
      is_clock = h.is_clock;
      is_end = record {
        fraction = shortest h.nanos;
        zone = codes "Z";
        is_fraction = fraction h.nanos (nanos_bound stamp _ h.nanos h.at);
        is_zone = inl (refl, refl);
        spelled = refl;
      };
      spelled = h.spelled ∙ append_assoc front (shortest h.nanos) (codes "Z");
      in_utc = omega arith;
      at = h.at;
    }
