-- The digits that are written.
use Rattle.std.proofs.Common.{◌≡◌, ◌≢◌, ℕ, ◌+◌, ◌/◌, ◌%◌, ◌<◌, List, [], ◌∷◌, ◌++◌, codes, refl, sym, ◌∙◌, subst, arith, ne_eqb, append_assoc}
use Rattle.jiff_core.proofs.SignedLemmas.{signed_arith}
use Rattle.hb_time.specs.declared.clock.Clock.{Clock}
use Rattle.hb_time.specs.declared.day.Day.{Day}
use Rattle.hb_time.specs.declared.stamp.Stamp.{Stamp}
use Rattle.hb_time.specs.Calendar.{IsDay, day_number}
use Rattle.hb_time.specs.Stamps.{IsClock, clock_seconds, seconds}
use Rattle.hb_time.proofs.CalendarLemmas.{one_day}
use Rattle.hb_time.proofs.StampLemmas.{epoch}
use Rattle.hb_time.specs.Texts.{padded, day_text, clock_text, shortest, IsAt, IsWritten}

pub three : (n : ℕ) → n ≢ 0 → n % 1_000_000 ≡ 0 → shortest n ≡ 46 ∷ (48 + n / 100_000_000 % 10) ∷ (48 + n / 10_000_000 % 10) ∷ (48 + n / 1_000_000 % 10) ∷ []
unfolding padded
three n h e =
    let a : n / 100_000_000 ≡ n / 1_000_000 / 10 / 10 = omega arith in
    let b : n / 10_000_000 ≡ n / 1_000_000 / 10 = omega arith in
    rw (ne_eqb n 0 h, e, a, b) refl

pub six : (n : ℕ) → n ≢ 0 → n % 1_000_000 ≢ 0 → n % 1_000 ≡ 0
    → shortest n ≡ 46 ∷ (48 + n / 100_000_000 % 10) ∷ (48 + n / 10_000_000 % 10) ∷ (48 + n / 1_000_000 % 10) ∷ (48 + n / 100_000 % 10) ∷ (48 + n / 10_000 % 10) ∷ (48 + n / 1_000 % 10) ∷ []
unfolding padded
six n h k e =
    let a : n / 100_000_000 ≡ n / 1_000 / 10 / 10 / 10 / 10 / 10 = omega arith in
    let b : n / 10_000_000 ≡ n / 1_000 / 10 / 10 / 10 / 10 = omega arith in
    let c : n / 1_000_000 ≡ n / 1_000 / 10 / 10 / 10 = omega arith in
    let d : n / 100_000 ≡ n / 1_000 / 10 / 10 = omega arith in
    let f : n / 10_000 ≡ n / 1_000 / 10 = omega arith in
    rw (ne_eqb n 0 h, ne_eqb (n % 1_000_000) 0 k, e, a, b, c, d, f) refl

pub nine : (n : ℕ) → n ≢ 0 → n % 1_000_000 ≢ 0 → n % 1_000 ≢ 0
    → shortest n ≡ 46 ∷ (48 + n / 100_000_000 % 10) ∷ (48 + n / 10_000_000 % 10) ∷ (48 + n / 1_000_000 % 10) ∷ (48 + n / 100_000 % 10) ∷ (48 + n / 10_000 % 10) ∷ (48 + n / 1_000 % 10) ∷ (48 + n / 100 % 10) ∷ (48 + n / 10 % 10) ∷ (48 + n % 10) ∷ []
unfolding padded
nine n h k e =
    let a : n / 100_000_000 ≡ n / 10 / 10 / 10 / 10 / 10 / 10 / 10 / 10 = omega arith in
    let b : n / 10_000_000 ≡ n / 10 / 10 / 10 / 10 / 10 / 10 / 10 = omega arith in
    let c : n / 1_000_000 ≡ n / 10 / 10 / 10 / 10 / 10 / 10 = omega arith in
    let d : n / 100_000 ≡ n / 10 / 10 / 10 / 10 / 10 = omega arith in
    let f : n / 10_000 ≡ n / 10 / 10 / 10 / 10 = omega arith in
    let g : n / 1_000 ≡ n / 10 / 10 / 10 = omega arith in
    let i : n / 100 ≡ n / 10 / 10 = omega arith in
    rw (ne_eqb n 0 h, ne_eqb (n % 1_000_000) 0 k, ne_eqb (n % 1_000) 0 e, a, b, c, d, f, g, i) refl

-- the day and the time of day of a second of UTC are those of its text
pub written : (stamp : Stamp) (utc nanos : ℕ) (day : Day) (clock : Clock) → IsAt utc nanos stamp → IsDay day → day_number day ≡ utc / 86_400 → IsClock clock → clock_seconds clock ≡ utc % 86_400 → IsWritten (day_text day ++ codes "T" ++ clock_text clock ++ shortest nanos ++ codes "Z") stamp
written stamp utc nanos day clock at is_day number is_clock second =
    let same : utc ≡ seconds day clock = omega (arith, number, second) in
    record {
      day = day;
      clock = clock;
      nanos = nanos;
      is_day = is_day;
      is_clock = is_clock;
      at = subst (λ (u : ℕ). IsAt u nanos stamp) same at;
      spelled = refl;
    }

-- seconds name one time of day
same_clock : (a b : Clock) → IsClock a → IsClock b → clock_seconds a ≡ clock_seconds b → a ≡ b
same_clock a b h k e =
    let one = h.minute in
    let two = h.second in
    let three = k.minute in
    let four = k.second in
    let hour : a.hour ≡ b.hour = omega arith in
    let minute : a.minute ≡ b.minute = omega arith in
    let second : a.second ≡ b.second = omega arith in
    λ i. record { hour = hour i; minute = minute i; second = second i }

clock_bound : (clock : Clock) → IsClock clock → clock_seconds clock < 86_400
clock_bound clock h =
    let one = h.hour in
    let two = h.minute in
    let three = h.second in
    omega arith

pub same_text : (stamp : Stamp) (a b : List ℕ) → IsWritten a stamp → IsWritten b stamp → a ≡ b
same_text stamp a b h k =
    let second = sym (epoch (seconds h.day h.clock)) ∙ sym h.at.second ∙ k.at.second ∙ epoch (seconds k.day k.clock) in
    let utc : seconds h.day h.clock ≡ seconds k.day k.clock = omega (arith, signed_arith) in
    let low = clock_bound h.clock h.is_clock in
    let high = clock_bound k.clock k.is_clock in
    let number : day_number h.day ≡ day_number k.day = omega arith in
    let rest : clock_seconds h.clock ≡ clock_seconds k.clock = omega arith in
    let day = one_day h.day k.day h.is_day k.is_day number in
    let clock = same_clock h.clock k.clock h.is_clock k.is_clock rest in
    let nanos : h.nanos ≡ k.nanos = let both = sym h.at.nanosecond ∙ k.at.nanosecond in cc in
    h.spelled ∙ (λ i. day_text (day i) ++ codes "T" ++ clock_text (clock i) ++ shortest (nanos i) ++ codes "Z") ∙ sym k.spelled

pub one_piece : (out day sign clock fraction zone : List ℕ) → out ++ day ++ sign ++ clock ++ fraction ++ zone ≡ out ++ (day ++ sign ++ clock ++ fraction ++ zone)
one_piece out day sign clock fraction zone = simp append_assoc
