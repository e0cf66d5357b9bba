-- A text from its front to its end.
use Rattle.std.proofs.Common.{◌≡◌, ℕ, ◌<◌, List, ◌∷◌, ◌++◌, codes, Option, Some, None, ◌↔◌, refl, sym, ap, ◌∙◌, subst, arith, append_assoc}
use Rattle.hb_time.specs.declared.clock.Clock.{Clock}
use Rattle.hb_time.specs.declared.day.Day.{Day}
use Rattle.hb_time.specs.declared.offset.Offset.{Offset}
use Rattle.hb_time.specs.declared.stamp.Stamp.{Stamp}
use Rattle.hb_time.specs.Calendar.{IsDay, days_of_month}
use Rattle.hb_time.specs.Stamps.{IsClock, seconds}
use Rattle.hb_time.specs.Texts.{padded, day_text, clock_text, SpellsEnd, SpellsStamp, InUtc, IsAt}
use Rattle.hb_time.specs.Reading.{FitsDigits}
use Rattle.hb_time.proofs.OffsetLemmas.{Before}
use Rattle.hb_time.proofs.Exact.{parts_of, of_parts}

day_joined : (day : Day) (rest : List ℕ) → day_text day ++ codes "T" ++ rest ≡ padded 4 day.year ++ 45 ∷ (padded 2 day.month ++ 45 ∷ (padded 2 day.day ++ 84 ∷ rest))
unfolding padded
day_joined day rest = refl

abbrev pub Front : List ℕ → Option (Day × List ℕ) → Type 0
Front text found = (day : Day) (rest : List ℕ) → (found ≡ Some (day, rest)) ↔ (FitsDigits day × (text ≡ day_text day ++ codes "T" ++ rest))

-- the three numbers are the day's
pub one_day_front : (text one two rest : List ℕ) (year month day : ℕ) → Before text 4 45 (Some (year, one)) → Before one 2 45 (Some (month, two)) → Before two 2 84 (Some (day, rest)) → Front text (Some (record { year = year; month = month; day = day }, rest))
one_day_front text one two rest year month day first second third other behind =
    let a = (first year one).0 refl in
    let b = (second month two).0 refl in
    let d = (third day rest).0 refl in
    let date : Day = record { year = year; month = month; day = day } in
    let fits : FitsDigits date = record { year = a.0; month = b.0; day_of_month = d.0 } in
    let spelled : text ≡ day_text date ++ codes "T" ++ rest = a.1 ∙ ap (λ l. padded 4 year ++ 45 ∷ l) (b.1 ∙ ap (λ l. padded 2 month ++ 45 ∷ l) d.1) ∙ sym (day_joined date rest) in (
      λ e.
          let same = parts_of date other rest behind e in
          (subst FitsDigits same.0 fits, subst (λ (x : Day). text ≡ day_text x ++ codes "T" ++ behind) same.0 (subst (λ (l : List ℕ). text ≡ day_text date ++ codes "T" ++ l) same.1 spelled)),
      λ h.
          let low = h.0.year in
          let p = parts_of year other.year one _ ((first other.year _).1 (h.0.year, h.1 ∙ day_joined other behind)) in
          let q = parts_of month other.month two _ ((second other.month _).1 (h.0.month, p.1)) in
          let r = parts_of day other.day rest behind ((third other.day behind).1 (h.0.day_of_month, q.1)) in
          of_parts date other rest behind (λ i. record { year = p.0 i; month = q.0 i; day = r.0 i }) r.1,
    )

month_bound : (year month : ℕ) → days_of_month year month < 100
month_bound year month = grind arith

fits : (day : Day) → IsDay day → FitsDigits day
fits day h =
    let month = h.month in
    let last = h.day_of_month in
    record { year = h.year; month = omega arith; day_of_month = omega (arith, month_bound day.year day.month) }

-- what the calls along the way answer
abbrev pub Clocks : List ℕ → Option (Clock × List ℕ) → Type 0
Clocks text found = (clock : Clock) (rest : List ℕ) → (found ≡ Some (clock, rest)) ↔ (IsClock clock × (text ≡ clock_text clock ++ rest))

abbrev pub Ends : List ℕ → Option (ℕ × Offset) → Type 0
Ends text found = (nanos : ℕ) (offset : Offset) → (found ≡ Some (nanos, offset)) ↔ SpellsEnd text nanos offset

abbrev pub Locals : Day → Clock → Option ℕ → Type 0
Locals day clock found = (local : ℕ) → (found ≡ Some local) ↔ (IsDay day × (local ≡ seconds day clock))

abbrev pub Utcs : ℕ → Offset → Option ℕ → Type 0
Utcs local offset found = (utc : ℕ) → (found ≡ Some utc) ↔ InUtc local offset utc

joined : (day : Day) (clock : Clock) (rest : List ℕ) → day_text day ++ codes "T" ++ clock_text clock ++ rest ≡ day_text day ++ codes "T" ++ (clock_text clock ++ rest)
joined day clock rest = append_assoc (day_text day ++ codes "T") (clock_text clock) rest

pub no_front : (text : List ℕ) (stamp : Stamp) → Front text None → SpellsStamp text stamp → ⊥
no_front text stamp front h =
    let none = (front h.day (clock_text h.clock ++ h.rest)).1 (fits h.day h.is_day, h.spelled ∙ joined h.day h.clock h.rest) in
    absurd cc

pub front_part : (text rest : List ℕ) (day : Day) (stamp : Stamp) → Front text (Some (day, rest)) → (h : SpellsStamp text stamp) → (day ≡ h.day) × (rest ≡ clock_text h.clock ++ h.rest)
front_part text rest day stamp front h = parts_of day h.day rest _ ((front h.day (clock_text h.clock ++ h.rest)).1 (fits h.day h.is_day, h.spelled ∙ joined h.day h.clock h.rest))

pub no_clock : (text rest : List ℕ) (day : Day) (stamp : Stamp) → Front text (Some (day, rest)) → Clocks rest None → SpellsStamp text stamp → ⊥
no_clock text rest day stamp front clocks h =
    let one = front_part text rest day stamp front h in
    let none = (clocks h.clock h.rest).1 (h.is_clock, one.1) in
    absurd cc

pub clock_part : (text rest behind : List ℕ) (day : Day) (clock : Clock) (stamp : Stamp) → Front text (Some (day, rest)) → Clocks rest (Some (clock, behind)) → (h : SpellsStamp text stamp) → (day ≡ h.day) × (clock ≡ h.clock) × (behind ≡ h.rest)
clock_part text rest behind day clock stamp front clocks h =
    let one = front_part text rest day stamp front h in
    let two = parts_of clock h.clock behind h.rest ((clocks h.clock h.rest).1 (h.is_clock, one.1)) in
    (one.0, two.0, two.1)

module _ (text rest behind : List ℕ) (day : Day) (clock : Clock) (front : Front text (Some (day, rest))) (clocks : Clocks rest (Some (clock, behind))) where
  pub no_end : (stamp : Stamp) → Ends behind None → SpellsStamp text stamp → ⊥
  no_end stamp ends h =
      let two = clock_part text rest behind day clock stamp front clocks h in
      let none = (ends h.nanos h.offset).1 (subst (λ (l : List ℕ). SpellsEnd l h.nanos h.offset) (sym two.2) h.is_end) in
      absurd cc

  end_part : (nanos : ℕ) (offset : Offset) (stamp : Stamp) → Ends behind (Some (nanos, offset)) → (h : SpellsStamp text stamp) → (nanos ≡ h.nanos) × (offset ≡ h.offset)
  end_part nanos offset stamp ends h =
      let two = clock_part text rest behind day clock stamp front clocks h in
      parts_of nanos h.nanos offset h.offset ((ends h.nanos h.offset).1 (subst (λ (l : List ℕ). SpellsEnd l h.nanos h.offset) (sym two.2) h.is_end))

  pub no_local : (stamp : Stamp) → Locals day clock None → SpellsStamp text stamp → ⊥
  no_local stamp locals h =
      let two = clock_part text rest behind day clock stamp front clocks h in
      let none = (locals (seconds day clock)).1 (subst IsDay (sym two.0) h.is_day, refl) in
      absurd cc

  local_part : (local : ℕ) (stamp : Stamp) → Locals day clock (Some local) → (h : SpellsStamp text stamp) → local ≡ seconds h.day h.clock
  local_part local stamp locals h =
      let two = clock_part text rest behind day clock stamp front clocks h in
      let is = (locals local).0 refl in
      is.1 ∙ ap (λ x. seconds x clock) two.0 ∙ ap (λ x. seconds h.day x) two.1

  utc_part : (nanos local : ℕ) (offset : Offset) (stamp : Stamp) → Ends behind (Some (nanos, offset)) → Locals day clock (Some local) → (h : SpellsStamp text stamp) → InUtc local offset h.utc
  utc_part nanos local offset stamp ends locals h =
      let three = end_part nanos offset stamp ends h in
      let four = local_part local stamp locals h in
      subst (λ (o : Offset). InUtc local o h.utc) (sym three.1) (subst (λ (n : ℕ). InUtc n h.offset h.utc) (sym four) h.in_utc)

  pub no_utc : (nanos local : ℕ) (offset : Offset) (stamp : Stamp) → Ends behind (Some (nanos, offset)) → Locals day clock (Some local) → Utcs local offset None → SpellsStamp text stamp → ⊥
  no_utc nanos local offset stamp ends locals utcs h =
      let none = (utcs h.utc).1 (utc_part nanos local offset stamp ends locals h) in
      absurd cc

  pub one_stamp : (nanos local utc : ℕ) (offset : Offset) (found : Option Stamp) → Ends behind (Some (nanos, offset)) → Locals day clock (Some local) → Utcs local offset (Some utc) → ((stamp : Stamp) → (found ≡ Some stamp) ↔ IsAt utc nanos stamp) → (stamp : Stamp) → (found ≡ Some stamp) ↔ SpellsStamp text stamp
  one_stamp nanos local utc offset found ends locals utcs stamps stamp = (
    λ e.
        let d = (front day rest).0 refl in
        let t = (clocks clock behind).0 refl in
        let z = (ends nanos offset).0 refl in
        let l = (locals local).0 refl in
        let u = (utcs utc).0 refl in
        record {
          day = day;
          clock = clock;
          rest = behind;
          nanos = nanos;
          offset = offset;
          utc = utc;
          is_day = l.0;
          is_clock = t.0;
          is_end = z;
          spelled = d.1 ∙ ap (λ b. day_text day ++ codes "T" ++ b) t.1 ∙ sym (joined day clock behind);
          in_utc = subst (λ (n : ℕ). InUtc n offset utc) l.1 u;
          at = (stamps stamp).0 e;
        },
    λ h.
        let three = end_part nanos offset stamp ends h in
        let same : utc ≡ h.utc = let s = (utcs h.utc).1 (utc_part nanos local offset stamp ends locals h) in cc in
        (stamps stamp).1 (subst (λ (n : ℕ). IsAt utc n stamp) (sym three.0) (subst (λ (u : ℕ). IsAt u h.nanos stamp) (sym same) h.at)),
  )
