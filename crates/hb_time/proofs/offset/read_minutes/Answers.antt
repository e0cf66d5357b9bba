use Rattle.std.proofs.Common.{rules, arith}
use Rattle.hb_time.proofs.OffsetLemmas.{no_minute, both_parts, one_minutes}
use Rattle.hb_time.proofs.offset.read_minutes.Goals as goal
use Rattle.hb_time.proofs.offset.read_minutes.Goals.{then-hour-gt23-via-then-hour-gt23, then-hour-gt23-via-else-hour-gt23+then-minute-gt59, then-hour-gt23-via-else-hour-gt23+else-minute-gt59+then-not-is_empty}

pub returns-in_err-minute : goal.returns-in_err-minute
returns-in_err-minute c =
    let none = c.from_residual-in_err-minute.ensures in
    record { exact = λ minutes. (λ e. absurd cc, λ h. absurd (no_minute _ _ _ minutes c.in_ok-hour.ensures.exact c.in_err-minute.ensures.exact h)) }

pub returns-then-hour-gt23 : goal.returns-then-hour-gt23
returns-then-hour-gt23 c = record {
  exact = λ minutes. (
    λ e. absurd cc,
    λ h.
        let same = both_parts _ _ _ _ _ minutes c.in_ok-hour.ensures.exact c.in_ok-minute.ensures.exact h in
        let hours = h.hours in
        let below = h.below in
        elim c.then-hour-gt23.branch [
          | then-hour-gt23-via-then-hour-gt23 w ↦ let over = w.if-hour-gt23.true in absurd (omega arith)
          | then-hour-gt23-via-else-hour-gt23+then-minute-gt59 w ↦ let over = w.if-minute-gt59.true in absurd (omega arith)
          | then-hour-gt23-via-else-hour-gt23+else-minute-gt59+then-not-is_empty w ↦
              let left = rw same.2 at w.if-not-is_empty.ensures in absurd cc
        ],
  );
}

pub returns : goal.returns
returns c = record { exact = one_minutes _ _ _ _ _ c.in_ok-hour.ensures.exact c.in_ok-minute.ensures.exact c.if-hour-gt23.false c.if-minute-gt59.false (search rules) }
