use Rattle.hb_time.proofs.SpanLemmas.{no_unit, no_number, one_span}
use Rattle.hb_time.proofs.span.read_span.Goals as goal

pub returns-in_default : goal.returns-in_default
returns-in_default c =
    record { exact = λ nanos. (λ e. absurd cc, λ h. absurd (no_unit c.args.text.now (λ d s k. rw c.in_default.is at (c.split_unit.ensures.exact d s k)) nanos h)) }

pub returns-in-Some-read_number : goal.returns-in-Some-read_number
returns-in-Some-read_number c =
    rw (c.saturating_mul.ensures, c.from.ensures)
    (record { exact = one_span c.args.text.now c.in-Some.digits.now c.in-Some-read_number.number c.in-Some.scale (λ d s k. rw c.in-Some.is at (c.split_unit.ensures.exact d s k)) (λ n. rw c.in-Some-read_number.is at (c.read_number.ensures.exact n)) })

pub returns-in-None : goal.returns-in-None
returns-in-None c =
    record { exact = λ nanos. (λ e. absurd cc, λ h. absurd (no_number c.args.text.now c.in-Some.digits.now c.in-Some.scale (λ d s k. rw c.in-Some.is at (c.split_unit.ensures.exact d s k)) (λ n. rw c.in-None.is at (c.read_number.ensures.exact n)) nanos h)) }
