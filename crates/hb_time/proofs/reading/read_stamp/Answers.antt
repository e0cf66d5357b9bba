use Rattle.std.proofs.Common.{refl}
use Rattle.hb_time.proofs.ReadingLemmas.{no_front, no_clock, no_end, no_local, no_utc, one_stamp}
use Rattle.hb_time.proofs.reading.read_stamp.Goals as goal

pub returns-in_err-day : goal.returns-in_err-day
returns-in_err-day c =
    let none = c.from_residual.ensures in
    record { exact = λ stamp. (λ e. absurd cc, λ h. absurd (no_front c.args.text.now stamp c.in_err-day.ensures.exact h)) }

pub returns-in_err-clock : goal.returns-in_err-clock
returns-in_err-clock c =
    let none = c.from_residual-in_err-clock.ensures in
    record { exact = λ stamp. (λ e. absurd cc, λ h. absurd (no_clock c.args.text.now _ _ stamp c.in_ok-day.ensures.exact c.in_err-clock.ensures.exact h)) }

pub returns-in_err-nanos : goal.returns-in_err-nanos
returns-in_err-nanos c =
    let none = c.from_residual-in_err-nanos.ensures in
    record { exact = λ stamp. (λ e. absurd cc, λ h. absurd (no_end c.args.text.now _ _ _ _ c.in_ok-day.ensures.exact c.in_ok-clock.ensures.exact stamp c.in_err-nanos.ensures.exact h)) }

pub local_of-requires-clause-digits : goal.local_of-requires-clause-digits
local_of-requires-clause-digits c = ((c.in_ok-day.ensures.exact _ _).0 refl).0

pub local_of-requires-clause-clock : goal.local_of-requires-clause-clock
local_of-requires-clause-clock c = ((c.in_ok-clock.ensures.exact _ _).0 refl).0

pub returns-in_err-local_of : goal.returns-in_err-local_of
returns-in_err-local_of c =
    let none = c.from_residual-in_err-local_of.ensures in
    record { exact = λ stamp. (λ e. absurd cc, λ h. absurd (no_local c.args.text.now _ _ _ _ c.in_ok-day.ensures.exact c.in_ok-clock.ensures.exact stamp c.in_err-local_of.ensures.exact h)) }

pub returns-in_err-utc : goal.returns-in_err-utc
returns-in_err-utc c =
    let none = c.from_residual-in_err-utc.ensures in
    record { exact = λ stamp. (λ e. absurd cc, λ h. absurd (no_utc c.args.text.now _ _ _ _ c.in_ok-day.ensures.exact c.in_ok-clock.ensures.exact _ _ _ stamp c.in_ok-nanos.ensures.exact c.in_ok-local_of.ensures.exact c.in_err-utc.ensures.exact h)) }

pub returns : goal.returns
returns c = record { exact = one_stamp c.args.text.now _ _ _ _ c.in_ok-day.ensures.exact c.in_ok-clock.ensures.exact _ _ _ _ _ c.in_ok-nanos.ensures.exact c.in_ok-local_of.ensures.exact c.in_ok-utc.ensures.exact c.stamp_at.ensures.exact }
