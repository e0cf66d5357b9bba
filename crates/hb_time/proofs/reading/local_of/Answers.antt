use Rattle.std.proofs.Common.{◌≡◌, ◌+◌, ◌*◌, refl}
use Rattle.hb_time.specs.Calendar.{IsDay, day_number}
use Rattle.hb_time.specs.Stamps.{seconds}
use Rattle.hb_time.proofs.Exact.{exact_some}
use Rattle.hb_time.proofs.reading.local_of.Goals as goal

pub returns-in_err-number-clause-exact : goal.returns-in_err-number-clause-exact
returns-in_err-number-clause-exact c = λ local.
    let none = c.from_residual.ensures in (
      λ e. absurd cc,
      λ h. let found = (c.in_err-number.ensures.exact (day_number c.args.day)).1 (h.0, refl) in absurd cc,
    )

pub returns-clause-exact : goal.returns-clause-exact
returns-clause-exact c = λ local.
    let is = (c.in_ok-number.ensures.exact c.in_ok-number.number).0 refl in
    let value : 86_400 * c.from.result + c.from-2.result ≡ seconds c.args.day c.args.clock = rw (c.from.ensures, is.1, c.from-2.ensures, c.seconds_of.ensures.value) refl in
    rw value (exact_some (IsDay c.args.day) (seconds c.args.day c.args.clock) local is.0)
