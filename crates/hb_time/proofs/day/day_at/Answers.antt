use Rattle.std.proofs.Common.{to_z-of_z, ◌≡◌, arith, rules, pos, ◌-ℤ◌, FitsSigned, w16}
use Rattle.jiff_core.specs.Date.{epoch_day}
use Rattle.jiff_core.proofs.SignedLemmas.{signed_arith}
use Rattle.hb_time.proofs.CalendarLemmas.{year_of, number_at}
use Rattle.hb_time.proofs.day.day_at.Goals as goal

pub overflow_cast-result : goal.overflow_cast-result
overflow_cast-result c =
    let e : epoch_day c.in-Ok.date ≡ pos c.args.number -ℤ pos 719_528 = omega (arith, signed_arith, c.in-Ok.ensures.value) in
    let year = year_of c.in-Ok.date c.args.number c.requires.0 e in
    let fits : FitsSigned w16 c.in-Ok.date.year = search rules in
    let bound = c.in-Ok.date.year_in in
    rw (to_z-of_z fits) (rw year (tt, omega (arith, signed_arith)))

pub returns-clause-number : goal.returns-clause-number
returns-clause-number c =
    let e : epoch_day c.in-Ok.date ≡ pos c.args.number -ℤ pos 719_528 = omega (arith, signed_arith, c.in-Ok.ensures.value) in
    let n = number_at c.in-Ok.date c.args.number c.requires.0 e in
    let fits : FitsSigned w16 c.in-Ok.date.year = search rules in
    rw (to_z-of_z fits, c.from-in-Ok.ensures, c.from-in-Ok-2.ensures) n
