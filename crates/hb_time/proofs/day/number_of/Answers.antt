use Rattle.std.proofs.Common.{◌≡◌, sym, ap, ◌∙◌, arith, pos, ◌+ℤ◌, to_z, of_z, w64}
use Rattle.jiff_core.specs.Date.{epoch_day}
use Rattle.jiff_core.proofs.SignedLemmas.{signed_arith}
use Rattle.hb_time.specs.Calendar.{IsDay, day_number}
use Rattle.hb_time.proofs.CalendarLemmas.{of_new, number_bound}
use Rattle.hb_time.proofs.Exact.{exact_some}
use Rattle.hb_time.proofs.day.number_of.Goals as goal

pub overflow_cast-result : goal.overflow_cast-result
overflow_cast-result c =
    let known = of_new c.new.result c.in_ok-date.date c.args.day c.requires c.new.ensures.value (sym c.ok.ensures.value ∙ c.in_ok-date.was) in
    let epoch = c.to_unix_epoch_day.ensures.value ∙ ap epoch_day c.to_plain.ensures ∙ known.1 in
    let bound = number_bound c.args.day known.0 in
    let n : to_z w64 (of_z w64 (to_z w64 (of_z w64 c.from-since_1970.result) +ℤ pos 719528)) ≡ pos (day_number c.args.day) = omega (arith, signed_arith) in
    rw n (tt, omega arith)

pub returns-clause-exact : goal.returns-clause-exact
returns-clause-exact c = λ n.
    let known = of_new c.new.result c.in_ok-date.date c.args.day c.requires c.new.ensures.value (sym c.ok.ensures.value ∙ c.in_ok-date.was) in
    let epoch = c.to_unix_epoch_day.ensures.value ∙ ap epoch_day c.to_plain.ensures ∙ known.1 in
    let bound = number_bound c.args.day known.0 in
    let is : to_z w64 (of_z w64 (to_z w64 (of_z w64 c.from-since_1970.result) +ℤ pos 719528)) ≡ pos (day_number c.args.day) = omega (arith, signed_arith) in
    rw is (exact_some (IsDay c.args.day) (day_number c.args.day) n known.0)
