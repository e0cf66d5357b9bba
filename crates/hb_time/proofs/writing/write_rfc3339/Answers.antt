use Rattle.std.proofs.Common.{◌∙◌, to_z-of_z, w32, FitsSigned, rules, codes, unsigned_abs}
use Rattle.hb_time.specs.Texts.{day_text, clock_text, shortest}
use Rattle.std.proofs.lemmas.Result.{on_ok_weaker}
use Rattle.hb_time.proofs.WritingLemmas.{written, one_piece}
use Rattle.hb_time.proofs.writing.write_rfc3339.Goals as goal

pub returns-else-is_err-clause-ok : goal.returns-else-is_err-clause-ok
returns-else-is_err-clause-ok c =
    let fits : FitsSigned w32 c.args.stamp.nanos = search rules in
    let is = written c.args.stamp _ _ _ _ c.utc_of-utc.ensures.at c.day_at-day.ensures.is_day c.day_at-day.ensures.number c.clock_at-clock.ensures.is_clock c.clock_at-clock.ensures.second in
    on_ok_weaker c.put-written.result (λ e. (_, is, e ∙ one_piece c.args.out.now.items (day_text c.day_at-day.result) (codes "T") (clock_text c.clock_at-clock.result) (shortest (unsigned_abs c.args.stamp.nanos)) (codes "Z"))) (rw (to_z-of_z fits) at c.put-written.ensures.ok)
