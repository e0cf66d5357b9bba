use Rattle.std.proofs.Common.{◌∙◌, ap, Some}
use Rattle.hb_schema.specs.Rows.{Meaning}
use Rattle.hb_schema.specs.Steps.{merged, merging}
use Rattle.hb_schema.proofs.message.fresh.Goals as goal

pub returns-in-Ok-merge : goal.returns-in-Ok-merge
unfolding merged merging
returns-in-Ok-merge g c =
    let is = c.in-Ok-merge.ensures in
    (is.0, is.1 ∙ ap (λ (m : Meaning g.M.Message.shape). merged g.M.Message.shape (Some m) c.args.body.now) c.in-Ok.ensures.empty)
