use Rattle.std.proofs.Common.{◌∙◌}
use Rattle.hb_schema.proofs.Texts.{no_text_fault, is_text_fault}
use Rattle.hb_schema.proofs.parts.text_of.Goals as goal

pub returns-in-Ok-of : goal.returns-in-Ok-of
returns-in-Ok-of c = (no_text_fault c.args.place c.args.body.now c.in-Ok.ensures.cases.1, c.in-Ok-of.ensures.ok ∙ c.in-Ok.ensures.cases.0)

pub returns-in-Err : goal.returns-in-Err
returns-in-Err c = is_text_fault c.args.place c.args.body.now c.in-Err.ensures.cases.0
