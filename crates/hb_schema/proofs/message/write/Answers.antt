use Rattle.std.proofs.Common.{◌∙◌}
use Rattle.hb_schema.proofs.Onto.{whole_onto}
use Rattle.hb_schema.proofs.message.write.Goals as goal

pub returns-in-Ok-clause-ok : goal.returns-in-Ok-clause-ok
returns-in-Ok-clause-ok g c = c.in-Ok.ensures.ok ∙ whole_onto g.M.Message.shape c.args.out.now.items (g.M.Message.view c.args.message.now)
