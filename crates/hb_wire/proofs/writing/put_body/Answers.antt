use Rattle.std.proofs.Common.{rules, append_assoc}
use Rattle.hb_wire.specs.Field.{spelled}
use Rattle.hb_wire.proofs.writing.put_body.Goals as goal

pub returns-clause-ok : goal.returns-clause-ok
unfolding spelled
returns-clause-ok c = search (rules, append_assoc)
