use Rattle.std.proofs.Common.{rules, append_assoc}
use Rattle.std.proofs.lemmas.Result.{IfOk-equal}
use Rattle.hb_wire.specs.Field.{spelled}
use Rattle.hb_wire.proofs.writing.put_number.Goals as goal

pub returns-clause-ok : goal.returns-clause-ok
unfolding spelled
returns-clause-ok c = search (rules, IfOk-equal, append_assoc)
