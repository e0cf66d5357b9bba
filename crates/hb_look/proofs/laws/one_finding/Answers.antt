use Rattle.hb_look.proofs.Findings.{some_finding, same_finding}
use Rattle.hb_look.proofs.laws.one_finding.Goals as goal

pub returns-clause-each : goal.returns-clause-each
returns-clause-each c = some_finding

pub returns-clause-one : goal.returns-clause-one
returns-clause-one c = same_finding
