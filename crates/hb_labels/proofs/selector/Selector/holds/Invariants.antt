use Rattle.std.proofs.Common.{ℕ, ◌<◌, get_or}
use Rattle.hb_labels.specs.declared.operator.Requirement.{Requirement}
use Rattle.hb_labels.specs.Meaning.{Meets}
use Rattle.hb_labels.proofs.selector.Selector.holds.Given as goal

abbrev pub invariant-loop-requirement : goal.invariant-loop-requirement
invariant-loop-requirement l = (k : ℕ) (d : Requirement) → k < l.requirement-index → Meets (get_or l.self k d).key (get_or l.self k d).operator l.labels
