use Rattle.std.proofs.Common.{◌≡◌, false, List, length, ◌++◌}
use Rattle.std.specs.Option.{option_map}
use Rattle.hb_labels.specs.declared.operator.Requirement.{Requirement}
use Rattle.hb_labels.specs.Reading.{pieces, each, requirement_of}
use Rattle.hb_labels.proofs.selector.requirements_of.Given as goal

abbrev pub invariant-loop-front : goal.invariant-loop-front
invariant-loop-front l = option_map (λ (more : List Requirement). l.requirements ++ more) (each requirement_of (pieces false l.rest)) ≡ each requirement_of (pieces false l.text)

abbrev pub decreases-loop-front : goal.decreases-loop-front
decreases-loop-front l = length l.rest
