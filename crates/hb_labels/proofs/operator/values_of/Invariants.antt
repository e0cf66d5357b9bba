use Rattle.std.proofs.Common.{◌≡◌, false, List, ℕ, length, ◌++◌}
use Rattle.std.specs.Option.{option_map}
use Rattle.hb_labels.specs.Reading.{pieces, each, value_of}
use Rattle.hb_labels.proofs.operator.values_of.Given as goal

abbrev pub invariant-loop-front : goal.invariant-loop-front
invariant-loop-front l = option_map (λ (more : List (List ℕ)). l.values ++ more) (each value_of (pieces false l.rest)) ≡ each value_of (pieces false l.text)

abbrev pub decreases-loop-front : goal.decreases-loop-front
decreases-loop-front l = length l.rest
