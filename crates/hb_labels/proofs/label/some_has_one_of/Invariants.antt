use Rattle.std.proofs.Common.{ℕ, ◌<◌, List, get_or}
use Rattle.hb_labels.specs.Meaning.{HasOneOf}
use Rattle.hb_labels.proofs.label.some_has_one_of.Given as goal

abbrev pub invariant-loop-label : goal.invariant-loop-label
invariant-loop-label l = (k : ℕ) (d : List ℕ) → k < l.label-index → HasOneOf l.key l.values (get_or l.labels k d) → ⊥
