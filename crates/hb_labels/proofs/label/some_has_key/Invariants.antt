use Rattle.std.proofs.Common.{ℕ, ◌<◌, List, get_or}
use Rattle.hb_labels.specs.Meaning.{HasKey}
use Rattle.hb_labels.proofs.label.some_has_key.Given as goal

abbrev pub invariant-loop-label : goal.invariant-loop-label
invariant-loop-label l = (k : ℕ) (d : List ℕ) → k < l.label-index → HasKey l.key (get_or l.labels k d) → ⊥
