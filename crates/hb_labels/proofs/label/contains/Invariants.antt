use Rattle.std.proofs.Common.{◌≡◌, ℕ, ◌<◌, List, get_or}
use Rattle.hb_labels.proofs.label.contains.Given as goal

abbrev pub invariant-loop-one : goal.invariant-loop-one
invariant-loop-one l = (k : ℕ) (d : List ℕ) → k < l.one-index → get_or l.values k d ≡ l.value → ⊥
