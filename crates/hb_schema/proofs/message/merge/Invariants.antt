use Rattle.std.proofs.Common.{length, ◌-◌, ◌≡◌, ◌+◌, ◌≤◌, ℕ, drop}
use Rattle.std.specs.List.{fold}
use Rattle.hb_schema.specs.Fields.{parts, parts_of}
use Rattle.hb_schema.specs.Faults.{fault_in, row_fault, first_fault}
use Rattle.hb_schema.specs.Steps.{after}
use Rattle.hb_schema.proofs.message.merge.Given as goal

-- what is left of the bytes has their fault and their parts
abbrev pub invariant-loop-at : goal.invariant-loop-at
invariant-loop-at g l = (most : ℕ) × (l.at ≤ length l.bytes) × (length l.bytes - l.at ≤ most)
    × (first_fault (fault_in g.M.Message.shape) most (l.place + l.at) (drop l.at l.bytes) ≡ row_fault g.M.Message.shape l.place l.bytes)
    × (fold (after g.M.Message.shape) (g.M.Message.view l.message) (parts_of most (drop l.at l.bytes))
    ≡ fold (after g.M.Message.shape) (g.M.Message.view l.fn.message) (parts l.bytes))

abbrev pub decreases-loop-at : goal.decreases-loop-at
decreases-loop-at g l = length l.bytes - l.at
