use Rattle.std.proofs.Common.{length, ◌-◌, ◌≡◌, ◌+◌, ◌≤◌, ℕ, drop}
use Rattle.std.specs.List.{fold}
use Rattle.hb_flow.specs.Fields.{parts, parts_of}
use Rattle.hb_flow.specs.Faults.{message_fault, first_fault}
use Rattle.hb_flow.proofs.message.merge.Given as goal

-- what is left of the bytes has their fault and their parts
abbrev pub invariant-loop-at : goal.invariant-loop-at
invariant-loop-at g l = (most : ℕ) × (l.at ≤ length l.bytes) × (length l.bytes - l.at ≤ most)
    × (first_fault g.M.Message.check most (l.place + l.at) (drop l.at l.bytes) ≡ message_fault g.M.Message.check l.place l.bytes)
    × (fold g.M.Message.after l.message (parts_of most (drop l.at l.bytes)) ≡ fold g.M.Message.after l.fn.message (parts l.bytes))

abbrev pub decreases-loop-at : goal.decreases-loop-at
decreases-loop-at g l = length l.bytes - l.at
