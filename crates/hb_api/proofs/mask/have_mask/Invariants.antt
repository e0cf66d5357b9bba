use Rattle.std.proofs.Common.{◌≡◌, ◌-◌, ◌≤◌, ℕ, length, drop}
use Rattle.hb_flow.specs.Fields.{parts, parts_of}
use Rattle.hb_api.specs.Requests.{have_mask}
use Rattle.hb_api.proofs.mask.have_mask.Given as goal

-- what is left of the bytes has a mask where they have one
abbrev pub invariant-loop-at : goal.invariant-loop-at
invariant-loop-at l = (most : ℕ) × (l.at ≤ length l.bytes) × (length l.bytes - l.at ≤ most)
    × (have_mask (parts_of most (drop l.at l.bytes)) ≡ have_mask (parts l.bytes))

abbrev pub decreases-loop-at : goal.decreases-loop-at
decreases-loop-at l = length l.bytes - l.at
