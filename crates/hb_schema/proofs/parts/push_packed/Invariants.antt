use Rattle.std.proofs.Common.{length, ◌-◌, ◌≡◌, ◌+◌, ◌≤◌, ◌++◌, ℕ, drop, map}
use Rattle.hb_schema.specs.Fields.{varints_of}
use Rattle.hb_schema.specs.Faults.{packed_fault, first_varint_fault}
use Rattle.hb_schema.specs.Reading.{number_of}
use Rattle.hb_schema.proofs.parts.push_packed.Given as goal

-- what is left of the bytes has their fault and the rest of their numbers
abbrev pub invariant-loop-at : goal.invariant-loop-at
invariant-loop-at g l = (most : ℕ) × (l.at ≤ length l.body) × (length l.body - l.at ≤ most)
    × (first_varint_fault most (l.place + l.at) (drop l.at l.body) ≡ packed_fault l.place l.body)
    × (g.N.Number.values l.held ++ map (λ v. number_of g.N.Number.kind v.0) (varints_of most (drop l.at l.body))
    ≡ g.N.Number.values l.fn.held ++ map (λ v. number_of g.N.Number.kind v.0) (varints_of (length l.body) l.body))

abbrev pub decreases-loop-at : goal.decreases-loop-at
decreases-loop-at g l = length l.body - l.at
