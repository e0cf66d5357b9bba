use Rattle.std.proofs.Common.{◌≡◌}
use Rattle.hb_ring.proofs.Copies.{IsReading}
use Rattle.hb_ring.proofs.ring.Ring.load.Given as goal

-- so many payload words are read, and their bytes are in the buffer
abbrev pub invariant-loop-k : goal.invariant-loop-k
invariant-loop-k l = IsReading l.fn.seat l.seat l.position l.bytes l.out.bytes l.k × (l.out.room ≡ l.fn.out.room)
