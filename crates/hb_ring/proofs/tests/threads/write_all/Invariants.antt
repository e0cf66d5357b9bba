use Rattle.hb_ring.specs.Passes.{IsWriterOf}
use Rattle.hb_ring.proofs.tests.threads.write_all.Given as goal

-- the pass is of the ring
abbrev pub invariant-loop-position : goal.invariant-loop-position
invariant-loop-position l = IsWriterOf l.ring l.pass
