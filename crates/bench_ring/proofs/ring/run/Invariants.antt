-- The writer's pass stays the ring's.
use Rattle.hb_ring.specs.Passes.{IsWriterOf}
use Rattle.bench_ring.proofs.ring.run.Given as goal

abbrev pub invariant-loop : goal.invariant-loop
invariant-loop g l = IsWriterOf l.ring l.pass
