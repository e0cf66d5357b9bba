-- The ring's capacity is one less than a power of two.
use Rattle.std.proofs.Common.{lit≤, refl}
use Rattle.bench_ring.proofs.ring.run.Goals as goal

pub open-requires-clause-capacity : goal.open-requires-clause-capacity
open-requires-clause-capacity g c = (12, lit≤ tt, lit≤ tt, refl)
