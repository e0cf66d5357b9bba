-- 3 is 2 ^ 2 - 1
use Rattle.std.proofs.Common.{lit≤, refl}
use Rattle.hb_ring.proofs.tests.of_capacity_3.Goals as goal

pub open-requires-clause-capacity : goal.open-requires-clause-capacity
open-requires-clause-capacity c = (2, lit≤ tt, lit≤ tt, refl)
