-- 3 is 2 ^ 2 - 1, and 7 is 2 ^ 3 - 1
use Rattle.std.proofs.Common.{lit≤, refl}
use Rattle.hb_observer.proofs.tests.ring_of.Goals as goal

pub open-requires-in-3-clause-capacity : goal.open-requires-in-3-clause-capacity
open-requires-in-3-clause-capacity c = (2, lit≤ tt, lit≤ tt, refl)

pub open-requires-in-7-clause-capacity : goal.open-requires-in-7-clause-capacity
open-requires-in-7-clause-capacity c = (3, lit≤ tt, lit≤ tt, refl)
