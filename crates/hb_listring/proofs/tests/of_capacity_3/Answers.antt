-- 3 is 2 ^ 2 - 1
use Rattle.std.proofs.Common.{lit≤, refl}
use Rattle.hb_listring.proofs.tests.of_capacity_3.Goals as goal

pub open-requires : goal.open-requires
open-requires c = record { capacity = (2, lit≤ tt, lit≤ tt, refl) }
