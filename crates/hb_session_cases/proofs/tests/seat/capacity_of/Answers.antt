-- 3 is 2 ^ 2 - 1, and 7 is 2 ^ 3 - 1
use Rattle.std.proofs.Common.{lit≤, refl}
use Rattle.hb_session_cases.proofs.tests.seat.capacity_of.Goals as goal

pub returns-in-text-2 : goal.returns-in-text-2
returns-in-text-2 c = (2, lit≤ tt, lit≤ tt, refl)

pub returns-in-text-3 : goal.returns-in-text-3
returns-in-text-3 c = (3, lit≤ tt, lit≤ tt, refl)
