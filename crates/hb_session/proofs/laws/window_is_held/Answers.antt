use Rattle.std.proofs.Common.{arith}
use Rattle.hb_session.proofs.Looks.{found_got}
use Rattle.hb_session.proofs.laws.window_is_held.Goals as goal

pub returns : goal.returns
returns c = record { held = λ log cap position found here from below. found_got log cap position found here below (omega (arith, from)) }
