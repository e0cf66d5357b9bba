use Rattle.std.proofs.Common.{refl}
use Rattle.hb_ring.proofs.Looks.{has_looked}
use Rattle.hb_ring.proofs.ends.RingEyeLook.look.Goals as goal

pub returns-clause-looked : goal.returns-clause-looked
returns-clause-looked c = has_looked _ _ _ _ c.args.position c.args.moment c.look.result c.look.new.out.bytes c.look.ensures.no_memory c.look.ensures.made refl
