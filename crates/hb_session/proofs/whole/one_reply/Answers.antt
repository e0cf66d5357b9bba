use Rattle.hb_session.proofs.WholeEvents.{reply_once}
use Rattle.hb_session.proofs.whole.one_reply.Goals as goal

pub returns : goal.returns
returns c = record { one = reply_once }
