use Rattle.hb_session.proofs.WholeLaws.{whole_reply}
use Rattle.hb_session.proofs.whole.whole_window.Goals as goal

pub returns : goal.returns
returns c = record { window = λ o cap log events bytes has is. whole_reply o cap log events bytes has is }
