use Rattle.hb_session.proofs.WholeLaws.{last_reply, last_flows}
use Rattle.hb_session.proofs.whole.last_of_window.Goals as goal

pub returns : goal.returns
returns c = record { last = λ o cap log events bytes has is. last_reply o cap log events bytes has is; flows_alone = λ o cap log events bytes has is. last_flows o cap log events bytes has is }
