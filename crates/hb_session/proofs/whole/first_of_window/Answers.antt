use Rattle.hb_session.proofs.WholeLaws.{first_reply, first_flows}
use Rattle.hb_session.proofs.whole.first_of_window.Goals as goal

pub returns : goal.returns
returns c = record { first = λ o cap log events bytes has is. first_reply o cap log events bytes has is; flows_alone = λ o cap log events bytes has is. first_flows o cap log events bytes has is }
