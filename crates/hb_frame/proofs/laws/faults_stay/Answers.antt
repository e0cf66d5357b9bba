use Rattle.hb_frame.proofs.Begins.{bad_kind_stays, long_body_stays}
use Rattle.hb_frame.proofs.laws.faults_stay.Goals as goal

pub returns : goal.returns
returns c = record { bad_kind = bad_kind_stays; long_body = long_body_stays }
