use Rattle.hb_flow.proofs.Least.{response_least, lost_event_least}
use Rattle.hb_flow.proofs.laws.least_fault.Goals as goal

pub returns : goal.returns
returns c = record {
  none = λ bytes fault none has. (response_least bytes).none none fault has;
  has = λ bytes fault told. (response_least bytes).some fault told;
  least = λ bytes fault other told has. (response_least bytes).least fault other told has;
  lost_none = λ bytes fault none has. (lost_event_least bytes).none none fault has;
  lost_has = λ bytes fault told. (lost_event_least bytes).some fault told;
  lost_least = λ bytes fault other told has. (lost_event_least bytes).least fault other told has;
}
