use Rattle.hb_api.proofs.Least.{request_least}
use Rattle.hb_api.proofs.laws.least_fault.Goals as goal

pub returns : goal.returns
returns c = record {
  none = λ bytes fault none has. (request_least bytes).none none fault has;
  has = λ bytes fault told. (request_least bytes).some fault told;
  least = λ bytes fault other told has. (request_least bytes).least fault other told has;
}
