use Rattle.hb_schema.proofs.Least.{row_least}
use Rattle.hb_schema.proofs.laws.least_fault.Goals as goal

pub returns : goal.returns
returns c = record {
  none = λ row place bytes fault is none has. (row_least row is.ascends place bytes).none none fault has;
  has = λ row place bytes fault is told. (row_least row is.ascends place bytes).some fault told;
  least = λ row place bytes fault other is told has. (row_least row is.ascends place bytes).least fault other told has;
}
