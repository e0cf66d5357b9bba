use Rattle.hb_schema.proofs.Joining.{spelled_divide}
use Rattle.hb_schema.proofs.Fitting.{parts_spelled}
use Rattle.hb_schema.proofs.Dividing.{up_to_rest}
use Rattle.hb_schema.proofs.laws.spelled_fields.Goals as goal

pub returns : goal.returns
returns c = record { divide = spelled_divide; spelled = parts_spelled; rest = up_to_rest }
