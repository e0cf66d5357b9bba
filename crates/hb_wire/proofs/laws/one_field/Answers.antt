use Rattle.hb_wire.proofs.FieldLemmas.{field_one, field_exact, field_front}
use Rattle.hb_wire.proofs.laws.one_field.Goals as goal

pub returns-clause-one : goal.returns-clause-one
returns-clause-one c = field_one

pub returns-clause-exact : goal.returns-clause-exact
returns-clause-exact c = field_exact

pub returns-clause-fits : goal.returns-clause-fits
returns-clause-fits c = λ bytes piece size are e. (field_front bytes piece size e).fits are

pub returns-clause-lies : goal.returns-clause-lies
returns-clause-lies c = λ bytes piece size e. (field_front bytes piece size e).lies
