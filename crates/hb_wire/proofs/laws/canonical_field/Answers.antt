use Rattle.hb_wire.proofs.FieldLemmas.{spelled_is, field_again, spelled_some}
use Rattle.hb_wire.proofs.laws.canonical_field.Goals as goal

pub returns-clause-spells : goal.returns-clause-spells
returns-clause-spells c = spelled_is

pub returns-clause-again : goal.returns-clause-again
returns-clause-again c = field_again

pub returns-clause-size : goal.returns-clause-size
returns-clause-size c = spelled_some
