use Rattle.hb_session.proofs.Grows.{owed_grows, bytes_grow}
use Rattle.hb_session.proofs.laws.owed_only_grows.Goals as goal

-- src/laws.rt:14:1
pub returns-clause-grows : goal.returns-clause-grows
returns-clause-grows c = owed_grows

pub returns-clause-bytes : goal.returns-clause-bytes
returns-clause-bytes c = bytes_grow
