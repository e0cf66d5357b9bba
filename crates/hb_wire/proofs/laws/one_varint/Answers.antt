use Rattle.hb_wire.proofs.VarintLemmas.{varint_one, varint_exact}
use Rattle.hb_wire.proofs.laws.one_varint.Goals as goal

pub returns-clause-one : goal.returns-clause-one
returns-clause-one c = varint_one

pub returns-clause-exact : goal.returns-clause-exact
returns-clause-exact c = varint_exact
