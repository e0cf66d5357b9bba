use Rattle.hb_wire.proofs.VarintLemmas.{varint_is, varint_again, varint_some, varint_shortest}
use Rattle.hb_wire.proofs.laws.shortest_varint.Goals as goal

pub returns-clause-spells : goal.returns-clause-spells
returns-clause-spells c = varint_is

pub returns-clause-again : goal.returns-clause-again
returns-clause-again c = varint_again

pub returns-clause-size : goal.returns-clause-size
returns-clause-size c = varint_some

pub returns-clause-least : goal.returns-clause-least
returns-clause-least c = varint_shortest
