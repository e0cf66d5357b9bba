use Rattle.std.proofs.Common.{refl}
use Rattle.hb_wire.proofs.Places.{varint_place, no_varint}
use Rattle.hb_wire.proofs.varint.read_varint.Goals as goal

pub returns-in-Some-clause-found : goal.returns-in-Some-clause-found
returns-in-Some-clause-found c = varint_place c.args.bytes.now c.args.at _ _ (λ i. (c.type_inv.bytes i).fits) c.requires c.in-Some.ensures.value

pub returns-in-None-clause-malformed : goal.returns-in-None-clause-malformed
returns-in-None-clause-malformed c = (refl, no_varint c.args.bytes.now c.args.at c.in-None.ensures.value)
