use Rattle.std.proofs.Common.{refl}
use Rattle.hb_wire.proofs.Places.{field_place, no_field}
use Rattle.hb_wire.proofs.fields.next_field.Goals as goal

pub returns-in-Some-clause-found : goal.returns-in-Some-clause-found
returns-in-Some-clause-found c = (field_place c.args.bytes.now c.args.at _ _ (λ i. (c.type_inv.bytes i).fits) c.requires c.in-Some.ensures.value).found

pub returns-in-Some-clause-number : goal.returns-in-Some-clause-number
returns-in-Some-clause-number c = (field_place c.args.bytes.now c.args.at _ _ (λ i. (c.type_inv.bytes i).fits) c.requires c.in-Some.ensures.value).number

pub returns-in-Some-clause-body : goal.returns-in-Some-clause-body
returns-in-Some-clause-body c = (field_place c.args.bytes.now c.args.at _ _ (λ i. (c.type_inv.bytes i).fits) c.requires c.in-Some.ensures.value).lies

pub returns-in-None-clause-malformed : goal.returns-in-None-clause-malformed
returns-in-None-clause-malformed c = (refl, no_field c.args.bytes.now c.args.at c.in-None.ensures.value)
