use Rattle.std.proofs.Common.{◌≡◌, ◌∙◌, ◌<◌, length, rules, sym, ap, map, arith}
use Rattle.std.proofs.lemmas.List.{length-map}
use Rattle.std.proofs.lemmas.Result.{on_ok_weaker}
use Rattle.hb_schema.specs.Writing.{varint_of, packed}
use Rattle.hb_schema.proofs.Fronts.{front_more, front_within, start_within}
use Rattle.hb_schema.proofs.Onto.{body_closed, text_some, packed_some, not_zero}
use Rattle.hb_schema.proofs.writing.put_numbers.Goals as goal

pub close_body-requires : goal.close_body-requires
close_body-requires g c = let place : c.len-start.result ≡ length c.write_tag.new.out.items = search rules in start_within c.write_tag.new.out.items c.put_varints.new.out.items c.len-start.result place c.put_varints.ensures.front

pub returns-in_err-put_varints-clause-front : goal.returns-in_err-put_varints-clause-front
returns-in_err-put_varints-clause-front g c front is = c.put_varints.ensures.front front (front_more c.args.out.now.items _ c.write_tag.new.out.items c.in_ok-write_tag.ensures.ok front is)

pub returns-clause-ok : goal.returns-clause-ok
returns-clause-ok g c =
    let place : c.len-start.result ≡ length c.write_tag.new.out.items = search rules in
    let body = packed (map (varint_of g.N.Number.kind) (g.N.Number.values c.args.values.now)) in
    let some : 0 < length (map (varint_of g.N.Number.kind) (g.N.Number.values c.args.values.now)) =
    omega (arith, length-map (g.N.Number.values c.args.values.now) (varint_of g.N.Number.kind), ap length (g.met.N.Number.each c.args.values.now), length-map c.args.values.now g.N.Number.value, ap length c.as_slice.ensures.value, not_zero (length c.as_slice.result.now) (sym c.is_empty.ensures ∙ c.if-is_empty.false)) in
    on_ok_weaker c.close_body.result
    (λ closed. body_closed c.args.out.now.items c.write_tag.new.out.items c.put_varints.new.out.items c.close_body.new.out.items body
    c.args.number c.len-start.result c.in_ok-write_tag.ensures.ok c.in_ok-put_varints.ensures.ok place closed
    ∙ sym (text_some c.args.number c.args.out.now.items body (packed_some (map (varint_of g.N.Number.kind) (g.N.Number.values c.args.values.now)) some)))
    c.close_body.ensures.ok

pub returns-clause-front : goal.returns-clause-front
returns-clause-front g c front is =
    let place : c.len-start.result ≡ length c.write_tag.new.out.items = search rules in
    let tagged = front_more c.args.out.now.items _ c.write_tag.new.out.items c.in_ok-write_tag.ensures.ok front is in
    c.close_body.ensures.front front (front_within front c.write_tag.new.out.items c.len-start.result place tagged) (c.put_varints.ensures.front front tagged)
