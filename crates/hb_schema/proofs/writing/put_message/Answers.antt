use Rattle.std.proofs.Common.{◌≡◌, ◌∙◌, length, rules}
use Rattle.std.proofs.lemmas.Result.{on_ok_weaker}
use Rattle.hb_schema.specs.Writing.{writes}
use Rattle.hb_schema.proofs.Fronts.{front_more, front_within, start_within}
use Rattle.hb_schema.proofs.Onto.{whole_onto, body_closed}
use Rattle.hb_schema.proofs.writing.put_message.Goals as goal

pub close_body-requires : goal.close_body-requires
close_body-requires g c = let place : c.len-start.result ≡ length c.write_tag.new.out.items = search rules in start_within c.write_tag.new.out.items c.put.new.out.items c.len-start.result place c.put.ensures.front

pub returns-in_err-put-clause-front : goal.returns-in_err-put-clause-front
returns-in_err-put-clause-front g c front is = c.put.ensures.front front (front_more c.args.out.now.items _ c.write_tag.new.out.items c.in_ok-write_tag.ensures.ok front is)

pub returns-clause-ok : goal.returns-clause-ok
returns-clause-ok g c =
    let place : c.len-start.result ≡ length c.write_tag.new.out.items = search rules in
    on_ok_weaker c.close_body.result
    (λ closed. body_closed c.args.out.now.items c.write_tag.new.out.items c.put.new.out.items c.close_body.new.out.items (writes g.M.Message.shape (g.M.Message.view c.args.message.now))
    c.args.number c.len-start.result c.in_ok-write_tag.ensures.ok (c.in_ok-put.ensures.ok ∙ whole_onto g.M.Message.shape c.write_tag.new.out.items (g.M.Message.view c.args.message.now)) place closed)
    c.close_body.ensures.ok

pub returns-clause-front : goal.returns-clause-front
returns-clause-front g c front is =
    let place : c.len-start.result ≡ length c.write_tag.new.out.items = search rules in
    let tagged = front_more c.args.out.now.items _ c.write_tag.new.out.items c.in_ok-write_tag.ensures.ok front is in
    c.close_body.ensures.front front (front_within front c.write_tag.new.out.items c.len-start.result place tagged) (c.put.ensures.front front tagged)
