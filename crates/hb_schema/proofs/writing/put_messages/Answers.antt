use Rattle.std.proofs.Common.{◌∙◌, ◌++◌, sym, ap, List, ℕ, length, map, arith}
use Rattle.std.proofs.lemmas.List.{append-nil, take_all}
use Rattle.std.proofs.lemmas.List.Folds.{flat_map-map}
use Rattle.hb_wire.specs.Field.{Body, spelled}
use Rattle.hb_schema.specs.Writing.{writes}
use Rattle.hb_schema.proofs.Fronts.{front_more, one_more}
use Rattle.hb_schema.proofs.writing.put_messages.Goals as goal

pub loop-message-init : goal.loop-message-init
loop-message-init g c = sym (append-nil c.args.out.now.items)

pub returns-in_err-put_message-clause-front : goal.returns-in_err-put_message-clause-front
returns-in_err-put_message-clause-front g c front is =
    c.put_message.ensures.front front (front_more c.args.out.now.items _ c.loop-message.out.items c.loop-message.invariant front is)

pub loop-message-preserved : goal.loop-message-preserved
loop-message-preserved g c =
    one_more (λ message. spelled (record { number = c.args.number; content = Body (writes g.M.Message.shape (g.M.Message.view message)) })) c.args.out.now.items c.loop-message.out.items c.put_message.new.out.items
    c.as_slice-message-items.result.now c.args.messages.now c.loop-message.message-index c.message-item.result c.as_slice-message-items.ensures.value c.loop-message-test.true c.message-item.is c.loop-message.invariant
    c.in_ok-put_message.ensures.ok

pub returns-clause-ok : goal.returns-clause-ok
returns-clause-ok g c =
    let all = take_all c.loop-message.message-index c.args.messages.now (omega (arith, c.loop-message-test.false, ap length c.as_slice-message-items.ensures.value)) in
    let one = λ (body : List ℕ). spelled (record { number = c.args.number; content = Body body }) in
    c.loop-message.invariant ∙ rw all (ap (λ (y : List ℕ). c.args.out.now.items ++ y)
    (sym (flat_map-map (λ m. one (writes g.M.Message.shape m)) g.M.Message.view c.args.messages.now) ∙ sym (flat_map-map one (writes g.M.Message.shape) (map g.M.Message.view c.args.messages.now))))

pub returns-clause-front : goal.returns-clause-front
returns-clause-front g c = front_more c.args.out.now.items _ c.loop-message.out.items c.loop-message.invariant
