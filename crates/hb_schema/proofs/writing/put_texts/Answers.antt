use Rattle.std.proofs.Common.{◌∙◌, ◌++◌, ◌≡◌, refl, sym, ap, List, ℕ, length, take, arith, rules}
use Rattle.std.proofs.lemmas.List.{append-nil, take_all}
use Rattle.hb_wire.specs.Field.{Body, spelled}
use Rattle.hb_schema.proofs.Fronts.{front_more, one_more}
use Rattle.hb_schema.proofs.writing.put_texts.Goals as goal

pub loop-text-init : goal.loop-text-init
loop-text-init c = sym (append-nil c.args.out.now.items)

pub returns-in_err-write_body-clause-front : goal.returns-in_err-write_body-clause-front
returns-in_err-write_body-clause-front c = front_more c.args.out.now.items _ c.write_body.new.out.items (c.in_err-write_body.ensures.err ∙ c.loop-text.invariant)

pub loop-text-preserved : goal.loop-text-preserved
loop-text-preserved c =
    let same : c.as_bytes.result.now ≡ c.text-item.result = search rules in
    one_more (λ text. spelled (record { number = c.args.number; content = Body text })) c.args.out.now.items c.loop-text.out.items c.write_body.new.out.items
    c.as_slice-text-items.result.now c.args.texts.now c.loop-text.text-index c.text-item.result c.as_slice-text-items.ensures.value c.loop-text-test.true c.text-item.is c.loop-text.invariant
    (c.in_ok-write_body.ensures.ok ∙ ap (λ (text : List ℕ). c.loop-text.out.items ++ spelled (record { number = c.args.number; content = Body text })) same)

pub returns-clause-ok : goal.returns-clause-ok
returns-clause-ok c =
    let all : take c.loop-text.text-index c.args.texts.now ≡ c.args.texts.now = take_all c.loop-text.text-index c.args.texts.now (omega (arith, c.loop-text-test.false, ap length c.as_slice-text-items.ensures.value)) in
    c.loop-text.invariant ∙ rw all refl

pub returns-clause-front : goal.returns-clause-front
returns-clause-front c = front_more c.args.out.now.items _ c.loop-text.out.items c.loop-text.invariant
