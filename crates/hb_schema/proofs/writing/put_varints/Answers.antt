use Rattle.std.proofs.Common.{◌∙◌, ◌++◌, sym, ap, List, ℕ, length, map, arith}
use Rattle.std.proofs.lemmas.List.{append-nil, take_all}
use Rattle.std.proofs.lemmas.List.Folds.{flat_map-map}
use Rattle.hb_wire.specs.Varint.{varint}
use Rattle.hb_schema.specs.Rows.{NumberOf}
use Rattle.hb_schema.specs.Writing.{varint_of, packed}
use Rattle.hb_schema.proofs.Fronts.{front_more, one_more}
use Rattle.hb_schema.proofs.writing.put_varints.Goals as goal

pub loop-value-init : goal.loop-value-init
loop-value-init g c = sym (append-nil c.args.out.now.items)

pub returns-in_err-write_varint-clause-front : goal.returns-in_err-write_varint-clause-front
returns-in_err-write_varint-clause-front g c = front_more c.args.out.now.items _ c.write_varint.new.out.items (c.in_err-write_varint.ensures.err ∙ c.loop-value.invariant)

pub loop-value-preserved : goal.loop-value-preserved
loop-value-preserved g c =
    one_more (λ value. varint (varint_of g.N.Number.kind (g.N.Number.value value))) c.args.out.now.items c.loop-value.out.items c.write_varint.new.out.items
    c.as_slice-value-items.result.now c.args.values.now c.loop-value.value-index c.value-item.result c.as_slice-value-items.ensures.value c.loop-value-test.true c.value-item.is c.loop-value.invariant
    (c.in_ok-write_varint.ensures.ok ∙ ap (λ (n : ℕ). c.loop-value.out.items ++ varint n) c.varint.ensures)

pub returns-clause-ok : goal.returns-clause-ok
returns-clause-ok g c =
    let all = take_all c.loop-value.value-index c.args.values.now (omega (arith, c.loop-value-test.false, ap length c.as_slice-value-items.ensures.value)) in
    c.loop-value.invariant ∙ rw all (ap (λ (y : List ℕ). c.args.out.now.items ++ y)
    (sym (flat_map-map (λ n. varint (varint_of g.N.Number.kind n)) g.N.Number.value c.args.values.now) ∙ sym (flat_map-map varint (varint_of g.N.Number.kind) (map g.N.Number.value c.args.values.now))
    ∙ ap (λ (ns : List (NumberOf g.N.Number.kind)). packed (map (varint_of g.N.Number.kind) ns)) (sym (g.met.N.Number.each c.args.values.now))))

pub returns-clause-front : goal.returns-clause-front
returns-clause-front g c = front_more c.args.out.now.items _ c.loop-value.out.items c.loop-value.invariant
