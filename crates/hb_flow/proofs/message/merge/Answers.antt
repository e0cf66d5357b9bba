use Rattle.std.proofs.Common.{◌≡◌, ◌∙◌, ◌+◌, ◌-◌, ℕ, [], drop, sym, ap, arith, List, refl}
use Rattle.std.proofs.lemmas.List.{drop_all}
use Rattle.std.specs.List.{fold}
use Rattle.hb_wire.specs.Field.{piece_of}
use Rattle.hb_flow.specs.Fields.{parts_of}
use Rattle.hb_flow.proofs.Loop.{fault_nil, parts_nil, stops_here, stops_at, goes_on, parts_go_on}
use Rattle.hb_flow.proofs.message.merge.Goals as goal

pub returns-in-Err : goal.returns-in-Err
returns-in-Err g c =
    let inv = c.loop-at.invariant in
    stops_here g.M.Message.check inv.0 c.args.place c.loop-at.at c.loop-at.at c.args.bytes.now _ c.loop-at-test.true inv.2 inv.3 c.in-Err.ensures.reads.1

pub loop-at-preserved : goal.loop-at-preserved
loop-at-preserved g c =
    let inv = c.loop-at.invariant in
    let reads = c.in-Ok.ensures.reads in (
      inv.0 - 1,
      c.in-Ok.ensures.found.1,
      omega (arith, reads.0, inv.2, c.in-Ok.ensures.found.0, c.loop-at-test.true),
      goes_on g.M.Message.check inv.0 c.args.place c.loop-at.at c.in-Ok.found.1 c.args.bytes.now _ c.loop-at-test.true inv.2 inv.3 (piece_of c.in-Ok.found.0) reads.0 reads.1 c.in-Ok-take.ensures.0,
      parts_go_on g.M.Message.after inv.0 c.loop-at.at c.in-Ok.found.1 c.args.bytes.now _ (piece_of c.in-Ok.found.0) c.loop-at.message c.take.new.self _ c.loop-at-test.true inv.2 reads.0 reads.1 refl inv.4 c.in-Ok-take.ensures.1,
    )

pub returns-in-Err-take : goal.returns-in-Err-take
returns-in-Err-take g c =
    let inv = c.loop-at.invariant in
    let reads = c.in-Ok.ensures.reads in
    stops_at g.M.Message.check inv.0 c.args.place c.loop-at.at c.in-Ok.found.1 c.args.bytes.now _ c.loop-at-test.true inv.2 inv.3 (piece_of c.in-Ok.found.0) c.in-Err-take.fault _ _ reads.0 reads.1 c.in-Err-take.ensures

pub returns : goal.returns
returns g c =
    let inv = c.loop-at.invariant in
    let none : drop c.loop-at.at c.args.bytes.now ≡ [] = drop_all c.loop-at.at c.args.bytes.now c.loop-at-test.false in (
      sym inv.3 ∙ rw none (fault_nil g.M.Message.check inv.0 (c.args.place + c.loop-at.at)),
      sym (ap (λ (bs : List ℕ). fold g.M.Message.after c.loop-at.message (parts_of inv.0 bs)) none ∙ ap (fold g.M.Message.after c.loop-at.message) (parts_nil inv.0)) ∙ inv.4,
    )
