use Rattle.std.proofs.Common.{◌≡◌, ◌∙◌, ◌+◌, ◌-◌, ℕ, [], length, drop, sym, ap, arith, List, refl}
use Rattle.std.proofs.lemmas.List.{drop_all}
use Rattle.std.specs.List.{fold}
use Rattle.hb_wire.specs.Field.{piece_of}
use Rattle.hb_schema.specs.Fields.{parts_of}
use Rattle.hb_schema.specs.Faults.{first_fault, fault_in, row_fault}
use Rattle.hb_schema.specs.Steps.{after, merged, merging}
use Rattle.hb_schema.proofs.Surfaces.{content_fault_is, taking_is}
use Rattle.hb_schema.proofs.Answered.{err_same}
use Rattle.hb_schema.proofs.Loop.{fault_nil, parts_nil, stops_here, stops_at, goes_on, parts_go_on}
use Rattle.hb_schema.proofs.message.merge.Goals as goal

pub loop-at-init : goal.loop-at-init
unfolding row_fault
loop-at-init g c = (length c.args.bytes.now, omega arith, omega arith, ap (λ (k : ℕ). first_fault (fault_in g.M.Message.shape) (length c.args.bytes.now) k c.args.bytes.now) (omega arith), refl)

pub returns-in-Err : goal.returns-in-Err
unfolding row_fault
returns-in-Err g c =
    let inv = c.loop-at.invariant in
    stops_here (fault_in g.M.Message.shape) inv.0 c.args.place c.loop-at.at c.loop-at.at c.args.bytes.now _ c.loop-at-test.true inv.2 inv.3 c.in-Err.ensures.reads.1

pub loop-at-preserved : goal.loop-at-preserved
unfolding row_fault
loop-at-preserved g c =
    let inv = c.loop-at.invariant in
    let reads = c.in-Ok.ensures.reads in (
      inv.0 - 1,
      c.in-Ok.ensures.found.1,
      omega (arith, reads.0, inv.2, c.in-Ok.ensures.found.0, c.loop-at-test.true),
      goes_on (fault_in g.M.Message.shape) inv.0 c.args.place c.loop-at.at c.in-Ok.found.1 c.args.bytes.now _ c.loop-at-test.true inv.2 inv.3 (piece_of c.in-Ok.found.0) reads.0 reads.1
          (sym (content_fault_is g.M.Message.shape (c.args.place + c.in-Ok.found.1) (piece_of c.in-Ok.found.0).number (piece_of c.in-Ok.found.0).content) ∙ c.in-Ok-take.ensures.0),
      parts_go_on (after g.M.Message.shape) inv.0 c.loop-at.at c.in-Ok.found.1 c.args.bytes.now _ (piece_of c.in-Ok.found.0) (g.M.Message.view c.loop-at.message) (g.M.Message.view c.take.new.self) _ c.loop-at-test.true inv.2 reads.0 reads.1 refl inv.4
          (c.in-Ok-take.ensures.1 ∙ taking_is g.M.Message.shape (g.M.Message.view c.loop-at.message) _),
    )

pub returns-in-Err-take : goal.returns-in-Err-take
unfolding row_fault
returns-in-Err-take g c =
    let inv = c.loop-at.invariant in
    let reads = c.in-Ok.ensures.reads in
    stops_at (fault_in g.M.Message.shape) inv.0 c.args.place c.loop-at.at c.in-Ok.found.1 c.args.bytes.now _ c.loop-at-test.true inv.2 inv.3 (piece_of c.in-Ok.found.0) c.in-Err-take.fault
    (λ x. Unit {0}) _ reads.0 reads.1
    (err_same c.in-Err-take.fault _ _ _ (λ x. Unit {0}) (content_fault_is g.M.Message.shape (c.args.place + c.in-Ok.found.1) (piece_of c.in-Ok.found.0).number (piece_of c.in-Ok.found.0).content) c.in-Err-take.ensures)

pub returns : goal.returns
unfolding merged merging row_fault
returns g c =
    let inv = c.loop-at.invariant in
    let none : drop c.loop-at.at c.args.bytes.now ≡ [] = drop_all c.loop-at.at c.args.bytes.now c.loop-at-test.false in (
      sym inv.3 ∙ rw none (fault_nil (fault_in g.M.Message.shape) inv.0 (c.args.place + c.loop-at.at)),
      sym (ap (λ (bs : List ℕ). fold (after g.M.Message.shape) (g.M.Message.view c.loop-at.message) (parts_of inv.0 bs)) none
          ∙ ap (fold (after g.M.Message.shape) (g.M.Message.view c.loop-at.message)) (parts_nil inv.0)) ∙ inv.4,
    )
