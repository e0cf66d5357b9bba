use Rattle.std.proofs.Common.{◌≡◌, ◌∙◌, ◌-◌, ℕ, List, [], drop, sym, ap, arith}
use Rattle.std.proofs.lemmas.List.{drop_all}
use Rattle.hb_wire.specs.Field.{piece_of}
use Rattle.hb_flow.specs.Fields.{parts_of}
use Rattle.hb_flow.proofs.Loop.{parts_nil}
use Rattle.hb_api.specs.Requests.{have_mask}
use Rattle.hb_api.proofs.Masks.{none_start, found, goes_on}
use Rattle.hb_api.proofs.mask.have_mask.Goals as goal

pub returns-in-Err : goal.returns-in-Err
returns-in-Err c =
    let inv = c.loop-at.invariant in
    sym (ap have_mask (none_start inv.0 _ c.in-Err.ensures.reads.1)) ∙ inv.3

pub returns-then-is_mask : goal.returns-then-is_mask
returns-then-is_mask c =
    let inv = c.loop-at.invariant in
    let reads = c.in-Ok.ensures.reads in
    found inv.0 c.loop-at.at c.in-Ok.found.1 c.args.bytes.now (piece_of c.in-Ok.found.0) _ c.loop-at-test.true inv.2 reads.0 reads.1 inv.3 c.if-is_mask.ensures

pub loop-at-preserved : goal.loop-at-preserved
loop-at-preserved c =
    let inv = c.loop-at.invariant in
    let reads = c.in-Ok.ensures.reads in (
      inv.0 - 1,
      c.in-Ok.ensures.found.1,
      omega (arith, reads.0, inv.2, c.in-Ok.ensures.found.0, c.loop-at-test.true),
      goes_on inv.0 c.loop-at.at c.in-Ok.found.1 c.args.bytes.now (piece_of c.in-Ok.found.0) _ c.loop-at-test.true inv.2 reads.0 reads.1 inv.3 c.if-is_mask.ensures,
    )

pub returns : goal.returns
returns c =
    let inv = c.loop-at.invariant in
    let none : drop c.loop-at.at c.args.bytes.now ≡ [] = drop_all c.loop-at.at c.args.bytes.now c.loop-at-test.false in
    sym (ap (λ (bs : List ℕ). have_mask (parts_of inv.0 bs)) none ∙ ap have_mask (parts_nil inv.0)) ∙ inv.3
