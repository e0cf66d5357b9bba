use Rattle.std.proofs.Common.{pos, neg_ℤ}
use Rattle.hb_time.proofs.StampLemmas.{in_range, tells, within}
use Rattle.hb_time.proofs.stamp.printable.Goals as goal

pub returns-then-contains : goal.returns-then-contains
returns-then-contains c =
    let a = in_range _ _ c.args.stamp.secs c.contains.result c.contains.ensures.value in
    let b = in_range _ _ c.args.stamp.nanos c.contains-then-contains.result c.contains-then-contains.ensures.value in
    record { exact = (tells c.args.stamp c.contains.result c.contains-then-contains.result a b).0 c.if-contains.true }

pub returns-else-contains : goal.returns-else-contains
returns-else-contains c =
    let a = in_range (neg_ℤ (pos 62_135_596_800)) (pos 253_402_300_800) c.args.stamp.secs c.contains.result c.contains.ensures.value in
    let refused = c.if-contains.false in
    record { exact = (λ t. absurd cc, λ p. let w = within c.args.stamp p in a.1 (w.low, w.high)) }
