use Rattle.std.proofs.Common.{arith}
use Rattle.hb_ring.proofs.Copies.{storing_next}
use Rattle.hb_ring.proofs.ring.Ring.store.Goals as goal

pub loop-k-preserved : goal.loop-k-preserved
loop-k-preserved c =
    let inside = c.loop-k-test.true in
    let end = c.div_ceil-k-end.ensures in
    storing_next c.args.seat.now c.loop-k.seat c.store-in-loop-k.new.seat c.args.bytes.now c.loop-k.k c.word_of.result c.loop-k.invariant (omega (arith, inside, end)) c.word_of.ensures c.store-in-loop-k.ensures.stored
