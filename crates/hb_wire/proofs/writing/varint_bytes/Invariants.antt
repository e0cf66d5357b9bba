use Rattle.hb_wire.proofs.Writes.{Stands}
use Rattle.hb_wire.proofs.writing.varint_bytes.Given as goal

abbrev pub invariant-loop-left : goal.invariant-loop-left
invariant-loop-left l = Stands l.bytes l.size l.left l.fn.value

abbrev pub decreases-loop-left : goal.decreases-loop-left
decreases-loop-left l = l.left
