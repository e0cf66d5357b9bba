use Rattle.hb_ring.proofs.Copies.{IsStoring}
use Rattle.hb_ring.proofs.ring.Ring.store.Given as goal

-- so many payload words are stored
abbrev pub invariant-loop-k : goal.invariant-loop-k
invariant-loop-k l = IsStoring l.fn.seat l.seat l.bytes l.k
