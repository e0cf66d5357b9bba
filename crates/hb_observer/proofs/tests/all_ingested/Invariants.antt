use Rattle.std.proofs.Common.{◌≡◌}
use Rattle.hb_observer.proofs.tests.all_ingested.Given as goal

abbrev pub invariant-loop-words : goal.invariant-loop-words
invariant-loop-words l = (l.ring.capacity ≡ l.fn.ring.capacity) × (l.ring.slot ≡ l.fn.ring.slot)
