use Rattle.std.proofs.Common.{◌≤◌}
use Rattle.hb_ring.specs.Passes.{IsReaderOf}
use Rattle.hb_ring.proofs.tests.threads.read_all.Given as goal

-- the pass is of the ring, and its longest record fits the buffer
abbrev pub invariant-loop : goal.invariant-loop
invariant-loop l = IsReaderOf l.ring l.pass × (l.pass.reader.longest ≤ l.out.room)
