-- what the reader has seen stays
use Rattle.std.proofs.Common.{◌≡◌}
use Rattle.hb_session_cases.proofs.tests.seat.put_all.Given as goal

abbrev pub invariant-loop-word : goal.invariant-loop-word
invariant-loop-word g l = g.P.Place.seen l.place ≡ g.P.Place.seen l.initial.place
