use Rattle.std.proofs.Common.{refl, rules}
use Rattle.hb_ring_rule.proofs.SeatSteps.{opens}
use Rattle.hb_ring_rule.proofs.table.RingTable.open.Goals as goal

pub of_words-requires : goal.of_words-requires
of_words-requires c = opens _ _ _ (search rules) refl
