-- the moment of a look, as a type names it; its position is in the seat's view
use Rattle.hb_ring_rule.proofs.table.RingTable.end_look.Given as goal

abbrev pub ghosts-end_look_as : goal.ghosts-end_look_as
ghosts-end_look_as a = record { position = 0; moment = a._moment }
