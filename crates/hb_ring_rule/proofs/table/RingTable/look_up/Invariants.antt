-- the position and the moment of a look, as a type names them
use Rattle.hb_ring_rule.proofs.table.RingTable.look_up.Given as goal

abbrev pub ghosts-look_up_as : goal.ghosts-look_up_as
ghosts-look_up_as a = record { position = a._position; moment = a._moment }
