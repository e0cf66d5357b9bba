use Rattle.std.proofs.Common.{◌≡◌, false, take, drop}
use Rattle.hb_labels.specs.Reading.{pieces}
use Rattle.hb_labels.proofs.Pieces.{onto_front}
use Rattle.hb_labels.proofs.cuts.comma_at.Given as goal

abbrev pub invariant-loop-i : goal.invariant-loop-i
invariant-loop-i l = pieces false l.text ≡ onto_front (take l.i l.text) (pieces l.inside (drop l.i l.text))
