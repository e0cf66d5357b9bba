use Rattle.hb_recording.proofs.Canonical.{canonical_recorded}
use Rattle.hb_recording.proofs.laws.one_spelling.Goals as goal

pub returns : goal.returns
returns c = record { canonical = canonical_recorded }
