use Rattle.hb_recording.proofs.Fitting.{events_fit}
use Rattle.hb_recording.proofs.laws.events_fit.Goals as goal

pub returns : goal.returns
returns c = record { fit = events_fit }
