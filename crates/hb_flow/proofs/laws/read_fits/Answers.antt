use Rattle.hb_flow.proofs.Fitting.{response_fits, lost_event_fits}
use Rattle.hb_flow.proofs.laws.read_fits.Goals as goal

pub returns : goal.returns
returns c = record { fits = response_fits; lost_fits = lost_event_fits }
