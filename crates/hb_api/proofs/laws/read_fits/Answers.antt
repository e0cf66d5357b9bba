use Rattle.hb_api.proofs.Fitting.{request_fits}
use Rattle.hb_api.proofs.laws.read_fits.Goals as goal

pub returns : goal.returns
returns c = record { fits = request_fits }
