use Rattle.hb_schema.proofs.Fitting.{read_fits}
use Rattle.hb_schema.proofs.laws.read_fits.Goals as goal

pub returns : goal.returns
returns c = record { fits = λ row place bytes is are none. read_fits row is place bytes are none }
