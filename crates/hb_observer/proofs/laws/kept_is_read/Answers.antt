use Rattle.hb_observer.proofs.KeptLemmas.{log_again}
use Rattle.hb_observer.proofs.laws.kept_is_read.Goals as goal

pub returns : goal.returns
returns c = record { log = log_again }
