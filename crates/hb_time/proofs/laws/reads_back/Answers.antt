use Rattle.hb_time.proofs.BackLemmas.{read_again}
use Rattle.hb_time.proofs.laws.reads_back.Goals as goal

pub returns : goal.returns
returns c = record { reads = read_again }
