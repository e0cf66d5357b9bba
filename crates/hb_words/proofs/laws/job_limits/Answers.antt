use Rattle.hb_words.proofs.Bounds.{job_within}
use Rattle.hb_words.proofs.laws.job_limits.Goals as goal

pub returns : goal.returns
returns c = record { within = job_within }
