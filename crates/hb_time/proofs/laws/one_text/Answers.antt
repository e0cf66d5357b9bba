use Rattle.hb_time.proofs.WritingLemmas.{same_text}
use Rattle.hb_time.proofs.laws.one_text.Goals as goal

pub returns : goal.returns
returns c = record { one = same_text }
