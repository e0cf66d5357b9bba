use Rattle.hb_labels.proofs.Requirements.{selector_one}
use Rattle.hb_labels.proofs.laws.one_selector.Goals as goal

pub returns : goal.returns
returns c = record { one = selector_one }
