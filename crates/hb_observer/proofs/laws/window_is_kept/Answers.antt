use Rattle.hb_observer.proofs.Windows.{has_window}
use Rattle.hb_observer.proofs.laws.window_is_kept.Goals as goal

pub returns : goal.returns
returns c = record { events = has_window }
