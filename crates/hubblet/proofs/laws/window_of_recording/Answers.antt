use Rattle.hb_observer.proofs.Windows.{has_window}
use Rattle.hb_recording.specs.Recording.{events}
use Rattle.hb_recording.proofs.Fitting.{events_fit}
use Rattle.hubblet.proofs.laws.window_of_recording.Goals as goal

pub returns : goal.returns
returns c = record {
  window = λ j file rs within recording.
      has_window j.slot j.capacity (events rs) j.request j.node within.slot.2 (events_fit file rs recording);
}
