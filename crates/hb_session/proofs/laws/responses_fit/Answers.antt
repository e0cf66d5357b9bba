use Rattle.std.proofs.Common.{refl}
use Rattle.hb_session.specs.Events.{event_of_record, lost_event}
use Rattle.hb_session.proofs.Growth.{read_fits, lost_fits}
use Rattle.hb_session.proofs.laws.responses_fit.Goals as goal

pub returns : goal.returns
returns c = record {
  read = λ name bytes. read_fits name bytes (event_of_record bytes) refl;
  lost = λ name count moment. lost_fits name (lost_event count moment) count moment refl;
}
