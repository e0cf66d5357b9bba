use Rattle.hb_recording.proofs.Each.{each_file}
use Rattle.hb_recording.proofs.Once.{responses_once, place_once, recorded_not_bad}
use Rattle.hb_recording.proofs.laws.one_reading.Goals as goal

pub returns : goal.returns
returns c = record {
  each = each_file;
  responses = responses_once;
  place = place_once;
  not_bad = recorded_not_bad;
}
