use Rattle.hb_frame.proofs.Begins.{none_is_stopped, stopped_starts_none, not_bad_kind, not_long_body, kind_or_length}
use Rattle.hb_frame.proofs.laws.one_cause.Goals as goal

pub returns : goal.returns
returns c = record {
  each = none_is_stopped;
  none = stopped_starts_none;
  alone = λ bytes kind size. (not_bad_kind bytes kind, not_long_body bytes size, kind_or_length bytes kind size);
}
