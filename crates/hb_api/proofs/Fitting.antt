-- What is read of bytes that have no fault has a spelling.
use Rattle.std.proofs.Common.{◌≡◌, ℕ, ◌<◌, ◌^◌, List, None, arith}
use Rattle.hb_wire.specs.Varint.{AreBytes}
use Rattle.hb_flow.specs.Fields.{parts, numbers, bodies}
use Rattle.hb_flow.proofs.Joining.{Sound, whole}
use Rattle.hb_flow.proofs.Merging.{all_sound, all_weaker}
use Rattle.hb_flow.proofs.Fitting.{last_is, numbers_below, parts_spelled, stamps_fit, unknown_spelled}
use Rattle.hb_api.specs.Faults.{request_check, request_fault}
use Rattle.hb_api.specs.Requests.{request_row, read_request, RequestFits}

pub request_fits : (bytes : List ℕ) → AreBytes bytes → request_fault bytes ≡ None → RequestFits (read_request bytes)
unfolding read_request
request_fits bytes are none =
    let ps = parts bytes in
    let spelled = parts_spelled bytes are in
    let sound = (whole request_check 0 bytes are none).sound in
    record {
      number = last_is (λ n. n < 2 ^ 64) 0 (numbers 1 ps) (omega arith) (numbers_below 1 ps spelled);
      since = stamps_fit (bodies 7 ps) (all_weaker (Sound request_check 7) AreBytes (λ b s. s.2) (bodies 7 ps) (all_sound request_check 7 ps sound));
      until = stamps_fit (bodies 8 ps) (all_weaker (Sound request_check 8) AreBytes (λ b s. s.2) (bodies 8 ps) (all_sound request_check 8 ps sound));
      unknown = unknown_spelled request_row ps spelled;
    }
