-- The canonical spellings of a recording's responses are a recording of them.
use Rattle.std.proofs.Common.{◌≡◌, ℕ, ◌<◌, ◌≤◌, ◌^◌, Bool, true, false, List, [], ◌∷◌, ◌++◌, length, map, Option, Some, None, refl, sym, ap, subst, ◌∙◌, arith}
use Rattle.std.specs.Prelude.{IfSome, if◌then◌else◌, ◌==◌}
use Rattle.std.specs.Int.{w32, to_be_bytes}
use Rattle.std.specs.List.{AllByRecursion, cons_option, flat_map}
use Rattle.std.proofs.lemmas.List.{append-nil, take_at}
use Rattle.hb_wire.specs.Varint.{AreBytes}
use Rattle.hb_wire.proofs.FieldLemmas.{AreBytes_take}
use Rattle.hb_flow.specs.Messages.{read_response, response_bytes, ResponseFits}
use Rattle.hb_flow.specs.declared.response.GetFlowsResponse.{GetFlowsResponse}
use Rattle.hb_flow.proofs.Again.{response_again, response_clean}
use Rattle.hb_flow.proofs.Fitting.{response_fits}
use Rattle.hb_frame.specs.Frames.{Frame, IsFrame, frame_bytes, message_frame, message_in, messages}
use Rattle.hb_recording.specs.Recording.{IsSound, Recorded, IsRecordingOf, canonical}
use Rattle.hb_frame.proofs.Cuts.{nothing_starts, frames_after}
use Rattle.hb_frame.proofs.Each.{rest_bytes}

-- ---- a message and the canonical spelling of its answer

abbrev spelled_anew : List ℕ → List ℕ
spelled_anew message = response_bytes (read_response message)

fits_of : (message : List ℕ) → AreBytes message → IsSound message → ResponseFits (read_response message)
fits_of message are sound = response_fits message are sound.no_fault

short_of : (message : List ℕ) → IsSound message → length (spelled_anew message) < 2 ^ 64
short_of message sound = omega (arith, sound.short)

reads_again : (message : List ℕ) → AreBytes message → IsSound message → read_response (spelled_anew message) ≡ read_response message
reads_again message are sound = response_again (read_response message) (fits_of message are sound) (short_of message sound)

sound_again : (message : List ℕ) → AreBytes message → IsSound message → IsSound (spelled_anew message)
sound_again message are sound = record {
  no_fault = response_clean (read_response message) (fits_of message are sound) (short_of message sound);
  short = subst (λ (x : GetFlowsResponse). length (response_bytes x) ≤ 65536) (sym (reads_again message are sound)) sound.short;
}

-- ---- the messages of a file are bytes

front_bytes : (xs ys : List ℕ) → AreBytes (xs ++ ys) → AreBytes xs
front_bytes xs ys are = subst AreBytes (take_at xs ys (length xs) refl) (AreBytes_take (length xs) (xs ++ ys) are)

message_with : (o : Option (List ℕ)) (ms : List (List ℕ)) → IfSome o AreBytes → AllByRecursion AreBytes ms → AllByRecursion AreBytes (cons_option o ms)
message_with None ms p q = q
message_with (Some m) ms p q = (p, q)

bytes_in : (b : Bool) (body : List ℕ) → AreBytes body → IfSome (if b then Some body else None) AreBytes
bytes_in true body are = are
bytes_in false body are = tt

pub messages_bytes : (frames : List Frame) (rest : List ℕ) → AreBytes (flat_map frame_bytes frames ++ rest) → AllByRecursion AreBytes (messages frames)
messages_bytes [] rest are = tt
messages_bytes (f ∷ fs) rest are =
    let all = subst AreBytes (frames_after f fs rest) are in
    let frame = front_bytes (frame_bytes f) (flat_map frame_bytes fs ++ rest) all in
    let body : AreBytes f.body = rest_bytes (f.kind ∷ to_be_bytes w32 (length f.body)) f.body frame in
    message_with (message_in f) (messages fs) (bytes_in (f.kind == 0) f.body body) (messages_bytes fs rest (rest_bytes (frame_bytes f) (flat_map frame_bytes fs ++ rest) all))

-- ---- a recording

abbrev frames_of : List (List ℕ) → List Frame
frames_of ms = map (λ m. message_frame (spelled_anew m)) ms

-- its frames, each a message spelled anew
record Anew (ms : List (List ℕ)) : Type 0 where
  whole : canonical (map read_response ms) ≡ flat_map frame_bytes (frames_of ms)
  fit : AllByRecursion IsFrame (frames_of ms)
  sound : AllByRecursion IsSound (messages (frames_of ms))
  read : map read_response ms ≡ map read_response (messages (frames_of ms))

anew : (ms : List (List ℕ)) → AllByRecursion AreBytes ms → AllByRecursion IsSound ms → Anew ms
anew [] are sound = record { whole = refl; fit = tt; sound = tt; read = refl }
anew (m ∷ ms) are sound =
    let rest = anew ms are.1 sound.1 in
    record {
      whole = ap (λ (bs : List ℕ). frame_bytes (message_frame (spelled_anew m)) ++ bs) rest.whole;
      fit = (record { known = omega arith; short = sound.0.short }, rest.fit);
      sound = (sound_again m are.0 sound.0, rest.sound);
      read = ap (λ (rs : List GetFlowsResponse). read_response m ∷ rs) rest.read
          ∙ ap (λ (r : GetFlowsResponse). r ∷ map read_response (messages (frames_of ms))) (sym (reads_again m are.0 sound.0));
    }

recorded_anew : (ms : List (List ℕ)) → Anew ms → Recorded (canonical (map read_response ms)) (map read_response ms)
recorded_anew ms is = record {
  frames = frames_of ms;
  cut = record {
    starts = record { fit = is.fit; whole = is.whole ∙ sym (append-nil (flat_map frame_bytes (frames_of ms))) };
    longest = nothing_starts;
  };
  sound = is.sound;
  read = is.read;
}

pub canonical_recorded : (file : List ℕ) (rs : List GetFlowsResponse) → IsRecordingOf file rs → Recorded (canonical rs) rs
canonical_recorded file rs is =
    let are = is.bytes in
    let recorded = is.recorded in
    let ms = messages recorded.frames in
    let bytes = messages_bytes recorded.frames [] (subst AreBytes recorded.cut.starts.whole are) in
    subst (λ (xs : List GetFlowsResponse). Recorded (canonical xs) xs) (sym recorded.read) (recorded_anew ms (anew ms bytes recorded.sound))
