-- A recording: frames, of which each message is a response of a node.
use Rattle.std.specs.Prelude.{◌≡◌, ◌⊎◌, ◌<◌, ◌≤◌, ℕ, List, [], length, map, None, IsSome}
use Rattle.std.specs.List.{flat_map, filter_map, AllByRecursion}
use Rattle.hb_wire.specs.Varint.{AreBytes}
use Rattle.hb_flow.specs.Faults.{response_fault}
use Rattle.hb_flow.specs.Messages.{read_response, response_bytes, event_in}
use Rattle.hb_flow.specs.declared.event.Event.{Event}
use Rattle.hb_flow.specs.declared.response.GetFlowsResponse.{GetFlowsResponse}
use Rattle.hb_frame.specs.Frames.{Frame, frame_bytes, longest_body, message_frame, messages}
use Rattle.hb_frame.specs.Cut.{StartsFrame, StartsNoFrame, StartsFrames, IsCut}

-- ---- a message

-- it has no fault, and its response, spelled anew, fits a frame
pub record IsSound (message : List ℕ) : Type 0 where
  pub no_fault : response_fault message ≡ None
  pub short : length (response_bytes (read_response message)) ≤ longest_body

-- it has a fault, or its response, spelled anew, fits no frame
abbrev pub IsBad : List ℕ → Type 0
IsBad message = IsSome (response_fault message)
    ⊎ (longest_body < length (response_bytes (read_response message)))

-- ---- a file

-- The file is a recording of these responses: it is cut into frames with no rest, whose messages
-- are sound and read as the responses. Frames of other kinds are passed over, whatever their
-- body.
pub record Recorded (file : List ℕ) (responses : List GetFlowsResponse) : Type 0 where
  pub frames : List Frame
  pub cut : IsCut file frames []
  pub sound : AllByRecursion IsSound (messages frames)
  pub read : responses ≡ map read_response (messages frames)

-- a file of bytes that is a recording of these responses
pub record IsRecordingOf (file : List ℕ) (responses : List GetFlowsResponse) : Type 0 where
  pub bytes : AreBytes file
  pub recorded : Recorded file responses

-- the events of responses, in order: flows, and lost events with the time of their response
abbrev pub events : List GetFlowsResponse → List Event
events responses = filter_map event_in responses

-- the frames of responses, each in its canonical spelling
abbrev pub canonical : List GetFlowsResponse → List ℕ
canonical responses = flat_map (λ r. frame_bytes (message_frame (response_bytes r))) responses

-- ---- a file that is bad

-- these frames begin the file, and their messages are sound; then the rest comes
pub record TakesFrames (file : List ℕ) (frames : List Frame) (rest : List ℕ) : Type 0 where
  pub starts : StartsFrames file frames rest
  pub sound : AllByRecursion IsSound (messages frames)

-- it goes on, but with no whole frame, or with one whose message is bad
abbrev pub IsBadFront : List ℕ → Type 0
IsBadFront rest = ((0 < length rest) × StartsNoFrame rest)
    ⊎ ((message : List ℕ) × (after : List ℕ) × StartsFrame rest (message_frame message) after
    × IsBad message)

-- the first frame of the file that is not sound is bad, so many bytes come before it, and these
-- are the responses of the frames before it
pub record IsBadAfter (file : List ℕ) (responses : List GetFlowsResponse) (at : ℕ) : Type 0 where
  pub frames : List Frame
  pub rest : List ℕ
  pub before : TakesFrames file frames rest
  pub read : responses ≡ map read_response (messages frames)
  pub place : at ≡ length (flat_map frame_bytes frames)
  pub bad : IsBadFront rest

-- the file's first bad record is at this place
abbrev pub IsBadRecord : List ℕ → ℕ → Type 0
IsBadRecord file at = (responses : List GetFlowsResponse) × IsBadAfter file responses at
