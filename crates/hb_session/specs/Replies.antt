-- What a client is owed, by the looks that were made for it.
use Rattle.std.specs.Prelude.{ℕ, ◌-◌, ◌≡◌, ◌≤◌, Bool, false, List, [], ◌∷◌, ◌++◌, length, map, Option, Some, None, if◌then◌else◌}
use Rattle.std.specs.List.{flat_map}
use Rattle.std.specs.Option.{is_none, option_map_or}
use Rattle.hb_look.specs.Looks.{LookMade, reach}
use Rattle.hb_flow.specs.declared.event.Event.{Event}
use Rattle.hb_flow.specs.declared.event.Event.TheVariants as events
use Rattle.hb_flow.specs.declared.response_types.ResponseTypes.TheVariants as members
use Rattle.hb_flow.specs.declared.response.GetFlowsResponse.{GetFlowsResponse}
use Rattle.hb_flow.specs.Messages.{response_bytes}
use Rattle.hb_frame.specs.Frames.{Frame, frame_bytes, message_frame, longest_body}
use Rattle.hb_session.specs.Openings.{Opening, Reading, Backwards, Forwards, top, readings}
use Rattle.hb_session.specs.Forward.{forward, forward_has_ended}
use Rattle.hb_session.specs.Backward.{backward, backward_has_ended}

-- what a reading gives
abbrev pub given_by : Opening → Reading → List LookMade → List Event
given_by o Backwards looks = backward o looks
given_by o (Forwards span) looks = forward o span looks

-- whether it has ended
abbrev pub is_over : Opening → Reading → List LookMade → Bool
is_over o Backwards looks = backward_has_ended o looks
is_over o (Forwards span) looks = forward_has_ended o span looks

-- where its next look is to be made
abbrev pub place_in : Opening → Reading → List LookMade → ℕ
place_in o Backwards looks = top o - 1 - length looks
place_in o (Forwards span) looks = reach span.start looks

-- looks in two: those up to the first after which this is so, behind those before, and the others
abbrev pub parted : (List LookMade → Bool) → List LookMade → List LookMade
    → List LookMade × List LookMade
parted ended own [] = (own, [])
parted ended own (look ∷ looks) = if ended own
    then (own, look ∷ looks) else parted ended (own ++ look ∷ []) looks

-- the looks that are a reading's own, up to its end, and those that are left
abbrev pub shared : Opening → Reading → List LookMade → List LookMade × List LookMade
shared o reading looks = parted (is_over o reading) [] looks

-- what readings give, one after another
abbrev pub reply_by : Opening → List Reading → List LookMade → List Event
reply_by o [] looks = []
reply_by o (reading ∷ readings) looks = given_by o reading (shared o reading looks).0
    ++ reply_by o readings (shared o reading looks).1

-- a reading that goes on, and its own looks
pub record Going : Type 0 where
  pub reading : Reading
  pub looks : List LookMade

-- the first of some readings that has not ended
abbrev pub going_by : Opening → List Reading → List LookMade → Option Going
going_by o [] looks = None
going_by o (reading ∷ readings) looks = if is_over o reading (shared o reading looks).0
    then going_by o readings (shared o reading looks).1
    else Some (record { reading = reading; looks = (shared o reading looks).0 })

-- the events of the reply, in order
abbrev pub reply : Opening → List LookMade → List Event
reply o looks = reply_by o (readings o) looks

-- the reading that goes on
abbrev pub going : Opening → List LookMade → Option Going
going o looks = going_by o (readings o) looks

-- the reply has ended: no look is made for it any more
abbrev pub has_ended : Opening → List LookMade → Bool
has_ended o looks = is_none (going o looks)

-- where the next look is to be made
abbrev pub place : Opening → List LookMade → ℕ
place o looks = option_map_or (λ g. place_in o g.reading g.looks) (going o looks) (top o)

-- the response that gives an event: with the node's name and the event's own time
abbrev pub response_for : List ℕ → Event → GetFlowsResponse
response_for name (events.Flow flow) = record {
  response_types = Some (members.Flow flow);
  node_name = name;
  time = flow.time;
  unknown = [];
}
response_for name (events.Lost lost) = record {
  response_types = Some (members.LostEvents lost.event);
  node_name = name;
  time = lost.time;
  unknown = [];
}

-- the response fits a frame
abbrev pub FitsFrame : List ℕ → Event → Type 0
FitsFrame name event = length (response_bytes (response_for name event)) ≤ longest_body

-- the frames of the responses that give events
abbrev pub event_frame : List ℕ → Event → Frame
event_frame name event = message_frame (response_bytes (response_for name event))

abbrev pub event_frames : List ℕ → List Event → List Frame
event_frames name events = map (event_frame name) events

-- the frame that ends a reply: a status without code or message
abbrev pub status_frame : Frame
status_frame = record { kind = 2; body = [] }

-- all frames that are owed: that of each event of the reply, and that of the status where the
-- reply has ended
abbrev pub owed : Opening → List LookMade → List Frame
owed o looks = event_frames o.name (reply o looks)
    ++ (if has_ended o looks then status_frame ∷ [] else [])

-- the bytes of frames
abbrev pub spelled : List Frame → List ℕ
spelled frames = flat_map frame_bytes frames

-- Each of the looks is where those before it lead to, and was made while the reply had not ended.
abbrev pub AreMadeAfter : Opening → List LookMade → List LookMade → Type 0
AreMadeAfter o before [] = Unit {0}
AreMadeAfter o before (look ∷ looks) = (has_ended o before ≡ false)
    × (look.position ≡ place o before)
    × AreMadeAfter o (before ++ look ∷ []) looks

-- the looks of a session, from the first on
abbrev pub AreMade : Opening → List LookMade → Type 0
AreMade o looks = AreMadeAfter o [] looks
