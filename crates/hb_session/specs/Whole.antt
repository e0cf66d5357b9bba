-- The whole reply from a ring that is no longer written: each look of the session gets its record.
use Rattle.std.specs.Prelude.{◌≡◌, ◌⊎◌, ℕ, ◌+◌, ◌<◌, List, [], ◌∷◌, ◌++◌, length, map, take, drop, true, false, Some, slice_get}
use Rattle.std.specs.List.{filter, AllByRecursion}
use Rattle.hb_look.specs.Looks.{LookMade, Got}
use Rattle.hb_flow.specs.declared.event.Event.{Event}
use Rattle.hb_session.specs.Openings.{Opening}
use Rattle.hb_session.specs.Events.{event_of_record, passes, flows}
use Rattle.hb_session.specs.Replies.{owed, spelled, has_ended, event_frames, status_frame, AreMade}

-- a look at a ring of this capacity found the record that the log has at its position, at the
-- moment 0
abbrev pub IsGot : ℕ → List (List ℕ) → LookMade → Type 0
IsGot cap log look = (bytes : List ℕ) × (look.found ≡ Got bytes)
    × (slice_get log look.position ≡ Some bytes) × (look.moment ≡ 0) × (look.capacity ≡ cap)

-- the bytes are the whole of what a session owes that does not follow, and whose looks at a ring of
-- this capacity each got their record
pub record IsReply (o : Opening) (cap : ℕ) (log : List (List ℕ)) (bytes : List ℕ) : Type 0 where
  pub alone : o.request.follow ≡ false
  pub looks : List LookMade
  pub made : AreMade o looks
  pub got : AllByRecursion (IsGot cap log) looks
  pub ended : has_ended o looks ≡ true
  pub whole : bytes ≡ spelled (owed o looks)

-- ---- the same by the events of the window

-- the window reaches up to the log's end, and its records hold these events, one each
pub record HasEvents (o : Opening) (log : List (List ℕ)) (events : List Event) : Type 0 where
  pub ends : o.low + o.size ≡ length log
  pub held : map event_of_record (drop o.low log) ≡ map Some events

-- those of the events that pass
abbrev pub passing : Opening → List Event → List Event
passing o events = filter (passes o.request) events

-- the bytes of the frames of events, and of that of the status
abbrev pub frames_of : Opening → List Event → List ℕ
frames_of o events = spelled (event_frames o.name events ++ status_frame ∷ [])

-- Bytes give what passes of the first events up to a count, the least at which there are as many
-- flows as are asked for, or of all events.
abbrev pub GivesFirst : Opening → List Event → List ℕ → Type 0
GivesFirst o events bytes = (count : ℕ) × (bytes ≡ frames_of o (passing o (take count events)))
    × ((fewer : ℕ) → fewer < count → flows (passing o (take fewer events)) < o.request.number)
    × ((take count events ≡ events) ⊎ (flows (passing o (take count events)) ≡ o.request.number))

-- Bytes give what passes of the last events from a start on, the latest from which there are as
-- many flows as are asked for, or of all events.
abbrev pub GivesLast : Opening → List Event → List ℕ → Type 0
GivesLast o events bytes = (start : ℕ) × (bytes ≡ frames_of o (passing o (drop start events)))
    × ((later : ℕ) → start < later → flows (passing o (drop later events)) < o.request.number)
    × ((start ≡ 0) ⊎ (flows (passing o (drop start events)) ≡ o.request.number))
