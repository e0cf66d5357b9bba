-- What the bytes of a message read as, number by number, and its one canonical spelling. Of
-- numbers and of texts the last counts, and the bodies of a message are read as one. Of the
-- members of a oneof the last counts, with its bodies after any other. The bytes of fields that
-- are not known are kept, but for those of a Timestamp and of an Int32Value.
use Rattle.std.specs.Prelude.{◌≡◌, ℕ, ℤ, zero, suc, pos, ◌%◌, ◌^◌, ◌<◌, ◌==◌, if◌then◌else◌, List, [], ◌∷◌, ◌++◌, Option, Some, None, false, IfSome, IsUtf8, FitsSigned}
use Rattle.std.specs.Int.{w32, w64, cast_signed, cast_unsigned}
use Rattle.std.specs.Option.{option_map}
use Rattle.std.specs.List.{flat_map, AllByRecursion}
use Rattle.hb_wire.specs.Field.{Varint, Body, Piece, SpellsField, spelling}
use Rattle.hb_flow.specs.Fields.{Part, parts, numbers, bodies, last_or, joined, member_bodies, Row, knows, unknown}
use Rattle.hb_time.specs.declared.stamp.Stamp.{Stamp}
use Rattle.hb_flow.specs.declared.flow.Flow.{Flow}
use Rattle.hb_flow.specs.declared.lost_event.Int32Value.{Int32Value}
use Rattle.hb_flow.specs.declared.lost_event.LostEvent.{LostEvent}
use Rattle.hb_flow.specs.declared.response_types.ResponseTypes.{ResponseTypes}
use Rattle.hb_flow.specs.declared.response_types.ResponseTypes.TheVariants as member
use Rattle.hb_flow.specs.declared.response.GetFlowsResponse.{GetFlowsResponse}
use Rattle.hb_flow.specs.declared.event.Lost.{Lost}
use Rattle.hb_flow.specs.declared.event.Event.{Event}
use Rattle.hb_flow.specs.declared.event.Event.TheVariants as event

-- a number as int64
abbrev pub int64 : ℕ → ℤ
int64 n = cast_signed w64 n

-- the low 32 bits of a number as int32
abbrev pub int32 : ℕ → ℤ
int32 n = cast_signed w32 (n % 2 ^ 32)

-- Timestamp: seconds=1 int64, nanos=2 int32
unfoldable pub read_stamp : List ℕ → Stamp
read_stamp bytes = record {
  secs = int64 (last_or 0 (numbers 1 (parts bytes)));
  nanos = int32 (last_or 0 (numbers 2 (parts bytes)));
}

-- Flow: time=1 Timestamp, verdict=2 Verdict (an enum), uuid=34 string
abbrev pub flow_row : Row
flow_row = (1, 2) ∷ (2, 0) ∷ (34, 2) ∷ []

-- the Flow that bytes read as
unfoldable pub read_flow : List ℕ → Flow
read_flow bytes = record {
  time = option_map read_stamp (joined (bodies 1 (parts bytes)));
  verdict = int32 (last_or 0 (numbers 2 (parts bytes)));
  uuid = last_or [] (bodies 34 (parts bytes));
  unknown = unknown flow_row (parts bytes);
}

-- Int32Value: value=1 int32
unfoldable pub read_int32_value : List ℕ → Int32Value
read_int32_value bytes = record { value = int32 (last_or 0 (numbers 1 (parts bytes))) }

-- LostEvent: source=1 LostEventSource (an enum), num_events_lost=2 uint64, cpu=3 Int32Value
abbrev pub lost_event_row : Row
lost_event_row = (1, 0) ∷ (2, 0) ∷ (3, 2) ∷ []

-- the LostEvent that bytes read as
unfoldable pub read_lost_event : List ℕ → LostEvent
read_lost_event bytes = record {
  source = int32 (last_or 0 (numbers 1 (parts bytes)));
  num_events_lost = last_or 0 (numbers 2 (parts bytes));
  cpu = option_map read_int32_value (joined (bodies 3 (parts bytes)));
  unknown = unknown lost_event_row (parts bytes);
}

-- the member with a number that bytes read as: flow=1 Flow, node_status=2, which is not read, and
-- lost_events=3 LostEvent
abbrev pub read_member : ℕ → List ℕ → ResponseTypes
read_member number bytes =
    if number == 1 then member.Flow (read_flow bytes)
    else if number == 2 then member.NodeStatus bytes
    else member.LostEvents (read_lost_event bytes)

-- GetFlowsResponse: a oneof of flow=1, node_status=2 and lost_events=3, and node_name=1000 string,
-- time=1001 Timestamp
abbrev pub response_row : Row
response_row = (1, 2) ∷ (2, 2) ∷ (3, 2) ∷ (1000, 2) ∷ (1001, 2) ∷ []

-- the GetFlowsResponse that bytes read as
unfoldable pub read_response : List ℕ → GetFlowsResponse
read_response bytes = record {
  response_types = option_map (λ m. read_member m.0 (flat_map (λ b. b) m.1))
      (member_bodies (parts bytes));
  node_name = last_or [] (bodies 1000 (parts bytes));
  time = option_map read_stamp (joined (bodies 1001 (parts bytes)));
  unknown = unknown response_row (parts bytes);
}

-- a number is spelled where it is not 0
abbrev pub number_field : ℕ → ℕ → List Piece
number_field number zero = []
number_field number (suc n) = record { number = number; content = Varint (suc n) } ∷ []

-- a text is spelled where it is not empty
abbrev pub text_field : ℕ → List ℕ → List Piece
text_field number [] = []
text_field number (b ∷ text) = record { number = number; content = Body (b ∷ text) } ∷ []

-- a message is spelled where there is one
abbrev pub message_field : ℕ → Option (List ℕ) → List Piece
message_field number None = []
message_field number (Some body) = record { number = number; content = Body body } ∷ []

-- the number in a varint of an int64 or an int32: a negative one takes all 64 bits
abbrev pub of_signed : ℤ → ℕ
of_signed z = cast_unsigned w64 z

-- a Timestamp's canonical spelling: its fields by ascending number
unfoldable pub stamp_bytes : Stamp → List ℕ
stamp_bytes s = spelling (number_field 1 (of_signed s.secs) ++ number_field 2 (of_signed s.nanos))

-- a Flow's canonical spelling: its fields, and then the bytes of those that are not known
unfoldable pub flow_bytes : Flow → List ℕ
flow_bytes f = spelling (message_field 1 (option_map stamp_bytes f.time)
    ++ number_field 2 (of_signed f.verdict)
    ++ text_field 34 f.uuid) ++ f.unknown

-- an Int32Value's canonical spelling
unfoldable pub int32_value_bytes : Int32Value → List ℕ
int32_value_bytes v = spelling (number_field 1 (of_signed v.value))

-- a LostEvent's canonical spelling: its fields, and then the bytes of those that are not known
unfoldable pub lost_event_bytes : LostEvent → List ℕ
lost_event_bytes e = spelling (number_field 1 (of_signed e.source)
    ++ number_field 2 e.num_events_lost
    ++ message_field 3 (option_map int32_value_bytes e.cpu)) ++ e.unknown

-- the number of a member
abbrev pub member_number : ResponseTypes → ℕ
member_number (member.Flow f) = 1
member_number (member.NodeStatus status) = 2
member_number (member.LostEvents e) = 3

-- the body of a member
abbrev pub member_bytes : ResponseTypes → List ℕ
member_bytes (member.Flow f) = flow_bytes f
member_bytes (member.NodeStatus status) = status
member_bytes (member.LostEvents e) = lost_event_bytes e

-- the member that is held is spelled as one body, whether or not that is empty
abbrev pub member_field : Option ResponseTypes → List Piece
member_field None = []
member_field (Some m) = message_field (member_number m) (Some (member_bytes m))

-- a GetFlowsResponse's canonical spelling: its fields by ascending number, and then the bytes of
-- those that are not known
unfoldable pub response_bytes : GetFlowsResponse → List ℕ
response_bytes r = spelling (member_field r.response_types
    ++ text_field 1000 r.node_name
    ++ message_field 1001 (option_map stamp_bytes r.time)) ++ r.unknown

-- the event that a member of a GetFlowsResponse is, with the time of the response
abbrev pub member_event : Option ResponseTypes → Option Stamp → Option Event
member_event None time = None
member_event (Some (member.Flow f)) time = Some (event.Flow f)
member_event (Some (member.NodeStatus status)) time = None
member_event (Some (member.LostEvents e)) time =
    Some (event.Lost (record { event = e; time = time }))

-- the event that a GetFlowsResponse holds: a flow, or lost events with the time of the response
abbrev pub event_in : GetFlowsResponse → Option Event
event_in r = member_event r.response_types r.time

-- the GetFlowsResponse that holds an event, and nothing else
abbrev pub event_response : Event → GetFlowsResponse
event_response (event.Flow f) =
    record { response_types = Some (member.Flow f); node_name = []; time = None; unknown = [] }
event_response (event.Lost l) = record {
  response_types = Some (member.LostEvents l.event);
  node_name = [];
  time = l.time;
  unknown = [];
}

-- the record that a ring keeps of an event: the spelling of that response
unfoldable pub record_bytes : Event → List ℕ
record_bytes e = response_bytes (event_response e)

-- when an event was seen
abbrev pub event_time : Event → Option Stamp
event_time (event.Flow f) = f.time
event_time (event.Lost l) = l.time

-- what stands for an event whose record is too long: one event lost at OBSERVER_EVENTS_QUEUE, 2, at
-- the event's own time
abbrev pub oversized : Event → Event
oversized e = event.Lost (record {
  event = record { source = pos 2; num_events_lost = 1; cpu = None; unknown = [] };
  time = event_time e;
})

-- the bytes spell fields that are not known
pub record SpellUnknown (row : Row) (bytes : List ℕ) : Type 0 where
  pub parts : List Part
  pub spelled : AllByRecursion (λ p. SpellsField p.raw p.field) parts
  pub not_known : AllByRecursion (λ p. knows row p.field ≡ false) parts
  pub whole : bytes ≡ flat_map (λ p. p.raw) parts

-- the numbers of a Timestamp have 64 and 32 bits
pub record StampFits (s : Stamp) : Type 0 where
  pub secs : FitsSigned w64 s.secs
  pub nanos : FitsSigned w32 s.nanos

-- an enum has 32 bits, and a text is UTF-8
pub record FlowFits (f : Flow) : Type 0 where
  pub time : IfSome f.time StampFits
  pub verdict : FitsSigned w32 f.verdict
  pub uuid : IsUtf8 f.uuid
  pub unknown : SpellUnknown flow_row f.unknown

-- the number of an Int32Value has 32 bits
pub record Int32ValueFits (v : Int32Value) : Type 0 where
  pub value : FitsSigned w32 v.value

-- the numbers of a LostEvent have their bits
pub record LostEventFits (e : LostEvent) : Type 0 where
  pub source : FitsSigned w32 e.source
  pub num_events_lost : e.num_events_lost < 2 ^ 64
  pub cpu : IfSome e.cpu Int32ValueFits
  pub unknown : SpellUnknown lost_event_row e.unknown

-- a member of the oneof fits; a node's status is any bytes
abbrev pub MemberFits : ResponseTypes → Type 0
MemberFits (member.Flow f) = FlowFits f
MemberFits (member.NodeStatus status) = Unit {0}
MemberFits (member.LostEvents e) = LostEventFits e

-- each part of a GetFlowsResponse fits
pub record ResponseFits (r : GetFlowsResponse) : Type 0 where
  pub response_types : IfSome r.response_types MemberFits
  pub node_name : IsUtf8 r.node_name
  pub time : IfSome r.time StampFits
  pub unknown : SpellUnknown response_row r.unknown

-- lost events fit, and their time
pub record LostFits (l : Lost) : Type 0 where
  pub event : LostEventFits l.event
  pub time : IfSome l.time StampFits

-- an event fits
abbrev pub EventFits : Event → Type 0
EventFits (event.Flow f) = FlowFits f
EventFits (event.Lost l) = LostFits l
