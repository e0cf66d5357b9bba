-- A message after one more field: how it is read, one field after another.
use Rattle.std.specs.Prelude.{ℕ, List, [], Option, Some, None, unwrap_or, ◌++◌, ◌==◌, if◌then◌else◌, pos}
use Rattle.std.specs.List.{fold}
use Rattle.hb_wire.specs.Field.{Content, Varint, Fixed64, Body, Fixed32}
use Rattle.hb_time.specs.declared.stamp.Stamp.{Stamp}
use Rattle.hb_flow.specs.declared.flow.Flow.{Flow}
use Rattle.hb_flow.specs.declared.lost_event.Int32Value.{Int32Value}
use Rattle.hb_flow.specs.declared.lost_event.LostEvent.{LostEvent}
use Rattle.hb_flow.specs.declared.response_types.ResponseTypes.{ResponseTypes}
use Rattle.hb_flow.specs.declared.response_types.ResponseTypes.TheVariants as member
use Rattle.hb_flow.specs.declared.response.GetFlowsResponse.{GetFlowsResponse}
use Rattle.hb_flow.specs.Fields.{Part, parts}
use Rattle.hb_flow.specs.Messages.{int64, int32}

-- a Timestamp with no field
abbrev pub no_stamp : Stamp
no_stamp = record { secs = pos 0; nanos = pos 0 }

-- a Flow with no field
abbrev pub no_flow : Flow
no_flow = record { time = None; verdict = pos 0; uuid = []; unknown = [] }

-- an Int32Value with no field
abbrev pub no_int32_value : Int32Value
no_int32_value = record { value = pos 0 }

-- a LostEvent with no field
abbrev pub no_lost_event : LostEvent
no_lost_event = record { source = pos 0; num_events_lost = 0; cpu = None; unknown = [] }

-- a GetFlowsResponse with no field
abbrev pub no_response : GetFlowsResponse
no_response = record { response_types = None; node_name = []; time = None; unknown = [] }

-- a Timestamp with what a field of this number holds
abbrev pub stamp_with : Stamp → ℕ → Content → Stamp
stamp_with s number (Varint value) =
    if number == 1 then record s { secs = int64 value }
    else if number == 2 then record s { nanos = int32 value }
    else s
stamp_with s number (Fixed64 value) = s
stamp_with s number (Body body) = s
stamp_with s number (Fixed32 value) = s

-- a Timestamp with one more field
abbrev pub stamp_after : Stamp → Part → Stamp
stamp_after s part = stamp_with s part.field.number part.field.content

-- a Timestamp that may be there, with all the fields of one more body
abbrev pub stamp_merged : Option Stamp → List ℕ → Stamp
stamp_merged s body = fold stamp_after (unwrap_or s no_stamp) (parts body)

-- a Flow with the bytes of a field that is not known
abbrev pub flow_keeping : Flow → List ℕ → Flow
flow_keeping f raw = record f { unknown = f.unknown ++ raw }

-- a Flow with what a field of this number holds
abbrev pub flow_with : Flow → List ℕ → ℕ → Content → Flow
flow_with f raw number (Varint value) =
    if number == 2 then record f { verdict = int32 value }
    else flow_keeping f raw
flow_with f raw number (Body body) =
    if number == 1 then record f { time = Some (stamp_merged f.time body) }
    else if number == 34 then record f { uuid = body }
    else flow_keeping f raw
flow_with f raw number (Fixed64 value) = flow_keeping f raw
flow_with f raw number (Fixed32 value) = flow_keeping f raw

-- a Flow with one more field
abbrev pub flow_after : Flow → Part → Flow
flow_after f part = flow_with f part.raw part.field.number part.field.content

-- a Flow that may be there, with all the fields of one more body
abbrev pub flow_merged : Option Flow → List ℕ → Flow
flow_merged f body = fold flow_after (unwrap_or f no_flow) (parts body)

-- an Int32Value with what a field of this number holds
abbrev pub int32_value_with : Int32Value → ℕ → Content → Int32Value
int32_value_with v number (Varint value) =
    if number == 1 then record v { value = int32 value } else v
int32_value_with v number (Fixed64 value) = v
int32_value_with v number (Body body) = v
int32_value_with v number (Fixed32 value) = v

-- an Int32Value with one more field
abbrev pub int32_value_after : Int32Value → Part → Int32Value
int32_value_after v part = int32_value_with v part.field.number part.field.content

-- an Int32Value that may be there, with all the fields of one more body
abbrev pub int32_value_merged : Option Int32Value → List ℕ → Int32Value
int32_value_merged v body = fold int32_value_after (unwrap_or v no_int32_value) (parts body)

-- a LostEvent with the bytes of a field that is not known
abbrev pub lost_event_keeping : LostEvent → List ℕ → LostEvent
lost_event_keeping e raw = record e { unknown = e.unknown ++ raw }

-- a LostEvent with what a field of this number holds
abbrev pub lost_event_with : LostEvent → List ℕ → ℕ → Content → LostEvent
lost_event_with e raw number (Varint value) =
    if number == 1 then record e { source = int32 value }
    else if number == 2 then record e { num_events_lost = value }
    else lost_event_keeping e raw
lost_event_with e raw number (Body body) =
    if number == 3 then record e { cpu = Some (int32_value_merged e.cpu body) }
    else lost_event_keeping e raw
lost_event_with e raw number (Fixed64 value) = lost_event_keeping e raw
lost_event_with e raw number (Fixed32 value) = lost_event_keeping e raw

-- a LostEvent with one more field
abbrev pub lost_event_after : LostEvent → Part → LostEvent
lost_event_after e part = lost_event_with e part.raw part.field.number part.field.content

-- a LostEvent that may be there, with all the fields of one more body
abbrev pub lost_event_merged : Option LostEvent → List ℕ → LostEvent
lost_event_merged e body = fold lost_event_after (unwrap_or e no_lost_event) (parts body)

-- the flow that is held; another member holds none
abbrev pub flow_held : Option ResponseTypes → Option Flow
flow_held None = None
flow_held (Some (member.Flow f)) = Some f
flow_held (Some (member.NodeStatus status)) = None
flow_held (Some (member.LostEvents e)) = None

-- the bytes of the status that is held; another member holds none
abbrev pub status_held : Option ResponseTypes → List ℕ
status_held None = []
status_held (Some (member.Flow f)) = []
status_held (Some (member.NodeStatus status)) = status
status_held (Some (member.LostEvents e)) = []

-- the lost events that are held; another member holds none
abbrev pub lost_events_held : Option ResponseTypes → Option LostEvent
lost_events_held None = None
lost_events_held (Some (member.Flow f)) = None
lost_events_held (Some (member.NodeStatus status)) = None
lost_events_held (Some (member.LostEvents e)) = Some e

-- the member after one more body of a flow: merged with the flow that is held
abbrev pub flow_next : Option ResponseTypes → List ℕ → ResponseTypes
flow_next held body = member.Flow (flow_merged (flow_held held) body)

-- after one more body of a status: joined with the status that is held
abbrev pub status_next : Option ResponseTypes → List ℕ → ResponseTypes
status_next held body = member.NodeStatus (status_held held ++ body)

-- after one more body of lost events: merged with those that are held
abbrev pub lost_events_next : Option ResponseTypes → List ℕ → ResponseTypes
lost_events_next held body = member.LostEvents (lost_event_merged (lost_events_held held) body)

-- a GetFlowsResponse with the bytes of a field that is not known
abbrev pub response_keeping : GetFlowsResponse → List ℕ → GetFlowsResponse
response_keeping r raw = record r { unknown = r.unknown ++ raw }

-- a GetFlowsResponse with what a field of this number holds
abbrev pub response_with : GetFlowsResponse → List ℕ → ℕ → Content → GetFlowsResponse
response_with r raw number (Body body) =
    if number == 1 then record r { response_types = Some (flow_next r.response_types body) }
    else if number == 2 then record r { response_types = Some (status_next r.response_types body) }
    else if number == 3
    then record r { response_types = Some (lost_events_next r.response_types body) }
    else if number == 1000 then record r { node_name = body }
    else if number == 1001 then record r { time = Some (stamp_merged r.time body) }
    else response_keeping r raw
response_with r raw number (Varint value) = response_keeping r raw
response_with r raw number (Fixed64 value) = response_keeping r raw
response_with r raw number (Fixed32 value) = response_keeping r raw

-- a GetFlowsResponse with one more field
abbrev pub response_after : GetFlowsResponse → Part → GetFlowsResponse
response_after r part = response_with r part.raw part.field.number part.field.content
