-- How long the spelling of a response is.
use Rattle.std.proofs.Common.{ℕ, ◌+◌, ◌≤◌, List, [], ◌∷◌, ◌++◌, length, Option, Some, None, arith, length-append}
use Rattle.std.specs.Option.{option_map}
use Rattle.hb_wire.specs.Field.{spelling}
use Rattle.hb_flow.specs.Messages.{response_bytes, member_field, message_field, text_field, number_field, flow_bytes, lost_event_bytes, int32_value_bytes, stamp_bytes, of_signed}
use Rattle.hb_flow.specs.declared.flow.Flow.{Flow}
use Rattle.hb_flow.specs.declared.lost_event.Int32Value.{Int32Value}
use Rattle.hb_flow.specs.declared.lost_event.LostEvent.{LostEvent}
use Rattle.hb_flow.specs.declared.response.GetFlowsResponse.{GetFlowsResponse}
use Rattle.hb_flow.specs.declared.response_types.ResponseTypes.{ResponseTypes}
use Rattle.hb_flow.specs.declared.response_types.ResponseTypes.TheVariants as member
use Rattle.hb_flow.proofs.Events.{spelling_length, number_length, body_length, time_length}

pub text_length : (number : ℕ) (text : List ℕ) → length (spelling (text_field number text)) ≤ 20 + length text
text_length number [] = omega arith
text_length number (b ∷ text) = body_length number (b ∷ text)

flow_length : (f : Flow) → length (flow_bytes f) ≤ 100 + length f.uuid + length f.unknown
unfolding flow_bytes
flow_length f =
    let time = message_field 1 (option_map stamp_bytes f.time) in
    let verdict = number_field 2 (of_signed f.verdict) in
    let uuid = text_field 34 f.uuid in
    omega (
      arith,
      length-append (spelling (time ++ verdict ++ uuid)) f.unknown,
      spelling_length (time ++ verdict) uuid,
      spelling_length time verdict,
      time_length 1 f.time,
      number_length 2 (of_signed f.verdict),
      text_length 34 f.uuid,
    )

cpu_length : (cpu : Option Int32Value) → length (spelling (message_field 3 (option_map int32_value_bytes cpu))) ≤ 40
unfolding int32_value_bytes
cpu_length None = omega arith
cpu_length (Some v) = omega (arith, body_length 3 (int32_value_bytes v), number_length 1 (of_signed v.value))

lost_event_length : (e : LostEvent) → length (lost_event_bytes e) ≤ 80 + length e.unknown
unfolding lost_event_bytes
lost_event_length e =
    let source = number_field 1 (of_signed e.source) in
    let lost = number_field 2 e.num_events_lost in
    let cpu = message_field 3 (option_map int32_value_bytes e.cpu) in
    omega (
      arith,
      length-append (spelling (source ++ lost ++ cpu)) e.unknown,
      spelling_length (source ++ lost) cpu,
      spelling_length source lost,
      number_length 1 (of_signed e.source),
      number_length 2 e.num_events_lost,
      cpu_length e.cpu,
    )

-- the bytes of a member whose length is not bounded by its form
abbrev pub open_length : Option ResponseTypes → ℕ
open_length None = 0
open_length (Some (member.Flow f)) = length f.uuid + length f.unknown
open_length (Some (member.NodeStatus status)) = length status
open_length (Some (member.LostEvents e)) = length e.unknown

member_length : (held : Option ResponseTypes) → length (spelling (member_field held)) ≤ 120 + open_length held
member_length None = omega arith
member_length (Some (member.Flow f)) = omega (arith, body_length 1 (flow_bytes f), flow_length f)
member_length (Some (member.NodeStatus status)) = omega (arith, body_length 2 status)
member_length (Some (member.LostEvents e)) = omega (arith, body_length 3 (lost_event_bytes e), lost_event_length e)

-- a response is little longer than what can be long in it
pub response_length : (r : GetFlowsResponse) → length (response_bytes r) ≤ 200 + open_length r.response_types + length r.node_name + length r.unknown
unfolding response_bytes
response_length r =
    let held = member_field r.response_types in
    let name = text_field 1000 r.node_name in
    let time = message_field 1001 (option_map stamp_bytes r.time) in
    omega (
      arith,
      length-append (spelling (held ++ name ++ time)) r.unknown,
      spelling_length (held ++ name) time,
      spelling_length held name,
      member_length r.response_types,
      text_length 1000 r.node_name,
      time_length 1001 r.time,
    )
