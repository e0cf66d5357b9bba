-- The events that a session reads, which of them it gives, and those that it makes of what was
-- lost.
use Rattle.std.specs.Prelude.{ℕ, pos, Bool, true, false, not, ◌&&◌, ◌||◌, List, [], Option, Some, None, unwrap_or, int_lt, int_le}
use Rattle.std.specs.Option.{option_map_or}
use Rattle.std.specs.List.{count_by}
use Rattle.hb_time.specs.declared.stamp.Stamp.{Stamp}
use Rattle.hb_time.specs.Stamps.{stamp_of}
use Rattle.hb_schema.specs.declared.fault.DecodeFault.{DecodeFault}
use Rattle.hb_flow.specs.declared.event.Event.{Event}
use Rattle.hb_flow.specs.declared.event.Event.TheVariants as events
use Rattle.hb_flow.specs.Faults.{response_fault}
use Rattle.hb_flow.specs.Messages.{read_response, event_in}
use Rattle.hb_api.specs.declared.request.GetFlowsRequest.{GetFlowsRequest}

-- the event that bytes hold where they have no fault
abbrev pub sound_event : Option DecodeFault → List ℕ → Option Event
sound_event None bytes = event_in (read_response bytes)
sound_event (Some fault) bytes = None

-- the event whose record these bytes are; none where they have a fault, or hold neither a flow nor
-- lost events
abbrev pub event_of_record : List ℕ → Option Event
event_of_record bytes = sound_event (response_fault bytes) bytes

-- whether a stamp is not after another: by seconds, and then by nanoseconds
abbrev pub not_after : Stamp → Stamp → Bool
not_after a b = int_lt a.secs b.secs || (int_le a.secs b.secs && int_le a.nanos b.nanos)

-- a flow that has no stamp counts as stamped at 0
abbrev pub stamp_or_0 : Option Stamp → Stamp
stamp_or_0 stamp = unwrap_or stamp (record { secs = pos 0; nanos = pos 0 })

-- whether a stamp is within the bounds that there are, both included
abbrev pub is_within : GetFlowsRequest → Stamp → Bool
is_within request stamp = option_map_or (λ since. not_after since stamp) request.since true
    && option_map_or (λ until. not_after stamp until) request.until true

-- whether an event passes: each lost event does, and each flow whose stamp is within the bounds
abbrev pub passes : GetFlowsRequest → Event → Bool
passes request (events.Flow flow) = is_within request (stamp_or_0 flow.time)
passes request (events.Lost lost) = true

-- whether an event is a flow that is stamped after the last moment that is asked for
abbrev pub is_too_late : GetFlowsRequest → Event → Bool
is_too_late request (events.Flow flow) =
    option_map_or (λ until. not (not_after (stamp_or_0 flow.time) until)) request.until false
is_too_late request (events.Lost lost) = false

abbrev pub is_flow : Event → Bool
is_flow (events.Flow flow) = true
is_flow (events.Lost lost) = false

abbrev pub flows : List Event → ℕ
flows events = count_by is_flow events

-- the source of lost events that a node's ring lost
abbrev pub hubble_ring_buffer : ℕ
hubble_ring_buffer = 3

-- the lost event of a stretch: how many records were overwritten, and the moment of the last look
-- that found so
abbrev pub lost_event : ℕ → ℕ → Event
lost_event count moment = events.Lost (record {
  event =
      record { source = pos hubble_ring_buffer; num_events_lost = count; cpu = None; unknown = [] };
  time = Some (stamp_of moment);
})
