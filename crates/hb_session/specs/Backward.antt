-- A window that is read backwards, from its newest position.
use Rattle.std.specs.Prelude.{ℕ, ◌+◌, ◌-◌, Bool, ◌||◌, nat_lt, nat_le, List, [], ◌∷◌, ◌++◌, length, reverse, Option, Some, None, if◌then◌else◌}
use Rattle.std.specs.List.{filter, filter_map, last_or}
use Rattle.hb_look.specs.Looks.{Found, Got, Gone, NotYet, LookMade}
use Rattle.hb_flow.specs.declared.event.Event.{Event}
use Rattle.hb_api.specs.declared.request.GetFlowsRequest.{GetFlowsRequest}
use Rattle.hb_session.specs.Openings.{Opening, are_enough}
use Rattle.hb_session.specs.Events.{passes, flows, lost_event}
use Rattle.hb_session.specs.Marks.{event_found}

-- the events that were read and pass, the newest first
abbrev pub read_newest : GetFlowsRequest → List LookMade → List Event
read_newest request looks =
    filter (passes request) (filter_map (λ look. event_found look.found) looks)

-- the lost event of all positions from the window's start up to one that was found gone
abbrev pub gone_from : ℕ → ℕ → ℕ → Found → List Event
gone_from low position moment (Got bytes) = []
gone_from low position moment (Gone next) = lost_event (position - low + 1) moment ∷ []
gone_from low position moment NotYet = []

-- that of the last look, where it found its position gone
abbrev pub gone_after : ℕ → Option LookMade → List Event
gone_after low None = []
gone_after low (Some look) = gone_from low look.position look.moment look.found

abbrev pub gone_last : ℕ → List LookMade → List Event
gone_last low looks = gone_after low (last_or None looks)

-- each position of the window was read, as many flows that pass were read as were asked for, or
-- the rest is gone
abbrev pub backward_has_ended : Opening → List LookMade → Bool
backward_has_ended o looks = nat_le o.size (length looks)
    || (are_enough o.request (flows (read_newest o.request looks))
    || nat_lt 0 (length (gone_last o.low looks)))

-- what is given, in ring order, and nothing before the end is reached: what is gone, and the
-- events that pass
abbrev pub backward : Opening → List LookMade → List Event
backward o looks = if backward_has_ended o looks
    then gone_last o.low looks ++ reverse (read_newest o.request looks) else []
