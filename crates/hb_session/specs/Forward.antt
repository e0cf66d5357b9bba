-- A span of positions that is read forwards, from its start.
use Rattle.std.specs.Prelude.{ℕ, Bool, true, false, not, ◌&&◌, ◌||◌, nat_le, List, [], ◌∷◌, Option, Some, None, if◌then◌else◌}
use Rattle.std.specs.List.{flat_map, count_by, list_any}
use Rattle.hb_look.specs.Looks.{LookMade}
use Rattle.hb_flow.specs.declared.event.Event.{Event}
use Rattle.hb_api.specs.declared.request.GetFlowsRequest.{GetFlowsRequest}
use Rattle.hb_session.specs.declared.counts.Counts.{Counts}
use Rattle.hb_session.specs.declared.span.Span.{Span}
use Rattle.hb_session.specs.Openings.{Opening, top, are_enough}
use Rattle.hb_session.specs.Events.{passes, is_too_late, flows, lost_event}
use Rattle.hb_session.specs.Marks.{Mark, Read, Over, event_found, marks, is_through, Part, Record, Stretch, parts_of, closed}

-- the event of a record that was read, where it passes; and the lost event of a stretch
abbrev pub given_of : GetFlowsRequest → Part → List Event
given_of request (Record None) = []
given_of request (Record (Some event)) = if passes request event then event ∷ [] else []
given_of request (Stretch count moment) = lost_event count moment ∷ []

-- the parts that are settled: all of them at the span's end, and before it all but a stretch that
-- may go on
abbrev pub settled : Span → List LookMade → List Part
settled span looks = if is_through span looks
    then parts_of (marks span looks) else closed (parts_of (marks span looks))

-- what is given, in order: each event that passes, and one lost event for each stretch
abbrev pub forward : Opening → Span → List LookMade → List Event
forward o span looks = flat_map (given_of o.request) (settled span looks)

-- as many flows were given as were asked for, where these are the first
abbrev pub are_given : GetFlowsRequest → ℕ → Bool
are_given request flows = request.first && are_enough request flows

-- whether a record holds a flow behind the window that is stamped after `until`
abbrev pub is_late : Opening → ℕ → Option Event → Bool
is_late o position None = false
is_late o position (Some event) = nat_le (top o) position && is_too_late o.request event

-- A reading without an end came to such a flow.
abbrev pub is_past : Opening → Option ℕ → List LookMade → Bool
is_past o (Some end) looks = false
is_past o None looks = list_any (λ look. is_late o look.position (event_found look.found)) looks

-- the span is read, or as many flows were given as were asked for, or what follows is too late
abbrev pub forward_has_ended : Opening → Span → List LookMade → Bool
forward_has_ended o span looks = is_through span looks
    || (are_given o.request (flows (forward o span looks)) || is_past o span.end looks)

-- whether a record was read there that passes
abbrev pub is_given : GetFlowsRequest → Mark → Bool
is_given request (Read None) = false
is_given request (Read (Some event)) = passes request event
is_given request (Over moment) = false

-- whether a record was read there that does not
abbrev pub is_skipped : GetFlowsRequest → Mark → Bool
is_skipped request (Read None) = true
is_skipped request (Read (Some event)) = not (passes request event)
is_skipped request (Over moment) = false

abbrev pub is_lost : Mark → Bool
is_lost (Read event) = false
is_lost (Over moment) = true

-- how many positions are of each kind
abbrev pub sums : GetFlowsRequest → List Mark → Counts
sums request marks = record {
  given = count_by (is_given request) marks;
  skipped = count_by (is_skipped request) marks;
  lost = count_by is_lost marks;
}
