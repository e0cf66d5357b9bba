-- The events of a recording fit their messages.
use Rattle.std.proofs.Common.{List, [], ◌∷◌, ℕ, map, Option, Some, None, sym, subst}
use Rattle.std.specs.Prelude.{IfSome}
use Rattle.std.specs.List.{AllByRecursion, cons_option}
use Rattle.hb_wire.specs.Varint.{AreBytes}
use Rattle.hb_flow.specs.declared.event.Event.{Event}
use Rattle.hb_flow.specs.declared.response.GetFlowsResponse.{GetFlowsResponse}
use Rattle.hb_flow.specs.Messages.{read_response, event_in, EventFits}
use Rattle.hb_flow.proofs.Events.{event_in_fits}
use Rattle.hb_flow.proofs.Fitting.{response_fits}
use Rattle.hb_frame.specs.Frames.{messages}
use Rattle.hb_recording.specs.Recording.{IsSound, IsRecordingOf, events}
use Rattle.hb_recording.proofs.Canonical.{messages_bytes}

with_event : (held : Option Event) (es : List Event) → IfSome held EventFits → AllByRecursion EventFits es → AllByRecursion EventFits (cons_option held es)
with_event None es fits all = all
with_event (Some e) es fits all = (fits, all)

read_fit : (ms : List (List ℕ)) → AllByRecursion AreBytes ms → AllByRecursion IsSound ms → AllByRecursion EventFits (events (map read_response ms))
read_fit [] are sound = tt
read_fit (m ∷ ms) are sound =
    with_event (event_in (read_response m)) (events (map read_response ms)) (event_in_fits (read_response m) (response_fits m are.0 sound.0.no_fault))
    (read_fit ms are.1 sound.1)

pub events_fit : (file : List ℕ) (rs : List GetFlowsResponse) → IsRecordingOf file rs → AllByRecursion EventFits (events rs)
events_fit file rs is =
    subst (λ (xs : List GetFlowsResponse). AllByRecursion EventFits (events xs)) (sym is.recorded.read)
    (read_fit (messages is.recorded.frames) (messages_bytes is.recorded.frames [] (subst AreBytes is.recorded.cut.starts.whole is.bytes)) is.recorded.sound)
