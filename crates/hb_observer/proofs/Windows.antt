-- The events of the window of a ring that has what is kept of events.
use Rattle.std.proofs.Common.{◌≡◌, ◌∙◌, ℕ, ◌≤◌, List, length, map, drop, Some, sym, ap, arith}
use Rattle.std.specs.List.{AllByRecursion}
use Rattle.std.proofs.lemmas.List.{length-map, drop-map}
use Rattle.hb_api.specs.declared.request.GetFlowsRequest.{GetFlowsRequest}
use Rattle.hb_flow.specs.Messages.{record_bytes, EventFits}
use Rattle.hb_flow.specs.declared.event.Event.{Event}
use Rattle.hb_session.specs.Events.{event_of_record}
use Rattle.hb_session.specs.Openings.{opened}
use Rattle.hb_session.specs.Whole.{HasEvents}
use Rattle.hb_session.specs.Window.{window, window_start}
use Rattle.hb_observer.specs.Kept.{kept, log_of}
use Rattle.hb_observer.proofs.KeptLemmas.{log_again}

pub has_window : (slot cap : ℕ) (es : List Event) (request : GetFlowsRequest) (name : List ℕ) → slot ≤ 65024 → AllByRecursion EventFits es
    → HasEvents (opened request name (length (log_of slot es)) cap) (log_of slot es) (window cap (map (kept slot) es))
has_window slot cap es request name most fits =
    let log = log_of slot es in
    let are = map (kept slot) es in
    let low = window_start (length log) cap in
    let same : length log ≡ length are = length-map es (λ e. record_bytes (kept slot e)) ∙ sym (length-map es (kept slot)) in record {
      ends = omega arith;
      held = sym (drop-map event_of_record low log) ∙ ap (drop low) (log_again slot es most fits) ∙ drop-map Some low are
          ∙ ap (λ (n : ℕ). map Some (drop (window_start n cap) are)) same;
    }
