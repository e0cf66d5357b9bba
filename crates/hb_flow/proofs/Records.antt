-- A message is made by its fields.
use Rattle.std.proofs.Common.{◌≡◌, ℕ, List, Option, ap, ◌∙◌}
use Rattle.std.specs.Prelude.{ℤ}
use Rattle.hb_time.specs.declared.stamp.Stamp.{Stamp}
use Rattle.hb_flow.specs.declared.flow.Flow.{Flow}
use Rattle.hb_flow.specs.declared.lost_event.Int32Value.{Int32Value}
use Rattle.hb_flow.specs.declared.lost_event.LostEvent.{LostEvent}
use Rattle.hb_flow.specs.declared.response_types.ResponseTypes.{ResponseTypes}
use Rattle.hb_flow.specs.declared.response.GetFlowsResponse.{GetFlowsResponse}

abbrev pub stamp_of : ℤ → ℤ → Stamp
stamp_of secs nanos = record { secs = secs; nanos = nanos }

abbrev pub flow_of : Option Stamp → ℤ → List ℕ → List ℕ → Flow
flow_of time verdict uuid kept = record { time = time; verdict = verdict; uuid = uuid; unknown = kept }

abbrev pub int32_value_of : ℤ → Int32Value
int32_value_of value = record { value = value }

abbrev pub lost_event_of : ℤ → ℕ → Option Int32Value → List ℕ → LostEvent
lost_event_of source lost cpu kept = record { source = source; num_events_lost = lost; cpu = cpu; unknown = kept }

abbrev pub response_of : Option ResponseTypes → List ℕ → Option Stamp → List ℕ → GetFlowsResponse
response_of held name time kept = record { response_types = held; node_name = name; time = time; unknown = kept }

pub same_stamp : (secs nanos : ℤ) (s : Stamp) → secs ≡ s.secs → nanos ≡ s.nanos → stamp_of secs nanos ≡ s
same_stamp secs nanos s e f = ap (λ (x : ℤ). stamp_of x nanos) e ∙ ap (λ (x : ℤ). stamp_of s.secs x) f

pub same_flow : (time : Option Stamp) (verdict : ℤ) (uuid kept : List ℕ) (f : Flow) → time ≡ f.time → verdict ≡ f.verdict → uuid ≡ f.uuid → kept ≡ f.unknown
    → flow_of time verdict uuid kept ≡ f
same_flow time verdict uuid kept f a b c d =
    ap (λ (x : Option Stamp). flow_of x verdict uuid kept) a ∙ ap (λ (x : ℤ). flow_of f.time x uuid kept) b ∙ ap (λ (x : List ℕ). flow_of f.time f.verdict x kept) c
    ∙ ap (λ (x : List ℕ). flow_of f.time f.verdict f.uuid x) d

pub same_lost_event : (source : ℤ) (lost : ℕ) (cpu : Option Int32Value) (kept : List ℕ) (e : LostEvent) → source ≡ e.source → lost ≡ e.num_events_lost → cpu ≡ e.cpu → kept ≡ e.unknown
    → lost_event_of source lost cpu kept ≡ e
same_lost_event source lost cpu kept e p q r s =
    ap (λ (x : ℤ). lost_event_of x lost cpu kept) p ∙ ap (λ (x : ℕ). lost_event_of e.source x cpu kept) q ∙ ap (λ (x : Option Int32Value). lost_event_of e.source e.num_events_lost x kept) r
    ∙ ap (λ (x : List ℕ). lost_event_of e.source e.num_events_lost e.cpu x) s

pub same_response : (held : Option ResponseTypes) (name : List ℕ) (time : Option Stamp) (kept : List ℕ) (r : GetFlowsResponse) → held ≡ r.response_types → name ≡ r.node_name → time ≡ r.time
    → kept ≡ r.unknown → response_of held name time kept ≡ r
same_response held name time kept r a b c d =
    ap (λ (x : Option ResponseTypes). response_of x name time kept) a ∙ ap (λ (x : List ℕ). response_of r.response_types x time kept) b
    ∙ ap (λ (x : Option Stamp). response_of r.response_types r.node_name x kept) c ∙ ap (λ (x : List ℕ). response_of r.response_types r.node_name r.time x) d
