-- A writer that is given the events of a recording, response by response.
use Rattle.std.proofs.Common.{◌≡◌, ◌∙◌, ℕ, ◌≤◌, List, [], ◌∷◌, ◌++◌, length, map, Option, Some, None, sym, ap, subst, arith}
use Rattle.std.specs.List.{cons_option}
use Rattle.std.proofs.lemmas.List.{map-append}
use Rattle.std.proofs.lemmas.List.Elements.{filter_map-append}
use Rattle.hb_flow.specs.Messages.{event_in, record_bytes}
use Rattle.hb_flow.specs.declared.event.Event.{Event}
use Rattle.hb_flow.specs.declared.response.GetFlowsResponse.{GetFlowsResponse}
use Rattle.hb_look.specs.Progress.{HasPut}
use Rattle.hb_look.proofs.Progress.{put_both}
use Rattle.hb_observer.specs.Kept.{kept, log_of}
use Rattle.hb_recording.specs.Recording.{events}
use Rattle.hb_recording.specs.Reading.{Reading, HasGiven}

-- the log of more responses
log_more : (slot : ℕ) (rs ss : List GetFlowsResponse) → log_of slot (events (rs ++ ss)) ≡ log_of slot (events rs) ++ log_of slot (events ss)
log_more slot rs ss =
    let put : Event → List ℕ = λ e. record_bytes (kept slot e) in
    ap (map put) (filter_map-append event_in rs ss) ∙ map-append put (events rs) (events ss)

-- a response has one event at most
event_few : (slot : ℕ) (held : Option Event) → length (log_of slot (cons_option held [])) ≤ 1
event_few slot None = omega arith
event_few slot (Some e) = omega arith

pub response_few : (slot : ℕ) (r : GetFlowsResponse) → length (log_of slot (events (r ∷ []))) ≤ 1
response_few slot r = event_few slot (event_in r)

-- what a reader gave, and what is kept of it was put
pub record HasFilled (reading : Reading) (slot : ℕ) (put : List (List ℕ) → Type 0) : Type 0 where
  pub responses : List GetFlowsResponse
  pub given : HasGiven reading responses
  pub log : put (log_of slot (events responses))

-- one response more
pub filled_more : {A Fixed : Type 0} (stands_for : A → List (List ℕ) → Type 0) (written longest : A → ℕ) (fixed : A → Fixed) (a b c : A) (old new : Reading) (slot : ℕ) (r : GetFlowsResponse)
    → (has : HasFilled old slot (HasPut stands_for written longest fixed a b)) → HasGiven new (has.responses ++ r ∷ [])
    → HasPut stands_for written longest fixed b c (log_of slot (events (r ∷ []))) → HasFilled new slot (HasPut stands_for written longest fixed a c)
filled_more stands_for written longest fixed a b c old new slot r has given put = record {
  responses = has.responses ++ r ∷ [];
  given = given;
  log = subst (HasPut stands_for written longest fixed a c) (sym (log_more slot has.responses (r ∷ [])))
      (put_both stands_for written longest fixed a b c (log_of slot (events has.responses)) (log_of slot (events (r ∷ []))) has.log put);
}
