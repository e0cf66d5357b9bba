-- A window that is read backwards, with one more look.
use Rattle.std.proofs.Common.{◌≡◌, ℕ, ◌+◌, ◌-◌, ◌<◌, ◌≤◌, Bool, true, false, cond, ◌||◌, List, [], ◌∷◌, ◌++◌, Option, Some, None, refl, sym, ap, ◌∙◌, arith, length, inl, inr}
use Rattle.std.specs.Prelude.{nat_lt, nat_le, ◌==◌, reverse}
use Rattle.std.specs.List.{filter, filter_map, last_or, cons_option}
use Rattle.std.proofs.Math.Bool.{or-false}
use Rattle.std.proofs.lemmas.Bool.{eq-eqb, ne_eqb, le-leb, lt-leb, leb-false, cases_lt}
use Rattle.std.proofs.lemmas.List.{append-nil, length-append, reverse-append}
use Rattle.std.proofs.lemmas.List.Elements.{filter-append, filter_map-append}
use Rattle.hb_look.specs.Looks.{Found, Got, Gone, LookMade}
use Rattle.hb_flow.specs.declared.event.Event.{Event}
use Rattle.hb_api.specs.declared.request.GetFlowsRequest.{GetFlowsRequest}
use Rattle.hb_session.specs.Openings.{Opening, Backwards, are_enough}
use Rattle.hb_session.specs.Events.{event_of_record, passes, is_flow, lost_event, flows}
use Rattle.hb_session.specs.Marks.{Record, event_found}
use Rattle.hb_session.specs.Forward.{given_of}
use Rattle.hb_session.specs.Backward.{read_newest, gone_from, gone_after, gone_last, backward, backward_has_ended}
use Rattle.hb_session.specs.Steps.{Step, Backward, bytes_of, backward_is_over, backward_place, kept, released, held_on, backward_read, backward_gone}
use Rattle.hb_session.specs.Stands.{IsBackwardAt}
use Rattle.hb_session.proofs.Replies.{plus, bytes_more, flows_more, events_of, GivesMore}
use Rattle.hb_session.proofs.Bools.{first_false, or_true, when_false, when_true}

-- what is known of a window that goes on backwards
pub record GoesBackward (o : Opening) (b : Backward) (looks : List LookMade) : Type 0 where
  pub none : backward o looks ≡ []
  pub fewer : length looks < o.size
  pub at : IsBackwardAt o b looks

pub goes_backward : (o : Opening) (b : Backward) (looks : List LookMade) → backward_has_ended o looks ≡ false → IsBackwardAt o b looks → GoesBackward o b looks
goes_backward o b looks going at = record {
  none = when_false (backward_has_ended o looks) _ [] going;
  fewer = leb-false o.size (length looks) (first_false (nat_le o.size (length looks)) _ going);
  at = at;
}

-- a step backwards is that of more looks
pub record IsBackwardStep (o : Opening) (looks new : List LookMade) (step : Step Backward) : Type 0 where
  pub gives : GivesMore o Backwards looks new step.put step.ended
  pub at : step.ended ≡ false → IsBackwardAt o step.state new

last_more : (d : Option LookMade) (looks : List LookMade) (look : LookMade) → last_or d (plus looks look) ≡ Some look
last_more d [] look = refl
last_more d (first ∷ looks) look = last_more (Some first) looks look

-- a number that is at most another is at least it where they are equal
least_is : (n m : ℕ) → n ≤ m → nat_le m n ≡ (n == m)
least_is n m most =
    elim (cases_lt n m) [
      | inl less ↦ lt-leb m n less ∙ sym (ne_eqb n m (λ e. omega (arith, e, less)))
      | inr more ↦ le-leb m n more ∙ sym (eq-eqb n m (omega (arith, most, more)))
    ]

one_passes : (r : GetFlowsRequest) (event : Option Event) → filter (passes r) (cons_option event []) ≡ given_of r (Record event)
one_passes r None = refl
one_passes r (Some event) = refl

turned_if : (b : Bool) (event : Event) → reverse (cond b (event ∷ []) []) ≡ cond b (event ∷ []) []
turned_if true event = refl
turned_if false event = refl

one_turned : (r : GetFlowsRequest) (event : Option Event) → reverse (given_of r (Record event)) ≡ given_of r (Record event)
one_turned r None = refl
one_turned r (Some event) = turned_if (passes r event) event

-- the events that pass, with what one more look found
newest_more : (r : GetFlowsRequest) (looks : List LookMade) (look : LookMade)
    → read_newest r (plus looks look) ≡ read_newest r looks ++ filter (passes r) (cons_option (event_found look.found) [])
newest_more r looks look =
    ap (filter (passes r)) (filter_map-append (λ look. event_found look.found) looks (look ∷ []))
    ∙ filter-append (passes r) (filter_map (λ look. event_found look.found) looks) (cons_option (event_found look.found) [])

-- a record
newest_got : (r : GetFlowsRequest) (looks : List LookMade) (look : LookMade) (bytes : List ℕ) → look.found ≡ Got bytes
    → read_newest r (plus looks look) ≡ read_newest r looks ++ given_of r (Record (event_of_record bytes))
newest_got r looks look bytes found =
    newest_more r looks look
    ∙ ap (λ (f : Found). read_newest r looks ++ filter (passes r) (cons_option (event_found f) [])) found
    ∙ ap (λ (es : List Event). read_newest r looks ++ es) (one_passes r (event_of_record bytes))

-- or that it is gone
newest_gone : (r : GetFlowsRequest) (looks : List LookMade) (look : LookMade) (next : ℕ) → look.found ≡ Gone next
    → read_newest r (plus looks look) ≡ read_newest r looks
newest_gone r looks look next found =
    newest_more r looks look
    ∙ ap (λ (f : Found). read_newest r looks ++ filter (passes r) (cons_option (event_found f) [])) found
    ∙ append-nil (read_newest r looks)

-- what a record that was read leaves
pub record KeepLeaves (o : Opening) (b new : Backward) (events : List Event) : Type 0 where
  pub passed : new.passed ≡ b.passed + 1
  pub flows : new.flows ≡ b.flows + flows events
  pub held : new.held ≡ bytes_of o events ++ b.held

keeps_none : (o : Opening) (b : Backward) → KeepLeaves o b (kept o b None) []
keeps_none o b = record { passed = refl; flows = omega arith; held = refl }

keeps_by : (o : Opening) (b : Backward) (event : Event) (choice : Bool)
    → KeepLeaves o b (cond choice (record { passed = b.passed + 1; flows = b.flows + cond (is_flow event) 1 0; held = bytes_of o (event ∷ []) ++ b.held }) (record b { passed = b.passed + 1 }))
    (cond choice (event ∷ []) [])
keeps_by o b event true = record { passed = refl; flows = omega arith; held = refl }
keeps_by o b event false = keeps_none o b

pub keeps : (o : Opening) (b : Backward) (event : Option Event) → KeepLeaves o b (kept o b event) (events_of o event)
keeps o b None = keeps_none o b
keeps o b (Some event) = keeps_by o b event (passes o.request event)

-- ---- the end of the reply, where it has come

-- what is to be known before what is held is put where the reading has ended
record Holds (o : Opening) (b : Backward) (looks new : List LookMade) : Type 0 where
  none : backward o looks ≡ []
  held : b.held ≡ bytes_of o (gone_last o.low new ++ reverse (read_newest o.request new))
  at : backward_has_ended o new ≡ false → IsBackwardAt o b new

module _ (o : Opening) (b : Backward) (looks new : List LookMade) (is : Holds o b looks new) where
  released_step : backward_has_ended o new ≡ true → IsBackwardStep o looks new (released b)
  released_step e =
      let all : List Event = gone_last o.low new ++ reverse (read_newest o.request new) in record {
        gives = record {
          events = all;
          more = when_true (backward_has_ended o new) all [] e ∙ ap (λ (es : List Event). es ++ all) (sym is.none);
          bytes = is.held;
          at_end = sym e;
        };
        at = λ not. absurd cc;
      }

  held_step : backward_has_ended o new ≡ false → IsBackwardStep o looks new (held_on b)
  held_step e = record {
    gives = record {
      events = [];
      more = when_false (backward_has_ended o new) _ [] e ∙ ap (λ (es : List Event). es ++ []) (sym is.none);
      bytes = refl;
      at_end = sym e;
    };
    at = λ _. is.at e;
  }

  step_by : (choice : Bool) → backward_has_ended o new ≡ choice → IsBackwardStep o looks new (cond choice (released b) (held_on b))
  step_by true e = released_step e
  step_by false e = held_step e

-- ---- one more look

module _ (o : Opening) (b : Backward) (looks : List LookMade) (look : LookMade) (is : GoesBackward o b looks) where
  abbrev r : GetFlowsRequest
  r = o.request

  abbrev looks' : List LookMade
  looks' = plus looks look

  -- a record is read
  read_more : (new : Backward) (bytes : List ℕ) → look.found ≡ Got bytes → KeepLeaves o b new (events_of o (event_of_record bytes))
      → (backward_has_ended o looks' ≡ backward_is_over o new) × Holds o new looks looks'
  read_more new bytes found leaves =
      let G = events_of o (event_of_record bytes) in
      let longer : length looks' ≡ length looks + 1 = length-append looks (look ∷ []) in
      let passed : new.passed ≡ length looks' = omega (arith, leaves.passed, is.at.passed, longer) in
      let more = newest_got r looks look bytes found in
      let flows_are : new.flows ≡ flows (read_newest r looks') = omega (arith, leaves.flows, is.at.flows, ap flows more, flows_more (read_newest r looks) G) in
      let last : gone_last o.low looks' ≡ [] =
      ap (gone_after o.low) (last_more None looks look) ∙ ap (gone_from o.low look.position look.moment) found in
      let within : length looks' ≤ o.size = omega (arith, longer, is.fewer) in
      let turned : reverse (read_newest r looks') ≡ G ++ reverse (read_newest r looks) =
      ap reverse more ∙ reverse-append (read_newest r looks) G ∙ ap (λ (es : List Event). es ++ reverse (read_newest r looks)) (one_turned r (event_of_record bytes)) in
      let held : new.held ≡ bytes_of o (reverse (read_newest r looks')) =
      leaves.held ∙ ap (λ (bytes : List ℕ). bytes_of o G ++ bytes) is.at.held
      ∙ sym (bytes_more o G (reverse (read_newest r looks))) ∙ ap (bytes_of o) (sym turned) in
      let enough : Bool = are_enough r (flows (read_newest r looks')) in (
        ap (λ (es : List Event). nat_le o.size (length looks') || (enough || nat_lt 0 (length es))) last
            ∙ ap (λ (e : Bool). nat_le o.size (length looks') || e) (or-false enough)
            ∙ ap (λ (n : ℕ). nat_le o.size (length looks') || are_enough r n) (sym flows_are)
            ∙ ap (λ (e : Bool). e || are_enough r new.flows) (least_is (length looks') o.size within)
            ∙ ap (λ (n : ℕ). (n == o.size) || are_enough r new.flows) (sym passed),
        record {
          none = is.none;
          held = held ∙ ap (λ (es : List Event). bytes_of o (es ++ reverse (read_newest r looks'))) (sym last);
          at = λ _. record { passed = passed; flows = flows_are; held = held };
        },
      )

  pub read_step : (bytes : List ℕ) → look.found ≡ Got bytes → IsBackwardStep o looks looks' (backward_read o b (event_of_record bytes))
  read_step bytes found =
      let new : Backward = kept o b (event_of_record bytes) in
      let both = read_more new bytes found (keeps o b (event_of_record bytes)) in
      step_by o new looks looks' both.1 (backward_is_over o new) both.0

  -- the rest is gone
  pub gone_step : (next : ℕ) → look.position ≡ backward_place o b → look.found ≡ Gone next → IsBackwardStep o looks looks' (backward_gone o b look.moment)
  gone_step next at found =
      let lost : Event = lost_event (o.size - b.passed) look.moment in
      let count : look.position - o.low + 1 ≡ o.size - b.passed = omega (arith, at, is.at.passed, is.fewer) in
      let last : gone_last o.low looks' ≡ lost ∷ [] =
      ap (gone_after o.low) (last_more None looks look) ∙ ap (gone_from o.low look.position look.moment) found
      ∙ ap (λ (n : ℕ). lost_event n look.moment ∷ []) count in
      let enough : Bool = are_enough r (flows (read_newest r looks')) in
      let ended : backward_has_ended o looks' ≡ true =
      ap (λ (es : List Event). nat_le o.size (length looks') || (enough || nat_lt 0 (length es))) last
      ∙ ap (λ (e : Bool). nat_le o.size (length looks') || e) (or_true enough)
      ∙ or_true (nat_le o.size (length looks')) in
      let held : bytes_of o (lost ∷ []) ++ b.held ≡ bytes_of o (gone_last o.low looks' ++ reverse (read_newest r looks')) =
      ap (λ (bytes : List ℕ). bytes_of o (lost ∷ []) ++ bytes) (is.at.held ∙ ap (λ (es : List Event). bytes_of o (reverse es)) (sym (newest_gone r looks look next found)))
      ∙ sym (bytes_more o (lost ∷ []) (reverse (read_newest r looks')))
      ∙ ap (λ (es : List Event). bytes_of o (es ++ reverse (read_newest r looks'))) (sym last) in
      released_step o (record { passed = o.size; flows = b.flows; held = bytes_of o (lost ∷ []) ++ b.held }) looks looks'
      (record { none = is.none; held = held; at = λ h. absurd cc }) ended
