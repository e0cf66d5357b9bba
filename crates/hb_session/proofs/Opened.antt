-- A source as it is opened stands for no looks.
use Rattle.std.proofs.Common.{◌≡◌, ℕ, zero, suc, ◌≤◌, Bool, true, false, cond, ◌||◌, ◌&&◌, List, [], ◌∷◌, ◌++◌, Option, Some, None, refl, sym, ap, ◌∙◌, subst, arith, length}
use Rattle.std.specs.Prelude.{◌==◌, nat_le}
use Rattle.std.specs.Option.{is_none, ForSome}
use Rattle.std.proofs.Math.Bool.{or-false}
use Rattle.std.proofs.lemmas.Bool.{ne_eqb, lt-leb}
use Rattle.hb_flow.specs.declared.event.Event.{Event}
use Rattle.hb_session.specs.declared.span.Span.{Span}
use Rattle.hb_session.specs.declared.way.Way.{Way}
use Rattle.hb_session.specs.declared.way.Way.TheVariants as ways
use Rattle.hb_session.specs.Openings.{Opening, Reading, Backwards, Forwards, top, is_backward, forward_start, forward_end, readings_behind, readings}
use Rattle.hb_session.specs.Events.{flows}
use Rattle.hb_session.specs.Marks.{Mark, marks, is_through, parts_of, closed}
use Rattle.hb_session.specs.Forward.{forward_has_ended, is_past, sums}
use Rattle.hb_session.specs.Backward.{backward_has_ended}
use Rattle.hb_session.specs.Replies.{going_by, has_ended, event_frames, owed, spelled}
use Rattle.hb_session.specs.Steps.{forward_unread, is_at_end, backward_unread}
use Rattle.hb_session.specs.Ways.{way_unread, counts_by, is_read, is_followed, closed_by, way_opened}
use Rattle.hb_session.specs.Stands.{Source, IsForwardAt, IsOn, counted_by, SourceStandsFor}
use Rattle.hb_session.proofs.Replies.{nothing_marked, nothing_forward, nothing_by, status_if, spelled_if}
use Rattle.hb_session.proofs.ForwardSteps.{end_by}
use Rattle.hb_session.proofs.Steps.{IsAfter, not_enough, none_given, closed_forward, closed_backward}

-- ---- backwards

empty_is : (size : ℕ) → nat_le size 0 ≡ (0 == size)
empty_is zero = refl
empty_is (suc n) = lt-leb (suc n) 0 (omega arith) ∙ sym (ne_eqb 0 (suc n) (λ e. omega (arith, e)))

-- before the first look an empty window is read, and no other
none_back : (o : Opening) → backward_has_ended o [] ≡ (0 == o.size)
none_back o =
    ap (λ (b : Bool). nat_le o.size 0 || (b || false)) (not_enough o.request.number)
    ∙ or-false (nat_le o.size 0) ∙ empty_is o.size

-- ---- forwards

none_past : (o : Opening) (end : Option ℕ) → is_past o end [] ≡ false
none_past o None = refl
none_past o (Some e) = refl

-- the span starts before its end
pub starts_by : (o : Opening) (b c : Bool) → ForSome (cond b None (Some (top o))) (λ e. cond (b && c) (top o) o.low ≤ e)
starts_by o true c e is = absurd cc
starts_by o false c e is = let same : top o ≡ e = cc in omega (arith, same)

abbrev whole : Opening → Span
whole o = record { start = forward_start o; end = forward_end o }

none_forward : (o : Opening) → forward_has_ended o (whole o) [] ≡ is_at_end (forward_unread (whole o))
none_forward o =
    ap (λ (b : Bool). is_through (whole o) [] || (b || is_past o (forward_end o) [])) (none_given o (whole o))
    ∙ ap (λ (b : Bool). is_through (whole o) [] || b) (none_past o (forward_end o)) ∙ or-false (is_through (whole o) [])
    ∙ sym (end_by (forward_start o) (forward_end o) (length (marks (whole o) [])) (forward_start o)
    (omega (arith, ap length (nothing_marked (whole o)))) (starts_by o o.request.follow (is_none o.request.since)))

unread_at : (o : Opening) (span : Span) → IsForwardAt o span (forward_unread span) []
unread_at o span = record {
  place = omega (arith, ap length (nothing_marked span));
  end = refl;
  reach = refl;
  flows = ap flows (sym (nothing_forward o span));
  loss = ap (λ (ms : List Mark). parts_of ms) (nothing_marked span) ∙ ap (λ (ms : List Mark). closed (parts_of ms) ++ []) (sym (nothing_marked span));
}

-- ---- the first way

module _ (o : Opening) where
  abbrev first : Bool → Way
  first b = cond b (ways.Backward backward_unread) (ways.Forward (forward_unread (whole o)))

  are_read : (b : Bool) → is_backward o.request ≡ b → readings o ≡ cond b (Backwards ∷ readings_behind o) (Forwards (whole o) ∷ [])
  are_read b is = ap (λ (x : Bool). cond x (Backwards ∷ readings_behind o) (Forwards (whole o) ∷ [])) is

  opened_by : (b : Bool) → is_backward o.request ≡ b → IsAfter o [] (closed_by o (is_followed o (first b)) (first b) [] (is_read o (first b)))
  opened_by true is =
      closed_backward o [] backward_unread [] (0 == o.size)
      (ap (λ (rs : List Reading). going_by o rs []) (are_read true is)
      ∙ ap (λ (x : Bool). cond x (going_by o (readings_behind o) []) (Some (record { reading = Backwards; looks = [] }))) (none_back o))
      (ap (λ (rs : List Reading). counted_by o rs []) (are_read true is))
      (λ _. record { passed = refl; flows = refl; held = refl })
  opened_by false is =
      closed_forward o [] (whole o) [] (forward_unread (whole o)) [] (is_at_end (forward_unread (whole o)))
      (ap (λ (rs : List Reading). going_by o rs []) (are_read false is)
      ∙ ap (λ (x : Bool). cond x None (Some (record { reading = Forwards (whole o); looks = [] }))) (none_forward o))
      (sym (ap (λ (rs : List Reading). counted_by o rs []) (are_read false is) ∙ ap (sums o.request) (nothing_marked (whole o))))
      (λ _. unread_at o (whole o))

  pub opened_after : IsAfter o [] (way_opened o)
  opened_after = opened_by (is_backward o.request) refl

  -- the status alone is owed, and that where the reply has ended
  pub owed_opened : (way_opened o).put ≡ spelled (owed o [])
  owed_opened =
      spelled_if (way_opened o).ended
      ∙ ap (λ (b : Bool). spelled (status_if b)) opened_after.ended
      ∙ ap (λ (es : List Event). spelled (event_frames o.name es ++ status_if (has_ended o []))) (sym (nothing_by o (readings o)))

-- a way that was closed as it is opened
pub is_opened : (o : Opening) (way : Way) (last : Bool) → way ≡ way_unread o → last ≡ is_read o way → closed_by o (is_followed o way) way [] last ≡ way_opened o
is_opened o way last is read =
    ap (λ (b : Bool). closed_by o (is_followed o way) way [] b) read ∙ ap (λ (w : Way). closed_by o (is_followed o w) w [] (is_read o w)) is

-- a source as it is opened
pub opened_stands : (s : Source) → s.way ≡ (way_opened s.opening).state → s.ended ≡ (way_opened s.opening).ended → SourceStandsFor s []
opened_stands s way ended =
    let o = s.opening in
    let after = opened_after o in record {
      made = tt;
      ended = ended ∙ after.ended;
      counts = ap counts_by way ∙ after.counts;
      on = λ not. subst (λ w. IsOn o w []) (sym way) (after.on (sym ended ∙ not));
    }
