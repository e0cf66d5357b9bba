-- A reply, with one more look.
use Rattle.std.proofs.Common.{◌≡◌, ℕ, ◌-◌, ◌<◌, Bool, true, false, cond, ◌&&◌, ◌||◌, Option, Some, None, List, [], ◌∷◌, ◌++◌, refl, sym, ap, ◌∙◌, subst, arith, append_assoc, zero, suc}
use Rattle.std.specs.Prelude.{nat_lt, nat_le}
use Rattle.std.specs.Option.{is_none}
use Rattle.std.proofs.lemmas.Bool.{lt-leb}
use Rattle.hb_look.specs.Looks.{Got, Gone, NotYet, LookMade}
use Rattle.hb_flow.specs.declared.event.Event.{Event}
use Rattle.hb_frame.specs.Frames.{Frame}
use Rattle.hb_session.specs.declared.span.Span.{Span}
use Rattle.hb_session.specs.declared.way.Way.{Way}
use Rattle.hb_session.specs.declared.way.Way.TheVariants as ways
use Rattle.hb_session.specs.Openings.{Opening, Reading, Backwards, Forwards, top, readings_behind, readings}
use Rattle.hb_session.specs.Events.{event_of_record, flows}
use Rattle.hb_session.specs.Forward.{are_given, forward, forward_has_ended}
use Rattle.hb_session.specs.Replies.{is_over, Going, going_by, going, has_ended, place, reply, owed, spelled, status_frame, AreMadeAfter}
use Rattle.hb_session.specs.Steps.{Step, Forward, Backward, forward_unread, forward_read, forward_gone, backward_read, backward_gone, no_counts}
use Rattle.hb_session.specs.Ways.{next_place, counts_by, closed_by, closed, way_read, way_gone}
use Rattle.hb_session.specs.Stands.{Source, IsForwardAt, IsOnForward, IsBackwardAt, IsOn, counted_by, counted, SourceStandsFor}
use Rattle.hb_session.proofs.Bools.{when_false, when_true, and_false}
use Rattle.hb_session.proofs.Replies.{plus, GoesOn, goes_now, place_now, nothing_forward, owed_more, more_owed, put_more, GivesMore}
use Rattle.hb_session.proofs.ForwardSteps as forwards
use Rattle.hb_session.proofs.BackwardSteps as backwards

-- ---- where the next look is to be made

pub next_is : (o : Opening) (way : Way) (looks : List LookMade) → IsOn o way looks → next_place o way ≡ place o looks
next_is o (ways.Forward f) looks on = sym on.at.reach ∙ sym (place_now o looks (record { reading = Forwards on.span; looks = on.own }) on.going)
next_is o (ways.Backward b) looks on = ap (λ (n : ℕ). top o - 1 - n) on.at.passed ∙ sym (place_now o looks (record { reading = Backwards; looks = looks }) on.going)

-- a look that is made there is where those before it lead
pub next_made : (s : Source) (looks : List LookMade) (look : LookMade) → s.ended ≡ false → SourceStandsFor s looks → look.position ≡ next_place s.opening s.way
    → AreMadeAfter s.opening looks (look ∷ [])
next_made s looks look going stands at = (sym stands.ended ∙ going, at ∙ next_is s.opening s.way looks (stands.on going), tt)

-- ---- behind the window

-- a number above 0 of flows was not read
pub not_enough : (number : ℕ) → (nat_lt 0 number && nat_le number 0) ≡ false
not_enough zero = refl
not_enough (suc n) = ap (λ (b : Bool). nat_lt 0 (suc n) && b) (lt-leb (suc n) 0 (omega arith)) ∙ and_false (nat_lt 0 (suc n))

-- nothing was given
pub none_given : (o : Opening) (span : Span) → are_given o.request (flows (forward o span [])) ≡ false
none_given o span =
    ap (λ (es : List Event). are_given o.request (flows es)) (nothing_forward o span)
    ∙ ap (λ (b : Bool). o.request.first && b) (not_enough o.request.number) ∙ and_false o.request.first

module _ (o : Opening) where
  abbrev behind : Span
  behind = record { start = top o; end = None }

  behind_goes : forward_has_ended o behind [] ≡ false
  behind_goes = ap (λ (b : Bool). b || false) (none_given o behind)

  -- what is read there goes on
  behind_going : (rs : List Reading) → rs ≡ readings_behind o → o.request.follow ≡ true → going_by o rs [] ≡ Some (record { reading = Forwards behind; looks = [] })
  behind_going rs is follow =
      ap (λ (x : List Reading). going_by o x []) (is ∙ when_true o.request.follow _ _ follow) ∙ when_false (forward_has_ended o behind []) None _ behind_goes

  behind_at : IsForwardAt o behind (forward_unread behind) []
  behind_at = record { place = omega arith; end = refl; reach = refl; flows = ap flows (sym (nothing_forward o behind)); loss = refl }

  none_behind : (rs : List Reading) → rs ≡ readings_behind o → o.request.follow ≡ false → rs ≡ []
  none_behind rs is not = is ∙ when_false o.request.follow _ _ not

  counts_behind : (b : Bool) → counted_by o (cond b (Forwards behind ∷ []) []) [] ≡ no_counts
  counts_behind true = refl
  counts_behind false = refl

-- ---- a way as it stands after looks

-- a step leaves what stands for these looks
pub record IsAfter (o : Opening) (looks : List LookMade) (step : Step Way) : Type 0 where
  pub ended : step.ended ≡ has_ended o looks
  pub counts : counts_by step.state ≡ counted o looks
  pub on : step.ended ≡ false → IsOn o step.state looks

pub over_if : (b : Bool) (g : Going) → b ≡ is_none (cond b None (Some g))
over_if true g = refl
over_if false g = refl

pub closed_forward : (o : Opening) (looks : List LookMade) (span : Span) (own : List LookMade) (f : Forward) (put : List ℕ) (last : Bool)
    → going o looks ≡ cond last None (Some (record { reading = Forwards span; looks = own })) → f.counts ≡ counted o looks → (last ≡ false → IsForwardAt o span f own)
    → IsAfter o looks (closed_by o false (ways.Forward f) put last)
closed_forward o looks span own f put last next counts at = record {
  ended = over_if last (record { reading = Forwards span; looks = own }) ∙ ap (λ (g : Option Going). is_none g) (sym next);
  counts = counts;
  on = λ not. record {
    span = span;
    own = own;
    going = next ∙ when_false last None _ not;
    at = at not;
  };
}

-- of a way backwards: what is behind it, and whether it has come to its end
closed_back : (o : Opening) (looks : List LookMade) (b : Backward) (put : List ℕ) (followed last : Bool) → o.request.follow ≡ followed
    → going o looks ≡ cond last (going_by o (readings_behind o) []) (Some (record { reading = Backwards; looks = looks })) → counted o looks ≡ counted_by o (readings_behind o) []
    → (last ≡ false → IsBackwardAt o b looks) → IsAfter o looks (closed_by o followed (ways.Backward b) put last)
closed_back o looks b put true true follow next counts at =
    let on : going o looks ≡ Some (record { reading = Forwards (behind o); looks = [] }) = next ∙ behind_going o (readings_behind o) refl follow in record {
      ended = ap (λ (g : Option Going). is_none g) (sym on);
      counts = sym (counts ∙ counts_behind o o.request.follow);
      on = λ _. record { span = behind o; own = []; going = on; at = behind_at o };
    }
closed_back o looks b put true false follow next counts at = record {
  ended = ap (λ (g : Option Going). is_none g) (sym next);
  counts = sym (counts ∙ counts_behind o o.request.follow);
  on = λ _. record { going = next; at = at refl };
}
closed_back o looks b put false true follow next counts at = record {
  ended = ap (λ (g : Option Going). is_none g) (sym (next ∙ ap (λ (rs : List Reading). going_by o rs []) (none_behind o (readings_behind o) refl follow)));
  counts = sym (counts ∙ counts_behind o o.request.follow);
  on = λ not. absurd cc;
}
closed_back o looks b put false false follow next counts at = record {
  ended = ap (λ (g : Option Going). is_none g) (sym next);
  counts = sym (counts ∙ counts_behind o o.request.follow);
  on = λ _. record { going = next; at = at refl };
}

pub closed_backward : (o : Opening) (looks : List LookMade) (b : Backward) (put : List ℕ) (last : Bool)
    → going o looks ≡ cond last (going_by o (readings_behind o) []) (Some (record { reading = Backwards; looks = looks })) → counted o looks ≡ counted_by o (readings_behind o) []
    → (last ≡ false → IsBackwardAt o b looks) → IsAfter o looks (closed_by o o.request.follow (ways.Backward b) put last)
closed_backward o looks b put last = closed_back o looks b put o.request.follow last refl

-- ---- one more look

-- a step is that of one look more
pub record IsStepOf (o : Opening) (looks new : List LookMade) (step : Step Way) : Type 0 where
  pub after : IsAfter o new step
  pub frames : (frames : List Frame) × (owed o new ≡ owed o looks ++ frames) × (step.put ≡ spelled frames)

-- the frames that become owed
module _ (o : Opening) (looks : List LookMade) (look : LookMade) (reading : Reading) (own : List LookMade) (on : going o looks ≡ Some (record { reading = reading; looks = own })) where
  abbrev new : List LookMade
  new = plus looks look

  here : GoesOn o (readings o) looks reading own
  here = goes_now o looks (record { reading = reading; looks = own }) on

  frames_put : (put : List ℕ) (last ended : Bool) → GivesMore o reading own (plus own look) put last → ended ≡ has_ended o new
      → (frames : List Frame) × (owed o new ≡ owed o looks ++ frames) × (put ++ cond ended (spelled (status_frame ∷ [])) [] ≡ spelled frames)
  frames_put put last ended gives is =
      let more : reply o new ≡ reply o looks ++ gives.events =
      here.more look ∙ ap (λ (es : List Event). here.before ++ es) gives.more ∙ sym (append_assoc here.before _ gives.events)
      ∙ ap (λ (es : List Event). es ++ gives.events) (sym here.reply) in (
        more_owed o new gives.events,
        owed_more o looks new gives.events (ap (λ (g : Option Going). is_none g) on) more,
        put_more o new gives.events put ended gives.bytes is,
      )

forward_is : (o : Opening) (f : Forward) (looks : List LookMade) (look : LookMade) (step : Step Forward) (on : IsOnForward o f looks)
    → forwards.IsForwardStep o on.span on.own (plus on.own look) step → IsStepOf o looks (plus looks look) (closed o ways.Forward step)
forward_is o f looks look step on is =
    let g = here o looks look (Forwards on.span) on.own on.going in
    let next : going o (plus looks look) ≡ cond step.ended None (Some (record { reading = Forwards on.span; looks = plus on.own look })) =
    g.next look ∙ ap (λ (rs : List Reading). cond (forward_has_ended o on.span (plus on.own look)) (going_by o rs []) (Some (record { reading = Forwards on.span; looks = plus on.own look }))) g.planned
    ∙ ap (λ (b : Bool). cond b None (Some (record { reading = Forwards on.span; looks = plus on.own look }))) (sym is.gives.at_end) in
    let after = closed_forward o (plus looks look) on.span (plus on.own look) step.state step.put step.ended next (is.counts ∙ sym (g.counted look)) is.on in record {
      after = after;
      frames = frames_put o looks look (Forwards on.span) on.own on.going step.put step.ended step.ended is.gives after.ended;
    }

backward_is : (o : Opening) (b : Backward) (looks : List LookMade) (look : LookMade) (step : Step Backward) → going o looks ≡ Some (record { reading = Backwards; looks = looks })
    → backwards.IsBackwardStep o looks (plus looks look) step → IsStepOf o looks (plus looks look) (closed o ways.Backward step)
backward_is o b looks look step on is =
    let g = here o looks look Backwards looks on in
    let next : going o (plus looks look) ≡ cond step.ended (going_by o (readings_behind o) []) (Some (record { reading = Backwards; looks = plus looks look })) =
    g.next look ∙ ap (λ (rs : List Reading). cond (is_over o Backwards (plus looks look)) (going_by o rs []) (Some (record { reading = Backwards; looks = plus looks look }))) g.planned.0
    ∙ ap (λ (b : Bool). cond b (going_by o (readings_behind o) []) (Some (record { reading = Backwards; looks = plus looks look }))) (sym is.gives.at_end) in
    let counts : counted o (plus looks look) ≡ counted_by o (readings_behind o) [] = g.counted look ∙ ap (λ (rs : List Reading). counted_by o rs []) g.planned.0 in
    let after = closed_backward o (plus looks look) step.state step.put step.ended next counts is.at in record {
      after = after;
      frames = frames_put o looks look Backwards looks on step.put step.ended _ is.gives after.ended;
    }

-- what is known of a way that goes on forwards, and of one that goes on backwards
goes_forward : (o : Opening) (f : Forward) (looks : List LookMade) (on : IsOnForward o f looks) → f.counts ≡ counted o looks → forwards.GoesForward o on.span f on.own
goes_forward o f looks on counts =
    let g = goes_now o looks (record { reading = Forwards on.span; looks = on.own }) on.going in
    forwards.goes_forward o on.span f on.own g.not (counts ∙ g.counts) on.at

pub read_step : (o : Opening) (way : Way) (looks : List LookMade) (look : LookMade) (bytes : List ℕ)
    → counts_by way ≡ counted o looks → IsOn o way looks → look.position ≡ next_place o way → look.found ≡ Got bytes
    → IsStepOf o looks (plus looks look) (way_read o way (event_of_record bytes))
read_step o (ways.Forward f) looks look bytes counts on at found =
    forward_is o f looks look (forward_read o f (event_of_record bytes)) on (forwards.read_step o on.span f on.own look (goes_forward o f looks on counts) at bytes found)
read_step o (ways.Backward b) looks look bytes counts on at found =
    let g = goes_now o looks (record { reading = Backwards; looks = looks }) on.going in
    backward_is o b looks look (backward_read o b (event_of_record bytes)) on.going
    (backwards.read_step o b looks look (backwards.goes_backward o b looks g.not on.at) bytes found)

pub gone_step : (o : Opening) (way : Way) (looks : List LookMade) (look : LookMade) (next : ℕ)
    → counts_by way ≡ counted o looks → IsOn o way looks → look.position ≡ next_place o way → look.found ≡ Gone next → look.position < next
    → IsStepOf o looks (plus looks look) (way_gone o way next look.moment)
gone_step o (ways.Forward f) looks look next counts on at found moves =
    forward_is o f looks look (forward_gone o f next look.moment) on
    (forwards.gone_step o on.span f on.own look (goes_forward o f looks on counts) at next found (subst (λ (n : ℕ). n < next) at moves))
gone_step o (ways.Backward b) looks look next counts on at found moves =
    let g = goes_now o looks (record { reading = Backwards; looks = looks }) on.going in
    backward_is o b looks look (backward_gone o b look.moment) on.going
    (backwards.gone_step o b looks look (backwards.goes_backward o b looks g.not on.at) next at found)

-- a look that finds nothing yet, where the way goes on forwards
pub none_step : (o : Opening) (f : Forward) (looks : List LookMade) (look : LookMade)
    → f.counts ≡ counted o looks → IsOnForward o f looks → look.position ≡ f.place → look.found ≡ NotYet
    → IsStepOf o looks (plus looks look) (closed o ways.Forward (record { state = f; put = []; ended = false }))
none_step o f looks look counts on at found =
    forward_is o f looks look (record { state = f; put = []; ended = false }) on
    (forwards.none_step o on.span f on.own look (goes_forward o f looks on counts) at found)
