-- A window whose looks each get their record, read forwards: what is given are its first events.
use Rattle.std.proofs.Common.{◌≡◌, ◌⊎◌, inl, inr, ℕ, ◌+◌, ◌<◌, ◌≤◌, Bool, true, false, List, [], ◌∷◌, ◌++◌, length, map, take, Option, Some, refl, sym, ap, subst, ◌∙◌, append_assoc, arith, slice_get, length-append}
use Rattle.std.specs.Prelude.{if◌then◌else◌, ◌==◌}
use Rattle.std.specs.Option.{option_map_or}
use Rattle.std.specs.List.{AllByRecursion, filter, flat_map}
use Rattle.std.proofs.lemmas.Bool.{eqb-true, or_cases}
use Rattle.std.proofs.lemmas.List.{append-nil, map-append, length-map, take_all, take_more, length-take-le}
use Rattle.std.proofs.lemmas.Grind.{flat_map-append}
use Rattle.std.proofs.lemmas.Option.{get_or_from_slice_get, slice_get_within}
use borrow.Author.Count.{below_none, below_more}
use Rattle.hb_look.specs.Looks.{LookMade, after, reach, place_after}
use Rattle.hb_flow.specs.declared.event.Event.{Event}
use Rattle.hb_api.specs.declared.request.GetFlowsRequest.{GetFlowsRequest}
use Rattle.hb_session.specs.Openings.{Opening, Reading, Forwards, is_backward, are_enough}
use Rattle.hb_session.specs.Events.{passes, flows}
use Rattle.hb_session.specs.Marks.{Mark, Read, passed_over, marks_of, upto, marks, is_through, Part, Record, parts_of, closed}
use Rattle.hb_session.specs.Forward.{given_of, settled, forward}
use Rattle.hb_frame.specs.Frames.{Frame}
use Rattle.hb_session.specs.Replies.{has_ended, reply, event_frames, status_frame, spelled, AreMadeAfter}
use Rattle.hb_session.proofs.Bools.{same_if, second_false, when_true}
use Rattle.hb_session.proofs.Replies.{plus, reach_more}
use Rattle.hb_session.proofs.Alone.{window, window_size, forwards_alone, AreOwn, reply_alone, place_alone, own_more, own_made, ended_window}
use Rattle.hb_session.proofs.Windows.{all_marks}
use Rattle.hb_session.specs.Whole.{IsGot, IsReply, passing, frames_of}
use Rattle.hb_session.proofs.WholeEvents.{Holds}

-- as many flows as were asked for are among these events
abbrev pub is_enough : GetFlowsRequest → List Event → Bool
is_enough r es = are_enough r (flows es)

-- ---- what is given of events that were read one after another

abbrev read : Event → Mark
read e = Read (Some e)

abbrev part : Event → Part
part e = Record (Some e)

parts_all : (es : List Event) → parts_of (map read es) ≡ map part es
parts_all [] = refl
parts_all (e ∷ es) = ap (λ (ps : List Part). part e ∷ ps) (parts_all es)

closed_all : (es : List Event) → closed (map part es) ≡ map part es
closed_all [] = refl
closed_all (e ∷ es) = ap (λ (ps : List Part). part e ∷ ps) (closed_all es)

-- one event is given where it passes
given_if : (b : Bool) (e : Event) (more : List Event) → (if b then e ∷ [] else []) ++ more ≡ if b then e ∷ more else more
given_if true e more = refl
given_if false e more = refl

given_all : (s : GetFlowsRequest) (es : List Event) → flat_map (given_of s) (map part es) ≡ filter (passes s) es
given_all s [] = refl
given_all s (e ∷ es) =
    ap (λ (more : List Event). (if passes s e then e ∷ [] else []) ++ more) (given_all s es) ∙ given_if (passes s e) e (filter (passes s) es)

marks_all : (o : Opening) (looks : List LookMade) (es : List Event) → all_marks looks ≡ map read es → length es ≤ o.size → marks (window o) looks ≡ map read es
marks_all o looks es are short =
    ap (λ (size : Option ℕ). upto size (all_marks looks)) (window_size o) ∙ ap (take o.size) are ∙ take_all o.size (map read es) (omega (arith, short, length-map es read))

forward_all : (o : Opening) (looks : List LookMade) (es : List Event) → all_marks looks ≡ map read es → length es ≤ o.size → forward o (window o) looks ≡ filter (passes o.request) es
forward_all o looks es are short =
    let parts : parts_of (marks (window o) looks) ≡ map part es = ap parts_of (marks_all o looks es are short) ∙ parts_all es in
    let is : settled (window o) looks ≡ map part es = same_if (is_through (window o) looks) _ _ (map part es) parts (ap closed parts ∙ closed_all es) in
    ap (flat_map (given_of o.request)) is ∙ given_all o.request es

-- ---- the front of a window that looks read

-- The looks read the window's first events, and before the last look these were not enough.
pub record IsFront (o : Opening) (es : List Event) (looks : List LookMade) : Type 0 where
  pub fewer : length looks ≤ length es
  pub seen : all_marks looks ≡ map read (take (length looks) es)
  pub goes_to : reach o.low looks ≡ o.low + length looks
  pub before : (m : ℕ) → m < length looks → is_enough o.request (filter (passes o.request) (take m es)) ≡ false

no_front : (o : Opening) (es : List Event) → IsFront o es []
no_front o es = record { fewer = omega arith; seen = refl; goes_to = omega arith; before = below_none (λ m. is_enough o.request (filter (passes o.request) (take m es)) ≡ false) }

take_next : {A : Type 0} (xs : List A) (k : ℕ) (x : A) → slice_get xs k ≡ Some x → take (k + 1) xs ≡ take k xs ++ x ∷ []
take_next xs k x is =
    take_more xs k x (slice_get_within xs k x is) ∙ ap (λ y. take k xs ++ y ∷ []) (get_or_from_slice_get xs k x x is)

-- Bytes give the first events up to a count, the least one at which they are enough, or all of them.
pub record GivesFront (o : Opening) (es : List Event) (bytes : List ℕ) : Type 0 where
  pub count : ℕ
  pub whole : bytes ≡ frames_of o (passing o (take count es))
  pub before : (m : ℕ) → m < count → is_enough o.request (filter (passes o.request) (take m es)) ≡ false
  pub ends : (take count es ≡ es) ⊎ (is_enough o.request (passing o (take count es)) ≡ true)

module _ (cap : ℕ) (o : Opening) (log : List (List ℕ)) (es : List Event) (way : is_backward o.request ≡ false) (alone : o.request.follow ≡ false) (has : Holds o log es) where
  abbrev reading : Reading
  reading = Forwards (window o)

  given_front : (looks : List LookMade) → IsFront o es looks → forward o (window o) looks ≡ filter (passes o.request) (take (length looks) es)
  given_front looks front =
      forward_all o looks (take (length looks) es) front.seen (omega (arith, length-take-le (length looks) es front.fewer, front.fewer, has.size))

  -- one more look, which passed over the position of this event
  front_with : (looks : List LookMade) (look : LookMade) (e : Event) → IsFront o es looks
      → is_enough o.request (filter (passes o.request) (take (length looks) es)) ≡ false → slice_get es (length looks) ≡ Some e → marks_of look ≡ read e ∷ []
      → after look ≡ o.low + (length looks + 1) → IsFront o es (plus looks look)
  front_with looks look e front going here mark next =
      let k = length looks in
      let longer : length (plus looks look) ≡ k + 1 = length-append looks (look ∷ []) in
      record {
        fewer = omega (arith, longer, slice_get_within es k e here);
        seen = flat_map-append marks_of looks (look ∷ [])
            ∙ ap (λ (ms : List Mark). all_marks looks ++ ms) (append-nil (marks_of look) ∙ mark)
            ∙ ap (λ (ms : List Mark). ms ++ read e ∷ []) front.seen
            ∙ sym (map-append read (take k es) (e ∷ []))
            ∙ ap (map read) (sym (take_next es k e here))
            ∙ ap (λ (n : ℕ). map read (take n es)) (sym longer);
        goes_to = reach_more o.low looks look ∙ next ∙ ap (λ (n : ℕ). o.low + n) (sym longer);
        before = λ m less. below_more (λ n. is_enough o.request (filter (passes o.request) (take n es)) ≡ false) k front.before going m (omega (arith, less, longer));
      }

  front_more : (looks : List LookMade) (look : LookMade) → IsFront o es looks → is_enough o.request (filter (passes o.request) (take (length looks) es)) ≡ false
      → look.position ≡ o.low + length looks → IsGot cap log look → IsFront o es (plus looks look)
  front_more looks look front going at got =
      let here = has.reads (length looks) got.0 (subst (λ (n : ℕ). slice_get log n ≡ Some got.0) at got.2) in
      let mark : marks_of look ≡ read here.0 ∷ [] =
      ap (passed_over look.position look.moment) got.1 ∙ ap (λ (e : Option Event). Read e ∷ []) here.2 in
      let next : after look ≡ look.position + 1 = ap (place_after look.position) got.1 in
      front_with looks look here.0 front going here.1 mark (omega (arith, next, at))

  -- before the end what was read was not enough
  not_enough : (looks : List LookMade) → IsFront o es looks → AreOwn o reading looks → has_ended o looks ≡ false
      → is_enough o.request (filter (passes o.request) (take (length looks) es)) ≡ false
  not_enough looks front own not =
      ap (is_enough o.request) (sym (given_front looks front)) ∙ second_false (is_through (window o) looks) _ (sym (ended_window o looks way alone own) ∙ not)

  front_on : (before looks : List LookMade) → IsFront o es before → AreOwn o reading before → AreMadeAfter o before looks → AllByRecursion (IsGot cap log) looks → IsFront o es (before ++ looks)
  front_on before [] front own made got = subst (IsFront o es) (sym (append-nil before)) front
  front_on before (look ∷ looks) front own made got =
      let one = forwards_alone o way alone in
      let at : look.position ≡ o.low + length before = made.1 ∙ place_alone o reading one before own made.0 ∙ front.goes_to in
      let more = front_more before look front (not_enough before front own made.0) at got.0 in
      subst (IsFront o es) (append_assoc before (look ∷ []) looks) (front_on (plus before look) looks more (own_more o reading one before look own made.0) made.2 got.1)

  -- looks passed over the whole window
  through : (looks : List LookMade) → IsFront o es looks → is_through (window o) looks ≡ true → take (length looks) es ≡ es
  through looks front is =
      let k = length looks in
      let long : length (take k es) ≡ k = length-take-le k es front.fewer in
      let are = marks_all o looks (take k es) front.seen (omega (arith, long, front.fewer, has.size)) in
      let all : length (marks (window o) looks) ≡ o.size =
      eqb-true (length (marks (window o) looks)) o.size (ap (λ (size : Option ℕ). option_map_or (λ n. length (marks (window o) looks) == n) size false) (sym (window_size o)) ∙ is) in
      take_all k es (omega (arith, all, ap length are, length-map (take k es) read, long, has.size))

  pub gives_front : (bytes : List ℕ) → IsReply o cap log bytes → GivesFront o es bytes
  gives_front bytes is =
      let looks = is.looks in
      let one = forwards_alone o way alone in
      let own = own_made o reading one [] looks refl is.made in
      let front = front_on [] looks (no_front o es) refl is.made is.got in
      let given : reply o looks ≡ passing o (take (length looks) es) = reply_alone o reading one looks own ∙ given_front looks front in record {
        count = length looks;
        whole = is.whole
            ∙ ap (λ (fs : List Frame). spelled (event_frames o.name (reply o looks) ++ fs)) (when_true (has_ended o looks) (status_frame ∷ []) [] is.ended)
            ∙ ap (frames_of o) given;
        before = front.before;
        ends = elim (or_cases (is_through (window o) looks) (is_enough o.request (forward o (window o) looks)) (sym (ended_window o looks way alone own) ∙ is.ended)) [
          | inl end ↦ inl (through looks front end)
          | inr enough ↦ inr (ap (is_enough o.request) (sym (given_front looks front)) ∙ enough)
        ];
      }
