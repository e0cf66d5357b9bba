-- The looks that a session makes: no more than its window has positions; and at a ring that is no longer written each gets its record.
use Rattle.std.proofs.Common.{◌≡◌, ℕ, ◌+◌, ◌-◌, ◌<◌, ◌≤◌, Bool, true, false, List, [], ◌∷◌, ◌++◌, length, refl, sym, ap, subst, ◌∙◌, arith, slice_get, Some, length-append}
use Rattle.std.specs.List.{All, AllByRecursion}
use Rattle.std.proofs.lemmas.Bool.{leb-false}
use Rattle.std.proofs.lemmas.List.{append-nil, length-replicate}
use Rattle.std.proofs.lemmas.List.Elements.{recursion_from_All}
use Rattle.std.proofs.lemmas.Grind.{flat_map-append}
use Rattle.hb_look.specs.Looks.{Found, Got, Gone, NotYet, LookMade, place_after, reach, after}
use Rattle.hb_look.specs.Answers.{IsFoundAt, IsExact}
use Rattle.hb_session.specs.Marks.{Over, marks_of, passed_over}
use Rattle.hb_session.specs.Openings.{Opening, Backwards, Forwards, is_backward}
use Rattle.hb_session.specs.Replies.{has_ended, place, owed, spelled, AreMade, AreMadeAfter}
use Rattle.hb_session.specs.Sessions.{TurnMade, HasGoneOn, all_looks, all_bytes}
use Rattle.hb_session.specs.Whole.{IsGot, IsReply}
use Rattle.hb_session.proofs.Bools.{first_false}
use Rattle.hb_session.proofs.Replies.{reach_more}
use Rattle.hb_session.proofs.Alone.{window, window_size, forwards_alone, backwards_alone, one_of, alone_by, AreOwn, ended_alone, ended_window, place_alone, own_more}
use Rattle.hb_session.proofs.Windows.{all_marks, not_through}

-- ---- how many they are

-- a look that leads on passes over a position
passes_one : (position moment : ℕ) (found : Found) → position < place_after position found → 1 ≤ length (passed_over position moment found)
passes_one position moment (Got bytes) leads = omega arith
passes_one position moment (Gone next) leads = omega (arith, leads, length-replicate (next - position) (Over moment))
passes_one position moment NotYet leads = absurd (omega (arith, leads))

-- how many positions are passed over with one more look
marks_more : (looks : List LookMade) (look : LookMade) → length (all_marks (looks ++ look ∷ [])) ≡ length (all_marks looks) + length (marks_of look)
marks_more looks look =
    ap length (flat_map-append marks_of looks (look ∷ []) ∙ ap (λ ms. all_marks looks ++ ms) (append-nil (marks_of look))) ∙ length-append (all_marks looks) (marks_of look)

-- before the next look fewer were made than there are positions
fewer_by : (o : Opening) (looks : List LookMade) (b : Bool) → is_backward o.request ≡ b → o.request.follow ≡ false → AreOwn o (one_of o b) looks
    → length looks ≤ length (all_marks looks) → has_ended o looks ≡ false → length looks < o.size
fewer_by o looks true way alone own passed not =
    leb-false o.size (length looks) (first_false _ _ (sym (ended_alone o Backwards (backwards_alone o way alone) looks own) ∙ not))
fewer_by o looks false way alone own passed not =
    let through = (not_through (window o) looks (first_false _ _ (sym (ended_window o looks way alone own) ∙ not))).1 o.size (window_size o) in omega (arith, through, passed)

few_on : (o : Opening) (b : Bool) (before looks : List LookMade) → is_backward o.request ≡ b → o.request.follow ≡ false → AreOwn o (one_of o b) before
    → length before ≤ length (all_marks before) → length before ≤ o.size → AreMadeAfter o before looks
    → AllByRecursion (λ look. look.position < after look) looks → length before + length looks ≤ o.size
few_on o b before [] way alone own passed within made leads = omega (arith, within)
few_on o b before (look ∷ looks) way alone own passed within made leads =
    let longer : length (before ++ look ∷ []) ≡ length before + 1 = length-append before (look ∷ []) in
    let one = passes_one look.position look.moment look.found leads.0 in
    let fewer = fewer_by o before b way alone own passed made.0 in
    let more = own_more o (one_of o b) (alone_by o b way alone) before look own made.0 in
    let rest = few_on o b (before ++ look ∷ []) looks way alone more (omega (arith, longer, marks_more before look, one, passed)) (omega (arith, longer, fewer)) made.2 leads.1 in
    omega (arith, rest, longer)

-- turns that each moved are no more than their looks and bytes
few_moves : (turns : List TurnMade) → AllByRecursion HasGoneOn turns → length turns ≤ length (all_looks turns) + length (all_bytes turns)
few_moves [] moved = omega arith
few_moves (turn ∷ turns) moved =
    let looks = length-append turn.looks (all_looks turns) in
    let bytes = length-append turn.bytes (all_bytes turns) in
    let rest = few_moves turns moved.1 in
    omega (arith, looks, bytes, rest, moved.0)

pub few_turns : (o : Opening) (turns : List TurnMade) (reply : ℕ) → o.request.follow ≡ false → AreMade o (all_looks turns) → All (λ look. look.position < after look) (all_looks turns)
    → length (all_bytes turns) ≤ reply → AllByRecursion HasGoneOn turns → length turns ≤ o.size + reply
few_turns o turns reply alone made leads taken moved =
    let few = few_on o (is_backward o.request) [] (all_looks turns) refl alone refl (omega arith) (omega arith) made (recursion_from_All (λ look. look.position < after look) (all_looks turns) leads) in
    omega (arith, few, few_moves turns moved, taken)

-- ---- what they find

-- looks each of which passed over one position
record AreSteps (o : Opening) (looks : List LookMade) : Type 0 where
  marks : length (all_marks looks) ≡ length looks
  reach : is_backward o.request ≡ false → reach o.low looks ≡ o.low + length looks

-- the next look is in the window
place_by : (o : Opening) (looks : List LookMade) (b : Bool) → is_backward o.request ≡ b → o.request.follow ≡ false → AreOwn o (one_of o b) looks
    → AreSteps o looks → has_ended o looks ≡ false → (o.low ≤ place o looks) × (place o looks < o.low + o.size)
place_by o looks true way alone own steps not =
    let at : place o looks ≡ o.low + o.size - 1 - length looks = place_alone o Backwards (backwards_alone o way alone) looks own not in
    let fewer = fewer_by o looks true way alone own (omega (arith, steps.marks)) not in (omega (arith, at, fewer), omega (arith, at, fewer))
place_by o looks false way alone own steps not =
    let at : place o looks ≡ o.low + length looks = place_alone o (Forwards (window o)) (forwards_alone o way alone) looks own not ∙ steps.reach way in
    let fewer = fewer_by o looks false way alone own (omega (arith, steps.marks)) not in (omega (arith, at), omega (arith, at, fewer))

-- what is found in the window is the record
pub found_got : (log : List (List ℕ)) (cap position : ℕ) (found : Found) → IsFoundAt log cap position found → position < length log → length log ≤ position + cap
    → (bytes : List ℕ) × (found ≡ Got bytes) × (slice_get log position ≡ Some bytes)
found_got log cap position (Got bytes) is below within = (bytes, refl, is.1)
found_got log cap position (Gone next) is below within = absurd (omega (arith, is.0, is.1, within))
found_got log cap position NotYet is below within = absurd (omega (arith, is, below))

-- one more
next_at : (o : Opening) (looks : List LookMade) (b : Bool) → is_backward o.request ≡ b → is_backward o.request ≡ false → o.request.follow ≡ false → AreOwn o (one_of o b) looks
    → has_ended o looks ≡ false → place o looks ≡ reach o.low looks
next_at o looks true way not alone own going = absurd (let both : true ≡ false = sym way ∙ not in cc)
next_at o looks false way not alone own going = place_alone o (Forwards (window o)) (forwards_alone o way alone) looks own going

steps_more : (o : Opening) (b : Bool) (looks : List LookMade) (look : LookMade) (bytes : List ℕ) → is_backward o.request ≡ b → o.request.follow ≡ false → AreOwn o (one_of o b) looks
    → has_ended o looks ≡ false → AreSteps o looks → look.position ≡ place o looks → look.found ≡ Got bytes → AreSteps o (looks ++ look ∷ [])
steps_more o b looks look bytes way alone own going steps at got =
    let longer : length (looks ++ look ∷ []) ≡ length looks + 1 = length-append looks (look ∷ []) in
    let one : length (marks_of look) ≡ 1 = ap (λ (f : Found). length (passed_over look.position look.moment f)) got in
    let next : place_after look.position look.found ≡ look.position + 1 = ap (λ (f : Found). place_after look.position f) got in record {
      marks = omega (arith, marks_more looks look, steps.marks, longer, one);
      reach = λ is. reach_more o.low looks look ∙ next ∙ omega (arith, at, next_at o looks b way is alone own going, steps.reach is, longer);
    }

-- each of them got its record
got_on : (o : Opening) (b : Bool) (log : List (List ℕ)) (cap : ℕ) (before looks : List LookMade) → is_backward o.request ≡ b → o.request.follow ≡ false → AreOwn o (one_of o b) before
    → AreSteps o before → AreMadeAfter o before looks
    → AllByRecursion (IsExact log) looks → AllByRecursion (λ look. look.capacity ≡ cap) looks → AllByRecursion (λ look. look.moment ≡ 0) looks
    → o.low + o.size ≡ length log → length log ≤ o.low + cap → AllByRecursion (IsGot cap log) looks
got_on o b log cap before [] way alone own steps made exact at_ring moments size window = tt
got_on o b log cap before (look ∷ looks) way alone own steps made exact at_ring moments size window =
    let within = place_by o before b way alone own steps made.0 in
    let got = found_got log look.capacity look.position look.found exact.0 (omega (arith, within.1, made.1, size)) (omega (arith, within.0, made.1, window, at_ring.0)) in (
      (got.0, got.1, got.2, moments.0, at_ring.0),
      got_on o b log cap (before ++ look ∷ []) looks way alone (own_more o (one_of o b) (alone_by o b way alone) before look own made.0)
          (steps_more o b before look got.0 way alone own made.0 steps made.1 got.1) made.2 exact.1 at_ring.1 moments.1 size window,
    )

-- so what was sent is the reply, where all of it was
pub is_reply : (o opened : Opening) (log : List (List ℕ)) (cap moment : ℕ) (looks : List LookMade) (sent : List ℕ) → opened ≡ o → o.request.follow ≡ false → AreMade opened looks
    → All (IsExact log) looks → All (λ look. look.capacity ≡ cap) looks → All (λ look. look.moment ≡ moment) looks → moment ≡ 0
    → has_ended opened looks ≡ true → sent ≡ spelled (owed opened looks)
    → o.low + o.size ≡ length log → length log ≤ o.low + cap → IsReply o cap log sent
is_reply o opened log cap moment looks sent is alone made exact at_ring moments start ended whole size window =
    let made_so : AreMade o looks = subst (λ (x : Opening). AreMade x looks) is made in
    let at_start : All (λ look. look.moment ≡ 0) looks = subst (λ (n : ℕ). All (λ look. look.moment ≡ n) looks) start moments in record {
      alone = alone;
      looks = looks;
      made = made_so;
      got = got_on o (is_backward o.request) log cap [] looks refl alone refl (record { marks = refl; reach = λ _. omega arith }) made_so
          (recursion_from_All (IsExact log) looks exact)
          (recursion_from_All (λ look. look.capacity ≡ cap) looks at_ring)
          (recursion_from_All (λ look. look.moment ≡ 0) looks at_start) size window;
      ended = ap (λ (x : Opening). has_ended x looks) (sym is) ∙ ended;
      whole = whole ∙ ap (λ (x : Opening). spelled (owed x looks)) is;
    }
