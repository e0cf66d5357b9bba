-- What a look that was made makes of a source and of its reader.
use Rattle.std.proofs.Common.{◌≡◌, ℕ, ◌+◌, ◌-◌, ◌<◌, ◌≤◌, min, Bool, true, false, cond, ◌&&◌, not, Option, arith, ◌⊎◌, inl, inr, List, [], ◌∷◌, ◌++◌, length, Some, None, Result, Err, refl, sym, ap, ◌∙◌, subst}
use Rattle.std.specs.Prelude.{◌==◌, OnErr}
use Rattle.std.specs.Option.{is_none, option_map_or, ForSome}
use Rattle.std.proofs.lemmas.Bool.{eqb-false}
use Rattle.std.proofs.lemmas.List.{length-append}
use Rattle.hb_flow.specs.declared.event.Event.{Event}
use Rattle.hb_look.specs.Looks.{Found, Got, Gone, NotYet, LookMade, after, added}
use Rattle.hb_look.specs.Reader.{Reader, HasCause, IsCaused}
use Rattle.hb_look.specs.Answers.{with_look}
use Rattle.hb_look.proofs.Added.{added_these, all_one}
use Rattle.hb_session.specs.declared.way.Way.{Way}
use Rattle.hb_session.specs.declared.way.Way.TheVariants as ways
use Rattle.hb_session.specs.declared.counts.Counts.{Counts}
use Rattle.hb_session.specs.Openings.{Opening, top, is_backward, forward_start, forward_end}
use Rattle.hb_session.specs.Events.{event_of_record}
use Rattle.hb_session.specs.Forward.{is_late}
use Rattle.hb_session.specs.Replies.{AreMadeAfter, spelled, status_frame}
use Rattle.hb_session.specs.Steps.{Forward, Backward, Step, forward_unread, backward_unread, is_at_end, forward_is_over, given_or_skipped, lost, forward_read, forward_gone, backward_is_over, kept, released, held_on, backward_read, backward_gone}
use Rattle.hb_session.specs.Ways.{way_unread, next_place, counts_by, is_read, is_followed, closed_by, closed, way_opened, way_read, way_gone}
use Rattle.hb_session.specs.Stands.{Source, left_by, left, HasRoom, IsOn, counted, SourceStandsFor}
use Rattle.hb_session.specs.Works.{HasWorked, IsOneLook, HasLed}
use Rattle.hb_session.proofs.Bools.{first_false, when_false, when_true}
use Rattle.hb_session.proofs.Replies.{plus, made_both}
use Rattle.hb_session.proofs.ForwardSteps.{read_leaves}
use Rattle.hb_session.proofs.BackwardSteps.{keeps}
use Rattle.hb_session.proofs.Opened.{starts_by}
use Rattle.hb_session.proofs.Steps.{IsStepOf, next_made, read_step, gone_step, none_step}

-- ---- how far one more look goes on

-- a step leaves a way that has a position to look at, where it goes on
abbrev pub IsSound : Opening → Step Way → Type 0
IsSound o step = step.ended ≡ false → HasRoom o step.state

sound_back : (o : Opening) (b : Backward) (put : List ℕ) (followed last : Bool) → o.request.follow ≡ followed → (last ≡ false → b.passed < o.size)
    → IsSound o (closed_by o followed (ways.Backward b) put last)
sound_back o b put true true follow within not = (sym (when_true o.request.follow _ _ follow), omega arith, λ e is. absurd cc)
sound_back o b put true false follow within not = within refl
sound_back o b put false true follow within not = absurd cc
sound_back o b put false false follow within not = within refl

sound_backward : (o : Opening) (step : Step Backward) → (step.ended ≡ false → step.state.passed < o.size) → IsSound o (closed o ways.Backward step)
sound_backward o step within = sound_back o step.state step.put o.request.follow step.ended refl within

sound_forward : (o : Opening) (f : Forward) (put : List ℕ) (last : Bool) → f.end ≡ forward_end o → o.low ≤ f.place → (last ≡ false → ForSome f.end (λ e. f.place < e))
    → IsSound o (closed_by o false (ways.Forward f) put last)
sound_forward o f put last end from within not = (end, from, within not)

-- a place that was before the end, and is at most at it, is before it where it is not at it
before_end : (end : Option ℕ) (place : ℕ) → option_map_or (λ e. place == e) end false ≡ false → ForSome end (λ e. place ≤ e) → ForSome end (λ e. place < e)
before_end None place not most e is = absurd cc
before_end (Some end) place not most e is =
    let same : end ≡ e = cc in
    let most : place ≤ end = most end refl in
    let other = eqb-false place end not in omega (arith, same, most, other)

starts_from : (o : Opening) (b c : Bool) → o.low ≤ cond (b && c) (top o) o.low
starts_from o true true = omega arith
starts_from o true false = omega arith
starts_from o false c = omega arith

-- before the first look
opened_by : (o : Opening) (b : Bool)
    → let first : Way = cond b (ways.Backward backward_unread) (ways.Forward (forward_unread (record { start = forward_start o; end = forward_end o }))) in
    IsSound o (closed_by o (is_followed o first) first [] (is_read o first))
opened_by o true = sound_back o backward_unread [] o.request.follow (0 == o.size) refl (λ not. let other = eqb-false 0 o.size not in omega (arith, other))
opened_by o false =
    let f : Forward = forward_unread (record { start = forward_start o; end = forward_end o }) in
    sound_forward o f [] (is_at_end f) refl (starts_from o o.request.follow (is_none o.request.since)) (λ not. before_end (forward_end o) (forward_start o) not (starts_by o o.request.follow (is_none o.request.since)))

pub opened_sound : (o : Opening) → IsSound o (way_opened o)
opened_sound o = opened_by o (is_backward o.request)

left_some : (o : Opening) (end : Option ℕ) (place : ℕ) → end ≡ Some (top o) → o.low ≤ place → ForSome end (λ e. place < e)
    → 0 < option_map_or (λ e. min (e - place) o.size) end 0
left_some o None place is from room = absurd cc
left_some o (Some e) place is from room = let less : place < e = room e refl in let same : e ≡ top o = cc in omega (arith, less, same, from)

-- a way that has a position to look at has one left, where the reply does not follow
pub room_left : (o : Opening) (way : Way) → HasRoom o way → o.request.follow ≡ false → 0 < left_by o way
room_left o (ways.Forward f) (end, from, room) not = left_some o f.end f.place (end ∙ when_false o.request.follow None (Some (top o)) not) from room
room_left o (ways.Backward b) room not = omega (arith, room)

-- fewer positions are left, where the reply does not follow
abbrev IsCloser : Opening → Way → Step Way → Type 0
IsCloser o way step = o.request.follow ≡ false → left_by o step.state < left_by o way

closer_back : (o : Opening) (b c : Backward) (put : List ℕ) (followed last : Bool) → o.request.follow ≡ followed → b.passed < c.passed → b.passed < o.size
    → IsCloser o (ways.Backward b) (closed_by o followed (ways.Backward c) put last)
closer_back o b c put true last follow further within not = absurd (let both : true ≡ false = sym follow ∙ not in cc)
closer_back o b c put false last follow further within not = omega (arith, further, within)

closer_by : (o : Opening) (end : Option ℕ) (n m : ℕ) → end ≡ Some (top o) → n < m → o.low ≤ n → ForSome end (λ e. n < e)
    → option_map_or (λ e. min (e - m) o.size) end 0 < option_map_or (λ e. min (e - n) o.size) end 0
closer_by o None n m is further from within = absurd cc
closer_by o (Some e) n m is further from within =
    let less : n < e = within e refl in let same : e ≡ top o = cc in omega (arith, further, less, same, from)

closer_forward : (o : Opening) (f g : Forward) (put : List ℕ) (last : Bool) → HasRoom o (ways.Forward f) → g.end ≡ f.end → f.place < g.place
    → IsCloser o (ways.Forward f) (closed_by o false (ways.Forward g) put last)
closer_forward o f g put last (end, from, within) same further not =
    let at : f.end ≡ Some (top o) = end ∙ when_false o.request.follow None (Some (top o)) not in
    subst (λ (x : Option ℕ). option_map_or (λ e. min (e - g.place) o.size) x 0 < option_map_or (λ e. min (e - f.place) o.size) f.end 0) (sym same)
    (closer_by o f.end f.place g.place at further from within)

-- both
pub record GoesFurther (o : Opening) (way : Way) (step : Step Way) : Type 0 where
  pub sound : IsSound o step
  pub closer : o.request.follow ≡ false → left_by o step.state < left_by o way

backward_further : (o : Opening) (b c : Backward) (choice : Bool) → choice ≡ backward_is_over o c → b.passed < o.size → b.passed < c.passed → c.passed ≤ o.size
    → GoesFurther o (ways.Backward b) (closed o ways.Backward (cond choice (released c) (held_on c)))
backward_further o b c true is within further most = record {
  sound = sound_backward o (released c) (λ not. absurd cc);
  closer = closer_back o b (record c { held = [] }) c.held o.request.follow true refl further within;
}
backward_further o b c false is within further most = record {
  sound = sound_backward o (held_on c) (λ _. let other = eqb-false c.passed o.size (first_false (c.passed == o.size) _ (sym is)) in omega (arith, most, other));
  closer = closer_back o b c [] o.request.follow false refl further within;
}

forward_further : (o : Opening) (f g : Forward) (late : Bool) (put : List ℕ) → HasRoom o (ways.Forward f) → g.end ≡ f.end → f.place < g.place
    → ForSome f.end (λ e. g.place ≤ e) → GoesFurther o (ways.Forward f) (closed_by o false (ways.Forward g) put (forward_is_over o g late))
forward_further o f g late put room same further most = record {
  sound = sound_forward o g put (forward_is_over o g late) (same ∙ room.0) (let from : o.low ≤ f.place = room.1 in omega (arith, from, further))
      (λ not. before_end g.end g.place (first_false (is_at_end g) _ not) (subst (λ (x : Option ℕ). ForSome x (λ e. g.place ≤ e)) (sym same) most));
  closer = closer_forward o f g put (forward_is_over o g late) room same further;
}

pub read_further : (o : Opening) (way : Way) (event : Option Event) → HasRoom o way → GoesFurther o way (way_read o way event)
read_further o (ways.Forward f) event room =
    let g : Forward = given_or_skipped o f event in
    let leaves = read_leaves o f event in
    forward_further o f g (is_none f.end && is_late o f.place event) _ room leaves.end (omega (arith, leaves.place)) (λ e is. let less = room.2 e is in omega (arith, leaves.place, less))
read_further o (ways.Backward b) event room =
    let c : Backward = kept o b event in
    let leaves = keeps o b event in
    backward_further o b c (backward_is_over o c) refl room (omega (arith, leaves.passed)) (omega (arith, leaves.passed, room))

-- how far a stretch goes
gone_to : (end : Option ℕ) (place next : ℕ) → place < next → ForSome end (λ e. place < e) → (place < place + (option_map_or (λ e. min next e) end next - place))
    × ForSome end (λ e. place + (option_map_or (λ e. min next e) end next - place) ≤ e)
gone_to None place next moves room = (omega (arith, moves), λ e is. absurd cc)
gone_to (Some end) place next moves room =
    let less : place < end = room end refl in
    (omega (arith, moves, less), λ e is. let same : end ≡ e = cc in omega (arith, less, same))

pub gone_further : (o : Opening) (way : Way) (next moment : ℕ) → HasRoom o way → next_place o way < next
    → GoesFurther o way (way_gone o way next moment)
gone_further o (ways.Forward f) next moment room moves =
    let to = gone_to f.end f.place next moves room.2 in
    let g : Forward = lost f (option_map_or (λ e. min next e) f.end next - f.place) moment in
    forward_further o f g false _ room refl to.0 to.1
gone_further o (ways.Backward b) next moment room moves = record {
  sound = sound_backward o (backward_gone o b moment) (λ not. absurd cc);
  closer = closer_back o b (backward_gone o b moment).state (backward_gone o b moment).put o.request.follow true refl room room;
}

-- ---- the source

-- a look makes this step of what a source stands for
abbrev pub StepsTo : Source → LookMade → Step Way → Type 0
StepsTo s look step = (looks : List LookMade) → SourceStandsFor s looks → IsStepOf s.opening looks (plus looks look) step

pub read_steps : (s : Source) (look : LookMade) (bytes : List ℕ) → s.ended ≡ false → look.position ≡ next_place s.opening s.way → look.found ≡ Got bytes
    → StepsTo s look (way_read s.opening s.way (event_of_record bytes))
read_steps s look bytes going at found looks is =
    read_step s.opening s.way looks look bytes is.counts (is.on going) at found

pub gone_steps : (s : Source) (look : LookMade) (next : ℕ) → s.ended ≡ false → look.position ≡ next_place s.opening s.way → look.found ≡ Gone next
    → look.position < next → StepsTo s look (way_gone s.opening s.way next look.moment)
gone_steps s look next going at found moves looks is =
    gone_step s.opening s.way looks look next is.counts (is.on going) at found moves

-- a look that finds nothing yet, in a way that has no end
none_by : (o : Opening) (way : Way) (looks : List LookMade) (look : LookMade) → counts_by way ≡ counted o looks → IsOn o way looks → look.position ≡ next_place o way
    → look.found ≡ NotYet → HasRoom o way → top o ≤ look.position → IsStepOf o looks (plus looks look) (record { state = way; put = []; ended = false })
none_by o (ways.Forward f) looks look counts on at found room far = none_step o f looks look counts on at found
none_by o (ways.Backward b) looks look counts on at found room far = absurd (omega (arith, at, room, far))

pub none_steps : (s : Source) (look : LookMade) → s.ended ≡ false → look.position ≡ next_place s.opening s.way → look.found ≡ NotYet → HasRoom s.opening s.way
    → top s.opening ≤ look.position → StepsTo s look (record { state = s.way; put = []; ended = false })
none_steps s look going at found room far looks is = none_by s.opening s.way looks look is.counts (is.on going) at found room far

-- and then the reply follows
follows_by : (o : Opening) (way : Way) (place : ℕ) (b : Bool) → o.request.follow ≡ b → HasRoom o way → place ≡ next_place o way → top o ≤ place → o.request.follow ≡ true
follows_by o way place true follow room at far = follow
follows_by o (ways.Backward b) place false follow room at far = absurd (omega (arith, at, room, far))
follows_by o (ways.Forward f) place false follow (end, from, room) at far =
    let less : f.place < top o = room (top o) (end ∙ when_false o.request.follow None (Some (top o)) follow) in absurd (omega (arith, at, far, less))

pub follows_there : (s : Source) (place : ℕ) → HasRoom s.opening s.way → place ≡ next_place s.opening s.way → top s.opening ≤ place
    → s.opening.request.follow ≡ true
follows_there s place room at far = follows_by s.opening s.way place s.opening.request.follow refl room at far

step_stands : (old new : Source) (looks : List LookMade) (look : LookMade) (step : Step Way) → old.ended ≡ false → look.position ≡ next_place old.opening old.way
    → new.opening ≡ old.opening → new.way ≡ step.state → new.ended ≡ step.ended → SourceStandsFor old looks → IsStepOf old.opening looks (plus looks look) step
    → SourceStandsFor new (plus looks look)
step_stands old new looks look step going at opening way ended stands is =
    let o = old.opening in
    let all : SourceStandsFor (record { opening = o; way = step.state; ended = step.ended }) (plus looks look) = record {
      made = made_both o [] looks (look ∷ []) stands.made (next_made old looks look going stands at);
      ended = is.after.ended;
      counts = is.after.counts;
      on = is.after.on;
    } in
    subst (λ (x : Opening). SourceStandsFor (record new { opening = x }) (plus looks look)) (sym opening)
    (subst (λ (w : Way). SourceStandsFor (record new { opening = o; way = w }) (plus looks look)) (sym way)
    (subst (λ (b : Bool). SourceStandsFor (record new { opening = o; way = step.state; ended = b }) (plus looks look)) (sym ended) all))

-- where a reply has ended, its status was put
status_put : (o : Opening) (followed last : Bool) (way : Way) (put : List ℕ) → (closed_by o followed way put last).ended ≡ true → 0 < length (closed_by o followed way put last).put
status_put o followed last way put ended =
    let all = ap (λ (b : Bool). length (put ++ cond b (spelled (status_frame ∷ [])) [])) ended in
    let longer = length-append put (spelled (status_frame ∷ [])) in
    omega (arith, all, longer)

read_put : (o : Opening) (way : Way) (event : Option Event) → (way_read o way event).ended ≡ true → 0 < length (way_read o way event).put
read_put o (ways.Forward f) event = status_put o false _ (ways.Forward (forward_read o f event).state) (forward_read o f event).put
read_put o (ways.Backward b) event = status_put o o.request.follow _ (ways.Backward (backward_read o b event).state) (backward_read o b event).put

gone_put : (o : Opening) (way : Way) (next moment : ℕ) → (way_gone o way next moment).ended ≡ true → 0 < length (way_gone o way next moment).put
gone_put o (ways.Forward f) next moment = status_put o false _ (ways.Forward (forward_gone o f next moment).state) (forward_gone o f next moment).put
gone_put o (ways.Backward b) next moment = status_put o o.request.follow _ (ways.Backward (backward_gone o b moment).state) (backward_gone o b moment).put

pub opened_put : (o : Opening) → (way_opened o).ended ≡ true → 0 < length (way_opened o).put
opened_put o = status_put o (is_followed o (way_unread o)) (is_read o (way_unread o)) (way_unread o) []

-- ---- a look that was made, and what it makes of the source

pub record IsLookOf (s : Source) (old new : Reader) (look : LookMade) (step : Step Way) : Type 0 where
  pub going : s.ended ≡ false
  pub at : look.position ≡ next_place s.opening s.way
  pub listed : new.looks ≡ old.looks ++ look ∷ []
  pub cause : IsCaused old new look
  pub leads : s.opening.request.follow ≡ false → look.position < after look
  pub steps : StepsTo s look step
  pub sound : IsSound s.opening step
  pub put : step.ended ≡ true → 0 < length step.put

-- it leads on, and comes nearer to the end of what is read, where that ends
pub record LeadsOn (s : Source) (look : LookMade) (step : Step Way) : Type 0 where
  pub leads : look.position < after look
  pub closer : s.opening.request.follow ≡ false → left_by s.opening step.state < left s

abbrev pub look_made : ℕ → ℕ → ℕ → Found → LookMade
look_made cap place moment found = record { position = place; found = found; moment = moment; capacity = cap }

module _ (s : Source) (old new : Reader) (place moment : ℕ) (going : s.ended ≡ false) (room : HasRoom s.opening s.way)
    (at : place ≡ next_place s.opening s.way) where
  pub got_look : (bytes : List ℕ) → new.looks ≡ with_look old.looks old.capacity place moment (Some (Got bytes)) → HasCause old.capacity place old new (Got bytes)
      → IsLookOf s old new (look_made old.capacity place moment (Got bytes)) (way_read s.opening s.way (event_of_record bytes))
  got_look bytes listed cause = record {
    going = going;
    at = at;
    listed = listed;
    cause = cause;
    leads = λ _. omega arith;
    steps = read_steps s (look_made old.capacity place moment (Got bytes)) bytes going at refl;
    sound = (read_further s.opening s.way (event_of_record bytes) room).sound;
    put = read_put s.opening s.way (event_of_record bytes);
  }

  pub gone_look : (next : ℕ) → new.looks ≡ with_look old.looks old.capacity place moment (Some (Gone next)) → HasCause old.capacity place old new (Gone next)
      → IsLookOf s old new (look_made old.capacity place moment (Gone next)) (way_gone s.opening s.way next moment)
  gone_look next listed cause = record {
    going = going;
    at = at;
    listed = listed;
    cause = cause;
    leads = λ _. cause.2;
    steps = gone_steps s (look_made old.capacity place moment (Gone next)) next going at refl cause.2;
    sound = (gone_further s.opening s.way next moment room (subst (λ (n : ℕ). n < next) at cause.2)).sound;
    put = gone_put s.opening s.way next moment;
  }

  pub got_on : (bytes : List ℕ) → LeadsOn s (look_made old.capacity place moment (Got bytes)) (way_read s.opening s.way (event_of_record bytes))
  got_on bytes = record { leads = omega arith; closer = (read_further s.opening s.way (event_of_record bytes) room).closer }

  pub gone_on : (next : ℕ) → place < next → LeadsOn s (look_made old.capacity place moment (Gone next)) (way_gone s.opening s.way next moment)
  gone_on next moves = record { leads = moves; closer = (gone_further s.opening s.way next moment room (subst (λ (n : ℕ). n < next) at moves)).closer }

  pub none_look : top s.opening ≤ place → new.looks ≡ with_look old.looks old.capacity place moment (Some NotYet) → HasCause old.capacity place old new NotYet
      → IsLookOf s old new (look_made old.capacity place moment NotYet) (record { state = s.way; put = []; ended = false })
  none_look far listed cause = record {
    going = going;
    at = at;
    listed = listed;
    cause = cause;
    leads = λ ends. absurd (let both : true ≡ false = sym (follows_there s place room at far) ∙ ends in cc);
    steps = none_steps s (look_made old.capacity place moment NotYet) going at refl room far;
    sound = λ _. room;
    put = λ ended. absurd cc;
  }

-- ---- what is to be said of it

-- a look was made at this moment, and its step
pub record HasMade (s : Source) (old new : Reader) (moment : ℕ) : Type 0 where
  pub look : LookMade
  pub step : Step Way
  pub is : IsLookOf s old new look step
  pub at : look.moment ≡ moment

-- a look that found nothing yet is behind the window
abbrev pub waited : (s : Source) (old new : Reader) (place moment : ℕ) → s.ended ≡ false → HasRoom s.opening s.way → place ≡ next_place s.opening s.way
    → top s.opening ≤ old.finished.count → old.finished.count ≤ new.finished.count
    → new.looks ≡ with_look old.looks old.capacity place moment (Some NotYet) → HasCause old.capacity place old new NotYet → HasMade s old new moment
waited s old new place moment going room at seen later listed cause = record {
  look = look_made old.capacity place moment NotYet;
  step = record { state = s.way; put = []; ended = false };
  is = none_look s old new place moment going room at (omega (arith, seen, later, cause.1)) listed cause;
  at = refl;
}

-- the source has made this step, where memory was not refused
pub record HasStepped (s t : Source) (step : Step Way) (bytes now : List ℕ) : Type 0 where
  pub opening : t.opening ≡ s.opening
  pub way : t.way ≡ step.state
  pub ended : t.ended ≡ step.ended
  pub put : now ≡ bytes ++ step.put

module _ (s : Source) (old new : Reader) (moment : ℕ) (made : HasMade s old new moment) where
  added_is : added old.looks new.looks ≡ made.look ∷ []
  added_is = added_these old.looks new.looks (made.look ∷ []) made.is.listed

  -- the reader
  pub made_one : IsOneLook old new moment s.opening.request.follow
  made_one = record {
    most = let one = ap length added_is in omega (arith, one);
    at = all_one (λ l. l.moment ≡ moment) old.looks new.looks made.look made.is.listed made.at;
    cause = all_one (IsCaused old new) old.looks new.looks made.look made.is.listed made.is.cause;
    moves = λ ends. all_one (λ l. l.position < after l) old.looks new.looks made.look made.is.listed (made.is.leads ends);
  }

  -- the look is where those before it lead
  pub made_there : (looks : List LookMade) → SourceStandsFor s looks → AreMadeAfter s.opening looks (added old.looks new.looks)
  made_there looks stands = subst (AreMadeAfter s.opening looks) (sym added_is) (next_made s looks made.look made.is.going stands made.is.at)

  -- the counts, with the look or without it
  pub made_counted : (counts : Counts) → (counts ≡ counts_by s.way) ⊎ (counts ≡ counts_by made.step.state) → (looks : List LookMade) → SourceStandsFor s looks
      → (counts ≡ counted s.opening looks) ⊎ (counts ≡ counted s.opening (looks ++ added old.looks new.looks))
  made_counted counts (inl same) looks stands = inl (same ∙ stands.counts)
  made_counted counts (inr stepped) looks stands =
      inr (stepped ∙ (made.is.steps looks stands).after.counts ∙ ap (λ (more : List LookMade). counted s.opening (looks ++ more)) (sym added_is))

  module _ (t : Source) (bytes now : List ℕ) (stepped : HasStepped s t made.step bytes now) where
    pub made_worked : HasWorked s t (added old.looks new.looks) bytes now
    made_worked = subst (λ (more : List LookMade). HasWorked s t more bytes now) (sym added_is) (record {
      opening = stepped.opening;
      stands = λ looks stands. step_stands s t looks made.look made.step made.is.going made.is.at stepped.opening stepped.way stepped.ended stands (made.is.steps looks stands);
      put = λ looks stands. let frames = (made.is.steps looks stands).frames in
          (frames.0, frames.1, stepped.put ∙ ap (λ (more : List ℕ). bytes ++ more) frames.2);
    })

    -- it is nearer to the end of what is read, where the look leads on
    left_is : left t ≡ left_by s.opening made.step.state
    left_is = ap (λ (o : Opening). left_by o t.way) stepped.opening ∙ ap (λ (w : Way). left_by s.opening w) stepped.way

    pub made_more : LeadsOn s made.look made.step → (s.opening.request.follow ≡ false → left t < left s) × HasLed (added old.looks new.looks)
    made_more on = (
      λ not. let closer = on.closer not in omega (arith, left_is, closer),
      (ap length added_is, all_one (λ l. l.position < after l) old.looks new.looks made.look made.is.listed on.leads),
    )

    -- a position is left where it goes on
    pub made_room : t.ended ≡ false → HasRoom t.opening t.way
    made_room going =
        let room : HasRoom s.opening made.step.state = made.is.sound (sym stepped.ended ∙ going) in
        subst (λ (o : Opening). HasRoom o t.way) (sym stepped.opening) (subst (λ (w : Way). HasRoom s.opening w) (sym stepped.way) room)

    -- where the reply has ended, the status was put
    pub made_put : t.ended ≡ true → length bytes < length now
    made_put ended =
        let some : 0 < length made.step.put = made.is.put (sym stepped.ended ∙ ended) in
        omega (arith, ap length stepped.put, length-append bytes made.step.put, some)

-- what is known of a result, in its one case
pub on_err_gives : {T E P : Type 0} (r : Result T E) (e : E) → r ≡ Err e → OnErr r P → P
on_err_gives {P = P} r e is h = subst (λ (q : Result _ _). OnErr q P) is h

-- the counts where memory was refused
pub err_counts : {c d e now was next : Counts} → (c ≡ d) ⊎ (c ≡ e) → now ≡ c → d ≡ was → e ≡ next → (now ≡ was) ⊎ (now ≡ next)
err_counts (inl same) is first second = inl (is ∙ same ∙ first)
err_counts (inr other) is first second = inr (is ∙ other ∙ second)
