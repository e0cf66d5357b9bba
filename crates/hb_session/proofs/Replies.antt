-- What the definitions of a reply say of one more look, of each reading, and of frames.
use Rattle.std.proofs.Common.{◌≡◌, ℕ, false, List, [], ◌∷◌, ◌++◌, refl, sym, append_assoc, subst, ◌+◌, true, Bool, cond, ap, ◌∙◌, not, Option, Some, None}
use Rattle.std.specs.Option.{is_none, option_map_or}
use Rattle.std.proofs.lemmas.List.{append-nil, map-append}
use Rattle.hb_look.specs.Looks.{LookMade, after, reach}
use Rattle.hb_session.specs.declared.span.Span.{Span}
use Rattle.hb_session.specs.declared.counts.Counts.{Counts}
use Rattle.hb_session.specs.Openings.{Opening, Reading, Backwards, Forwards, top, is_backward, forward_start, forward_end, readings_behind, readings}
use Rattle.hb_session.specs.Replies.{given_by, is_over, place_in, parted, shared, reply_by, Going, going_by, going, has_ended, place, AreMadeAfter, reply, event_frame, event_frames, status_frame, owed, spelled}
use Rattle.hb_session.specs.Marks.{size_of, marks, is_through, Part, Record, Mark, parts_of, closed}
use Rattle.hb_session.specs.Forward.{forward, sums, given_of}
use Rattle.hb_session.specs.Backward.{backward_has_ended}
use Rattle.hb_session.specs.Steps.{bytes_of}
use Rattle.hb_session.specs.Stands.{counted_by}
use Rattle.hb_session.proofs.Bools.{when_false, when_true, same_both}
use Rattle.hb_session.proofs.Windows.{upto_none}
use Rattle.std.proofs.lemmas.Grind.{flat_map-append}
use Rattle.hb_frame.specs.Frames.{Frame, frame_bytes}
use Rattle.hb_flow.specs.declared.event.Event.{Event}
use Rattle.std.specs.List.{count_by, flat_map}
use Rattle.std.proofs.lemmas.List.Sums.{sum_by-append}
use Rattle.hb_session.specs.Events.{is_flow, flows}

-- ---- looks that are made one after another

-- looks with one more
abbrev pub plus : List LookMade → LookMade → List LookMade
plus looks look = looks ++ look ∷ []

-- the reach of a run is the place after its last look
pub reach_more : (start : ℕ) (looks : List LookMade) (look : LookMade) → reach start (looks ++ look ∷ []) ≡ after look
reach_more start [] look = refl
reach_more start (first ∷ looks) look = reach_more (after first) looks look

-- looks that are made after others are made with them
pub made_both : (o : Opening) (before looks more : List LookMade) → AreMadeAfter o before looks → AreMadeAfter o (before ++ looks) more → AreMadeAfter o before (looks ++ more)
made_both o before [] more made after = subst (λ (ls : List LookMade). AreMadeAfter o ls more) (append-nil before) after
made_both o before (look ∷ looks) more made after = (
  made.0,
  made.1,
  made_both o (before ++ look ∷ []) looks more made.2
      (subst (λ (ls : List LookMade). AreMadeAfter o ls more) (sym (append_assoc before (look ∷ []) looks)) after),
)

-- and the other way
pub made_rest : (o : Opening) (before looks more : List LookMade) → AreMadeAfter o before (looks ++ more) → AreMadeAfter o (before ++ looks) more
made_rest o before [] more made = subst (λ (ls : List LookMade). AreMadeAfter o ls more) (sym (append-nil before)) made
made_rest o before (look ∷ looks) more made =
    subst (λ (ls : List LookMade). AreMadeAfter o ls more) (append_assoc before (look ∷ []) looks) (made_rest o (before ++ look ∷ []) looks more made.2)

-- ---- looks in two

-- one look more is among the first ones, where these had not come to their end, or else among the others
abbrev PartsMore : (List LookMade → Bool) → LookMade → List LookMade × List LookMade → List LookMade × List LookMade → Type 0
PartsMore ended look parts new = new ≡ cond (ended parts.0) (parts.0, plus parts.1 look) (plus parts.0 look, [])

more_by : (ended : List LookMade → Bool) (own looks : List LookMade) (first look : LookMade) (b : Bool) → ended own ≡ b
    → PartsMore ended look (parted ended (plus own first) looks) (parted ended (plus own first) (plus looks look))
    → PartsMore ended look (cond b (own, first ∷ looks) (parted ended (plus own first) looks)) (cond b (own, first ∷ plus looks look) (parted ended (plus own first) (plus looks look)))
more_by ended own looks first look true is rest = sym (when_true (ended own) _ _ is)
more_by ended own looks first look false is rest = rest

pub parted_more : (ended : List LookMade → Bool) (own looks : List LookMade) (look : LookMade) → PartsMore ended look (parted ended own looks) (parted ended own (plus looks look))
parted_more ended own [] look = refl
parted_more ended own (first ∷ looks) look = more_by ended own looks first look (ended own) refl (parted_more ended (plus own first) looks look)

-- and before that end no others are left
none_by : (ended : List LookMade → Bool) (own looks : List LookMade) (first : LookMade) (b : Bool) → ended own ≡ b
    → (ended (parted ended (plus own first) looks).0 ≡ false → (parted ended (plus own first) looks).1 ≡ [])
    → ended (cond b (own, first ∷ looks) (parted ended (plus own first) looks)).0 ≡ false → (cond b (own, first ∷ looks) (parted ended (plus own first) looks)).1 ≡ []
none_by ended own looks first true is rest not = absurd (let both : true ≡ false = sym is ∙ not in cc)
none_by ended own looks first false is rest not = rest not

pub none_left : (ended : List LookMade → Bool) (own looks : List LookMade) → ended (parted ended own looks).0 ≡ false → (parted ended own looks).1 ≡ []
none_left ended own [] not = refl
none_left ended own (first ∷ looks) not = none_by ended own looks first (ended own) refl (none_left ended (plus own first) looks) not

-- ---- nothing was looked at

pub nothing_marked : (span : Span) → marks span [] ≡ []
nothing_marked span = upto_none (size_of span)

pub nothing_forward : (o : Opening) (span : Span) → forward o span [] ≡ []
nothing_forward o span =
    ap (λ (ms : List Mark). flat_map (given_of o.request) (cond (is_through span []) (parts_of ms) (closed (parts_of ms)))) (nothing_marked span)
    ∙ ap (flat_map (given_of o.request)) (same_both {A = List Part} (is_through span []) [])

nothing_given : (o : Opening) (reading : Reading) → given_by o reading [] ≡ []
nothing_given o Backwards = same_both {A = List Event} (backward_has_ended o []) []
nothing_given o (Forwards span) = nothing_forward o span

pub nothing_by : (o : Opening) (rs : List Reading) → reply_by o rs [] ≡ []
nothing_by o [] = refl
nothing_by o (reading ∷ rs) =
    ap (λ (es : List Event). es ++ reply_by o rs []) (nothing_given o reading) ∙ nothing_by o rs

-- ---- the reading that goes on

-- what is read backwards is followed by what the opening says, and what is read forwards by nothing
abbrev pub ArePlanned : Opening → List Reading → Type 0
ArePlanned o [] = Unit {0}
ArePlanned o (Backwards ∷ rs) = (rs ≡ readings_behind o) × ArePlanned o rs
ArePlanned o (Forwards span ∷ rs) = rs ≡ []

behind_planned : (o : Opening) (b : Bool) → ArePlanned o (cond b (Forwards (record { start = top o; end = None }) ∷ []) [])
behind_planned o true = refl
behind_planned o false = tt

all_planned : (o : Opening) (b : Bool)
    → ArePlanned o (cond b (Backwards ∷ readings_behind o) (Forwards (record { start = forward_start o; end = forward_end o }) ∷ []))
all_planned o true = (refl, behind_planned o o.request.follow)
all_planned o false = refl

-- the sums where this reading goes on, and these are behind it
abbrev pub counts_in : Opening → Reading → List Reading → List LookMade → Counts
counts_in o Backwards behind own = counted_by o behind []
counts_in o (Forwards span) behind own = sums o.request (marks span own)

-- what a reading that goes on gives, after others and with one look more
pub record GoesOn (o : Opening) (rs : List Reading) (looks : List LookMade) (reading : Reading) (own : List LookMade) : Type 0 where
  pub not : is_over o reading own ≡ false
  pub behind : List Reading
  pub planned : ArePlanned o (reading ∷ behind)
  pub before : List Event
  pub reply : reply_by o rs looks ≡ before ++ given_by o reading own
  pub more : (look : LookMade) → reply_by o rs (plus looks look) ≡ before ++ given_by o reading (plus own look)
  pub next : (look : LookMade) → going_by o rs (plus looks look)
      ≡ cond (is_over o reading (plus own look)) (going_by o behind []) (Some (record { reading = reading; looks = plus own look }))
  pub counts : counted_by o rs looks ≡ counts_in o reading behind own
  pub counted : (look : LookMade) → counted_by o rs (plus looks look) ≡ counts_in o reading behind (plus own look)

pub some_same : {A : Type 0} {x y : A} → Some x ≡ Some y → x ≡ y
some_same is = cc

-- the first of them goes on
module _ (o : Opening) (reading : Reading) (rs : List Reading) (looks : List LookMade) (not : is_over o reading (shared o reading looks).0 ≡ false) where
  abbrev own : List LookMade
  own = (shared o reading looks).0

  shares_none : (shared o reading looks).1 ≡ []
  shares_none = none_left (is_over o reading) [] looks not

  shares_one : (look : LookMade) → shared o reading (plus looks look) ≡ (plus own look, [])
  shares_one look = parted_more (is_over o reading) [] looks look ∙ when_false (is_over o reading own) _ _ not

  reply_first : reply_by o (reading ∷ rs) looks ≡ [] ++ given_by o reading own
  reply_first =
      ap (λ (ls : List LookMade). given_by o reading own ++ reply_by o rs ls) shares_none
      ∙ ap (λ (es : List Event). given_by o reading own ++ es) (nothing_by o rs) ∙ append-nil (given_by o reading own)

  more_first : (look : LookMade) → reply_by o (reading ∷ rs) (plus looks look) ≡ [] ++ given_by o reading (plus own look)
  more_first look =
      ap (λ (s : List LookMade × List LookMade). given_by o reading s.0 ++ reply_by o rs s.1) (shares_one look)
      ∙ ap (λ (es : List Event). given_by o reading (plus own look) ++ es) (nothing_by o rs) ∙ append-nil (given_by o reading (plus own look))

  next_first : (look : LookMade) → going_by o (reading ∷ rs) (plus looks look)
      ≡ cond (is_over o reading (plus own look)) (going_by o rs []) (Some (record { reading = reading; looks = plus own look }))
  next_first look =
      ap (λ (s : List LookMade × List LookMade). cond (is_over o reading s.0) (going_by o rs s.1) (Some (record { reading = reading; looks = s.0 }))) (shares_one look)

-- or it has ended
module _ (o : Opening) (reading : Reading) (rs : List Reading) (looks : List LookMade) (over : is_over o reading (shared o reading looks).0 ≡ true) where
  abbrev first : List LookMade
  first = (shared o reading looks).0

  abbrev left : List LookMade
  left = (shared o reading looks).1

  shares_more : (look : LookMade) → shared o reading (plus looks look) ≡ (first, plus left look)
  shares_more look = parted_more (is_over o reading) [] looks look ∙ when_true (is_over o reading first) _ _ over

  reply_rest : (before given : List Event) → reply_by o rs left ≡ before ++ given → reply_by o (reading ∷ rs) looks ≡ (given_by o reading first ++ before) ++ given
  reply_rest before given is = ap (λ (es : List Event). given_by o reading first ++ es) is ∙ sym (append_assoc (given_by o reading first) before given)

  more_rest : (look : LookMade) (before given : List Event) → reply_by o rs (plus left look) ≡ before ++ given
      → reply_by o (reading ∷ rs) (plus looks look) ≡ (given_by o reading first ++ before) ++ given
  more_rest look before given is =
      ap (λ (s : List LookMade × List LookMade). given_by o reading s.0 ++ reply_by o rs s.1) (shares_more look)
      ∙ ap (λ (es : List Event). given_by o reading first ++ es) is ∙ sym (append_assoc (given_by o reading first) before given)

  next_rest : (look : LookMade) → going_by o (reading ∷ rs) (plus looks look) ≡ going_by o rs (plus left look)
  next_rest look =
      ap (λ (s : List LookMade × List LookMade). cond (is_over o reading s.0) (going_by o rs s.1) (Some (record { reading = reading; looks = s.0 }))) (shares_more look)
      ∙ when_true (is_over o reading first) _ _ over

backwards_by : (o : Opening) (rs : List Reading) (looks : List LookMade) (g : Going) (planned : ArePlanned o (Backwards ∷ rs)) (b : Bool)
    → (going_by o rs (shared o Backwards looks).1 ≡ Some g → GoesOn o rs (shared o Backwards looks).1 g.reading g.looks)
    → is_over o Backwards (shared o Backwards looks).0 ≡ b
    → cond b (going_by o rs (shared o Backwards looks).1) (Some (record { reading = Backwards; looks = (shared o Backwards looks).0 })) ≡ Some g
    → GoesOn o (Backwards ∷ rs) looks g.reading g.looks
backwards_by o rs looks g planned true rest over is =
    let on = rest is in record {
      not = on.not;
      behind = on.behind;
      planned = on.planned;
      before = given_by o Backwards (shared o Backwards looks).0 ++ on.before;
      reply = reply_rest o Backwards rs looks over on.before _ on.reply;
      more = λ look. more_rest o Backwards rs looks over look on.before _ (on.more look);
      next = λ look. next_rest o Backwards rs looks over look ∙ on.next look;
      counts = on.counts;
      counted = λ look. ap (λ (s : List LookMade × List LookMade). counted_by o rs s.1) (shares_more o Backwards rs looks over look) ∙ on.counted look;
    }
backwards_by o rs looks g planned false rest not is =
    let one : record { reading = Backwards; looks = (shared o Backwards looks).0 } ≡ g = some_same is in
    subst (λ (h : Going). GoesOn o (Backwards ∷ rs) looks h.reading h.looks) one (record {
      not = not;
      behind = rs;
      planned = planned;
      before = [];
      reply = reply_first o Backwards rs looks not;
      more = more_first o Backwards rs looks not;
      next = next_first o Backwards rs looks not;
      counts = ap (λ (ls : List LookMade). counted_by o rs ls) (shares_none o Backwards rs looks not);
      counted = λ look. ap (λ (s : List LookMade × List LookMade). counted_by o rs s.1) (shares_one o Backwards rs looks not look);
    })

forwards_by : (o : Opening) (span : Span) (rs : List Reading) (looks : List LookMade) (g : Going) (planned : ArePlanned o (Forwards span ∷ rs)) (b : Bool)
    → is_over o (Forwards span) (shared o (Forwards span) looks).0 ≡ b
    → cond b (going_by o rs (shared o (Forwards span) looks).1) (Some (record { reading = Forwards span; looks = (shared o (Forwards span) looks).0 })) ≡ Some g
    → GoesOn o (Forwards span ∷ rs) looks g.reading g.looks
forwards_by o span rs looks g planned true over is =
    let none : going_by o rs (shared o (Forwards span) looks).1 ≡ None = ap (λ (r : List Reading). going_by o r (shared o (Forwards span) looks).1) planned in
    absurd (let both : None ≡ Some g = sym none ∙ is in cc)
forwards_by o span rs looks g planned false not is =
    let one : record { reading = Forwards span; looks = (shared o (Forwards span) looks).0 } ≡ g = some_same is in
    subst (λ (h : Going). GoesOn o (Forwards span ∷ rs) looks h.reading h.looks) one (record {
      not = not;
      behind = rs;
      planned = planned;
      before = [];
      reply = reply_first o (Forwards span) rs looks not;
      more = more_first o (Forwards span) rs looks not;
      next = next_first o (Forwards span) rs looks not;
      counts = refl;
      counted = λ look. ap (λ (s : List LookMade × List LookMade). sums o.request (marks span s.0)) (shares_one o (Forwards span) rs looks not look);
    })

pub goes_on : (o : Opening) (rs : List Reading) (looks : List LookMade) (g : Going) → ArePlanned o rs → going_by o rs looks ≡ Some g → GoesOn o rs looks g.reading g.looks
goes_on o [] looks g planned is = absurd cc
goes_on o (Backwards ∷ rs) looks g planned is =
    backwards_by o rs looks g planned (is_over o Backwards (shared o Backwards looks).0) (goes_on o rs (shared o Backwards looks).1 g planned.1) refl is
goes_on o (Forwards span ∷ rs) looks g planned is = forwards_by o span rs looks g planned (is_over o (Forwards span) (shared o (Forwards span) looks).0) refl is

some_of : {A : Type 0} (x : Option A) → is_none x ≡ false → (a : A) × (x ≡ Some a)
some_of None not = absurd cc
some_of (Some a) not = (a, refl)

-- of a reply that has not ended one reading goes on
pub some_going : (o : Opening) (looks : List LookMade) → has_ended o looks ≡ false → (g : Going) × (going o looks ≡ Some g)
some_going o looks not = some_of (going o looks) not

pub goes_now : (o : Opening) (looks : List LookMade) (g : Going) → going o looks ≡ Some g → GoesOn o (readings o) looks g.reading g.looks
goes_now o looks g is = goes_on o (readings o) looks g (all_planned o (is_backward o.request)) is

pub place_now : (o : Opening) (looks : List LookMade) (g : Going) → going o looks ≡ Some g → place o looks ≡ place_in o g.reading g.looks
place_now o looks g is = ap (λ (x : Option Going). option_map_or (λ g. place_in o g.reading g.looks) x (top o)) is

-- ---- the bytes of frames

pub spelled_more : (fs gs : List Frame) → spelled (fs ++ gs) ≡ spelled fs ++ spelled gs
spelled_more fs gs = flat_map-append frame_bytes fs gs

pub frames_more : (name : List ℕ) (es fs : List Event) → event_frames name (es ++ fs) ≡ event_frames name es ++ event_frames name fs
frames_more name es fs = map-append (event_frame name) es fs

pub bytes_more : (o : Opening) (es fs : List Event) → bytes_of o (es ++ fs) ≡ bytes_of o es ++ bytes_of o fs
bytes_more o es fs = ap spelled (frames_more o.name es fs) ∙ spelled_more (event_frames o.name es) (event_frames o.name fs)

-- the frame of the status, where the reply has ended
abbrev pub status_if : Bool → List Frame
status_if ended = cond ended (status_frame ∷ []) []

pub spelled_if : (b : Bool) → cond b (spelled (status_frame ∷ [])) [] ≡ spelled (status_if b)
spelled_if true = refl
spelled_if false = refl

-- before its end a reply owes no status
pub owed_open : (o : Opening) (looks : List LookMade) → has_ended o looks ≡ false → owed o looks ≡ event_frames o.name (reply o looks)
owed_open o looks not =
    ap (λ (b : Bool). event_frames o.name (reply o looks) ++ status_if b) not ∙ append-nil (event_frames o.name (reply o looks))

-- frames that become owed where these events are given
abbrev pub more_owed : Opening → List LookMade → List Event → List Frame
more_owed o looks events = event_frames o.name events ++ status_if (has_ended o looks)

pub owed_more : (o : Opening) (looks new : List LookMade) (events : List Event) → has_ended o looks ≡ false → reply o new ≡ reply o looks ++ events
    → owed o new ≡ owed o looks ++ more_owed o new events
owed_more o looks new events not more =
    ap (λ (es : List Event). event_frames o.name es ++ status_if (has_ended o new)) more
    ∙ ap (λ (fs : List Frame). fs ++ status_if (has_ended o new)) (frames_more o.name (reply o looks) events)
    ∙ append_assoc (event_frames o.name (reply o looks)) (event_frames o.name events) (status_if (has_ended o new))
    ∙ ap (λ (fs : List Frame). fs ++ more_owed o new events) (sym (owed_open o looks not))

pub put_more : (o : Opening) (new : List LookMade) (events : List Event) (put : List ℕ) (ended : Bool) → put ≡ bytes_of o events → ended ≡ has_ended o new
    → put ++ cond ended (spelled (status_frame ∷ [])) [] ≡ spelled (more_owed o new events)
put_more o new events put ended is at_end =
    ap (λ (b : Bool). put ++ cond b (spelled (status_frame ∷ [])) []) at_end
    ∙ ap (λ (bytes : List ℕ). bytes ++ cond (has_ended o new) (spelled (status_frame ∷ [])) []) is
    ∙ ap (λ (bytes : List ℕ). bytes_of o events ++ bytes) (spelled_if (has_ended o new))
    ∙ sym (spelled_more (event_frames o.name events) (status_if (has_ended o new)))

-- ---- what is given and counted with more

pub count_more : {X : Type 0} (p : X → Bool) (xs ys : List X) → count_by p (xs ++ ys) ≡ count_by p xs + count_by p ys
count_more p xs ys = sum_by-append (λ x. cond (p x) 1 0) xs ys

pub flows_more : (es fs : List Event) → flows (es ++ fs) ≡ flows es + flows fs
flows_more es fs = count_more is_flow es fs

-- the events that a record gives, one or none
abbrev pub events_of : Opening → Option Event → List Event
events_of o event = given_of o.request (Record event)

-- what a reading is to give, and to say, with more looks of its own
pub record GivesMore (o : Opening) (reading : Reading) (own new : List LookMade) (put : List ℕ) (ended : Bool) : Type 0 where
  pub events : List Event
  pub more : given_by o reading new ≡ given_by o reading own ++ events
  pub bytes : put ≡ bytes_of o events
  pub at_end : ended ≡ is_over o reading new
