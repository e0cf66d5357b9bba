-- What a reader gave, and what its next answer says of the file.
use Rattle.std.proofs.Common.{◌≡◌, ◌≢◌, ◌↔◌, inl, inr, ℕ, ◌-◌, ◌<◌, List, [], ◌∷◌, ◌++◌, length, map, refl, sym, ap, subst, ◌∙◌, arith, length-append}
use Rattle.std.specs.List.{flat_map, AllByRecursion}
use Rattle.std.proofs.lemmas.List.{append-nil, map-append, length-map}
use Rattle.std.proofs.lemmas.List.Elements.{filter_map-append}
use Rattle.hb_flow.specs.Messages.{read_response}
use Rattle.hb_flow.specs.declared.response.GetFlowsResponse.{GetFlowsResponse}
use Rattle.hb_frame.specs.Frames.{Frame, IsFrame, frame_bytes, message_frame, message_in, messages}
use Rattle.hb_frame.specs.Cut.{StartsFrame, StartsNoFrame}
use Rattle.hb_frame.proofs.Cuts.{Stops, frame_once, frames_after}
use Rattle.hb_recording.specs.declared.reader.Next.{Next}
use Rattle.hb_recording.specs.declared.reader.Next.TheVariants.{Response, End, Bad, NoMemory}
use Rattle.hb_recording.specs.Recording.{TakesFrames, Recorded, IsBadAfter}
use Rattle.hb_recording.specs.Reading.{Reading, HasGiven, ReadsMessage, IsFurther, given_by}
use Rattle.hb_recording.proofs.Once.{SoundFrame, sound_frames, takes_more, takes_all, all_recorded, bad_stops, end_stops, place_once, recorded_not_bad}
use Rattle.hb_recording.proofs.Fronts.{frame_size, other_frame, same_messages, place_of}

-- ---- what was given is all, or not

-- Sound frames that begin a file are the first of those up to where no sound frame comes any more.
are_first : (fs gs : List Frame) (x y : List ℕ) → AllByRecursion IsFrame fs → AllByRecursion IsFrame gs → AllByRecursion SoundFrame fs
    → flat_map frame_bytes fs ++ x ≡ flat_map frame_bytes gs ++ y → Stops SoundFrame y → (more : List Frame) × (gs ≡ fs ++ more)
are_first [] gs x y p q sound e stops = (gs, refl)
are_first (f ∷ fs) [] x y p q sound e stops =
    absurd (stops f (flat_map frame_bytes fs ++ x) (record { fits = p.0; whole = sym e ∙ frames_after f fs x }) sound.0)
are_first (f ∷ fs) (g ∷ gs) x y p q sound e stops =
    let first = frame_once f g (flat_map frame_bytes fs ++ x) (flat_map frame_bytes gs ++ y) p.0 q.0 (sym (frames_after f fs x) ∙ e ∙ frames_after g gs y) in
    let others = are_first fs gs x y p.1 q.1 sound.1 first.1 stops in
    (others.0, ap (λ (h : Frame). h ∷ gs) (sym first.0) ∙ ap (λ (hs : List Frame). f ∷ hs) others.1)

-- so where a further response was given, those before it were not all
no_more : (file rest : List ℕ) (frames : List Frame) (reading : Reading) (given : List GetFlowsResponse) (response : GetFlowsResponse)
    → reading.file ≡ file → HasGiven reading (given ++ response ∷ []) → TakesFrames file frames rest → given ≡ map read_response (messages frames)
    → Stops SoundFrame rest → ⊥
no_more file rest frames reading given response same has before read stops =
    let taken : TakesFrames file has.frames reading.rest = subst (λ (f : List ℕ). TakesFrames f has.frames reading.rest) same has.before in
    let first = are_first has.frames frames reading.rest rest taken.starts.fit before.starts.fit (sound_frames has.frames taken.sound)
    (sym taken.starts.whole ∙ before.starts.whole) stops in
    let all : messages frames ≡ messages has.frames ++ messages first.0 = ap messages first.1 ∙ filter_map-append message_in has.frames first.0 in
    omega (
      arith,
      ap length has.read,
      ap length read,
      ap length all,
      length-append (messages has.frames) (messages first.0),
      length-append given (response ∷ []),
      length-map (messages has.frames) read_response,
      length-map (messages frames) read_response,
    )

-- ---- what an answer says

-- what an answer says of the file, where the reader gave these responses before, and the caller's is this then
abbrev pub Says : Reading → List GetFlowsResponse → GetFlowsResponse → Next → Type 0
Says new given response Response = HasGiven new (given ++ response ∷ [])
Says new given response End = Recorded new.file given
Says new given response (Bad at) = IsBadAfter new.file given at
Says new given response NoMemory = Unit {0}

is_end : (file : List ℕ) (new : Reading) (given : List GetFlowsResponse) (response : GetFlowsResponse) (answer : Next)
    → new.file ≡ file → Says new given response answer → answer ≢ NoMemory → Recorded file given → answer ≡ End
is_end file new given response Response same says no_want recorded =
    absurd (no_more file [] recorded.frames new given response same says (takes_all file given recorded) recorded.read end_stops)
is_end file new given response End same says no_want recorded = refl
is_end file new given response (Bad at) same says no_want recorded =
    absurd (recorded_not_bad file given at recorded (given, subst (λ (f : List ℕ). IsBadAfter f given at) same says))
is_end file new given response NoMemory same says no_want recorded = absurd (no_want refl)

says_end : (file : List ℕ) (new : Reading) (given : List GetFlowsResponse) (response : GetFlowsResponse) (answer : Next)
    → new.file ≡ file → Says new given response answer → answer ≡ End → Recorded file given
says_end file new given response answer same says is = subst (λ (f : List ℕ). Recorded f given) same (subst (Says new given response) is says)

pub end_exact : (file : List ℕ) (new : Reading) (given : List GetFlowsResponse) (response : GetFlowsResponse) (answer : Next)
    → new.file ≡ file → Says new given response answer → answer ≢ NoMemory → (answer ≡ End) ↔ Recorded file given
end_exact file new given response answer same says no_want = (says_end file new given response answer same says, is_end file new given response answer same says no_want)

is_bad : (file : List ℕ) (new : Reading) (given : List GetFlowsResponse) (at : ℕ) (response : GetFlowsResponse) (answer : Next)
    → new.file ≡ file → Says new given response answer → answer ≢ NoMemory → IsBadAfter file given at → answer ≡ Bad at
is_bad file new given at response Response same says no_want bad =
    absurd (no_more file bad.rest bad.frames new given response same says bad.before bad.read (bad_stops bad.rest bad.bad))
is_bad file new given at response End same says no_want bad =
    absurd (recorded_not_bad file given at (subst (λ (f : List ℕ). Recorded f given) same says) (given, bad))
is_bad file new given at response (Bad there) same says no_want bad =
    ap Bad (place_once file there at (given, subst (λ (f : List ℕ). IsBadAfter f given there) same says) (given, bad))
is_bad file new given at response NoMemory same says no_want bad = absurd (no_want refl)

says_bad : (file : List ℕ) (new : Reading) (given : List GetFlowsResponse) (at : ℕ) (response : GetFlowsResponse) (answer : Next)
    → new.file ≡ file → Says new given response answer → answer ≡ Bad at → IsBadAfter file given at
says_bad file new given at response answer same says is = subst (λ (f : List ℕ). IsBadAfter f given at) same (subst (Says new given response) is says)

pub bad_exact : (file : List ℕ) (new : Reading) (given : List GetFlowsResponse) (at : ℕ) (response : GetFlowsResponse) (answer : Next)
    → new.file ≡ file → Says new given response answer → answer ≢ NoMemory → (answer ≡ Bad at) ↔ IsBadAfter file given at
bad_exact file new given at response answer same says no_want = (says_bad file new given at response answer same says, is_bad file new given at response answer same says no_want)

-- ---- what a reader gave

-- at the start nothing
pub given_none : (file : List ℕ) → HasGiven (record { file = file; rest = file }) []
given_none file = record {
  frames = [];
  before = record { starts = record { fit = tt; whole = refl }; sound = tt };
  read = refl;
}

-- a frame of another kind adds nothing
pub given_past : (old : Reading) (body after : List ℕ) (kind : ℕ) (given : List GetFlowsResponse) → HasGiven old given
    → StartsFrame old.rest (record { kind = kind; body = body }) after → (kind ≡ 0 → ⊥) → HasGiven (record old { rest = after }) given
given_past old body after kind given has next other = record {
  frames = has.frames ++ record { kind = kind; body = body } ∷ [];
  before = takes_more old.file old.rest after (record { kind = kind; body = body }) has.frames has.before next (other_frame kind body other);
  read = has.read ∙ ap (map read_response) (sym (same_messages has.frames kind body other));
}

-- a sound message adds its response
given_more : (old : Reading) (message after : List ℕ) (given : List GetFlowsResponse) (response : GetFlowsResponse) → HasGiven old given
    → StartsFrame old.rest (message_frame message) after → SoundFrame (message_frame message) → response ≡ read_response message
    → HasGiven (record old { rest = after }) (given ++ response ∷ [])
given_more old message after given response has next sound is =
    let more : messages (has.frames ++ message_frame message ∷ []) ≡ messages has.frames ++ message ∷ [] =
    filter_map-append message_in has.frames (message_frame message ∷ []) in record {
      frames = has.frames ++ message_frame message ∷ [];
      before = takes_more old.file old.rest after (message_frame message) has.frames has.before next sound;
      read = ap (λ (rs : List GetFlowsResponse). rs ++ response ∷ []) has.read
          ∙ ap (λ (r : GetFlowsResponse). map read_response (messages has.frames) ++ r ∷ []) is
          ∙ sym (ap (map read_response) more ∙ map-append read_response (messages has.frames) (message ∷ []));
    }

-- at the end of the file all was given
pub says_all : (reading : Reading) (given : List GetFlowsResponse) (response : GetFlowsResponse) → HasGiven reading given → length reading.rest ≡ 0
    → Says reading given response End
says_all reading given response has none = subst (Recorded reading.file) (sym has.read) (all_recorded reading.file reading.rest has.frames has.before none)

-- where the rest begins with no frame it is bad
pub says_no_frame : (reading : Reading) (given : List GetFlowsResponse) (at : ℕ) (response : GetFlowsResponse) → HasGiven reading given
    → 0 < length reading.rest → StartsNoFrame reading.rest → at ≡ length reading.file - length reading.rest → Says reading given response (Bad at)
says_no_frame reading given at response has some none is = record {
  frames = has.frames;
  rest = reading.rest;
  before = has.before;
  read = has.read;
  place = place_of reading.file reading.rest at has.frames has.before is;
  bad = inl (some, none);
}

-- what came of a message says so
pub says_message : (old new : Reading) (message after : List ℕ) (given : List GetFlowsResponse) (response : GetFlowsResponse) (answer : Next) → HasGiven old given
    → StartsFrame old.rest (message_frame message) after → ReadsMessage message after old new response answer → Says new given response answer
says_message old new message after given response Response has next came =
    subst (λ (r : Reading). HasGiven r (given ++ response ∷ [])) (sym came.2) (given_more old message after given response has next came.0 came.1)
says_message old new message after given response End has next came = absurd came
says_message old new message after given response (Bad at) has next came =
    subst (λ (r : Reading). IsBadAfter r.file given at) (sym came.2) (record {
      frames = has.frames;
      rest = old.rest;
      before = has.before;
      read = has.read;
      place = place_of old.file old.rest at has.frames has.before came.1;
      bad = inr (message, after, next, came.0);
    })
says_message old new message after given response NoMemory has next came = tt

pub stands_message : (old new : Reading) (message after : List ℕ) (given : List GetFlowsResponse) (response : GetFlowsResponse) (answer : Next) → HasGiven old given
    → StartsFrame old.rest (message_frame message) after → ReadsMessage message after old new response answer → HasGiven new (given ++ given_by answer response)
stands_message old new message after given response Response has next came = says_message old new message after given response Response has next came
stands_message old new message after given response End has next came = absurd came
stands_message old new message after given response (Bad at) has next came = subst (HasGiven new) (sym (append-nil given)) (subst (λ (r : Reading). HasGiven r given) (sym came.2) has)
stands_message old new message after given response NoMemory has next came = subst (HasGiven new) (sym (append-nil given)) (subst (λ (r : Reading). HasGiven r given) (sym came) has)

-- and takes the bytes of its frame
pub further_message : (old new : Reading) (message after : List ℕ) (response : GetFlowsResponse) (answer : Next) → StartsFrame old.rest (message_frame message) after
    → ReadsMessage message after old new response answer → IsFurther old new (given_by answer response)
further_message old new message after response Response next came =
    omega (arith, frame_size old.rest message after 0 next, ap (λ (r : Reading). length r.rest) came.2)
further_message old new message after response End next came = absurd came
further_message old new message after response (Bad at) next came = omega (arith, ap (λ (r : Reading). length r.rest) came.2)
further_message old new message after response NoMemory next came = omega (arith, ap (λ (r : Reading). length r.rest) came)

pub file_message : (old new : Reading) (message after : List ℕ) (response : GetFlowsResponse) (answer : Next)
    → ReadsMessage message after old new response answer → new.file ≡ old.file
file_message old new message after response Response came = ap (λ (r : Reading). r.file) came.2
file_message old new message after response End came = absurd came
file_message old new message after response (Bad at) came = ap (λ (r : Reading). r.file) came.2
file_message old new message after response NoMemory came = ap (λ (r : Reading). r.file) came
