-- A session: its source of frames, what waits of them and what was taken, and what it heard.
use Rattle.std.specs.Prelude.{◌≡◌, ◌≢◌, ◌↔◌, ◌⊎◌, ℕ, ◌+◌, ◌-◌, ◌^◌, ◌<◌, ◌≤◌, ◌&&◌, nat_le, true, false, List, [], ◌∷◌, ◌++◌, length, take, min, Option, Some, None, if◌then◌else◌}
use Rattle.std.specs.List.{fold, flat_map}
use Rattle.std.specs.Option.{ForSome}
use Rattle.hb_edge.specs.Causes.{Rose}
use Rattle.hb_edge.specs.Link.{Call, Read, Write}
use Rattle.hb_edge.specs.declared.link.Moved.{Moved}
use Rattle.hb_edge.specs.declared.link.Moved.TheVariants as moves
use Rattle.hb_look.specs.Looks.{LookMade}
use Rattle.hb_session.specs.declared.counts.Counts.{Counts}
use Rattle.hb_session.specs.declared.turn.Turn.{Turn}
use Rattle.hb_session.specs.declared.turn.Turn.TheVariants as turns
use Rattle.hb_session.specs.Openings.{Opening}
use Rattle.hb_session.specs.Replies.{has_ended, owed, spelled, AreMade}
use Rattle.hb_session.specs.Stands.{Source, SourceStandsFor, counts_of, counted, left, HasRoom}
use Rattle.hb_session.specs.Clients.{Heard, IsStopped}

-- what a session has: its source, the bytes that wait to be taken, how many were taken, the
-- greatest moment that it was told, what it heard last, and the answer that it has ended with
pub record Session : Type 0 where
  pub source : Source
  pub waiting : List ℕ
  pub sent : ℕ
  pub moment : ℕ
  pub heard : Heard
  pub answer : Option Turn

-- Bytes are the first of what is owed: a count that stands at its greatest value says no more
-- than that.
abbrev pub IsSent : ℕ → List ℕ → List ℕ → Type 0
IsSent sent taken owed = (sent ≡ min (length taken) (2 ^ 64 - 1))
    × (take (length taken) owed ≡ taken)

-- The counts are those of looks, or of all but the last one, whose record could not be read for
-- want of memory.
abbrev pub AreCounted : Opening → List LookMade → Counts → Type 0
AreCounted o looks counts = (counts ≡ counted o looks)
    ⊎ ((before : List LookMade) × (last : LookMade) × (looks ≡ before ++ last ∷ [])
    × (counts ≡ counted o before))

-- what a session is to which memory was not refused: its source stands for the looks, and what
-- waits is the rest of what is owed
abbrev pub IsGoing : Session → List LookMade → List ℕ → Type 0
IsGoing s looks taken = SourceStandsFor s.source looks
    × (taken ++ s.waiting ≡ spelled (owed s.source.opening looks))

-- A session stands for the looks that were made for it, of which these bytes were taken: each
-- look is where those before it lead to, and the bytes are the first of what is owed. Where
-- memory was not refused, what waits is the rest of it.
pub record SessionStandsFor (s : Session) (looks : List LookMade) (taken : List ℕ) : Type 0 where
  pub made : AreMade s.source.opening looks
  pub sent : IsSent s.sent taken (spelled (owed s.source.opening looks))
  pub counts : AreCounted s.source.opening looks (counts_of s.source)
  pub going : s.answer ≢ Some turns.NoMemory → IsGoing s looks taken

-- the bytes that were taken of what waited, where nothing was added to it
abbrev pub gained : Session → Session → List ℕ
gained old new = take (length old.waiting - length new.waiting) old.waiting

-- the bytes that a turn read of the client: none where the session had ended
abbrev pub heard_by : Option Turn → List ℕ → List ℕ
heard_by None piece = piece
heard_by (Some answer) piece = []

-- Turns made a session out of another, with these looks more, and these bytes that were taken.
-- Where it does not follow, there are no more looks than positions were left.
pub record HaveTurned (old new : Session) (looks : List LookMade) (bytes : List ℕ) : Type 0 where
  pub opening : new.source.opening ≡ old.source.opening
  pub stands : (before : List LookMade) (taken : List ℕ) → SessionStandsFor old before taken
      → SessionStandsFor new (before ++ looks) (taken ++ bytes)
  pub most : old.source.opening.request.follow ≡ false → length looks ≤ left old.source
  pub fewer : old.source.opening.request.follow ≡ false → new.answer ≢ Some turns.NoMemory
      → left new.source + length looks ≤ left old.source

-- A turn came nearer to the end: fewer positions are left or, of as many, fewer bytes wait.
abbrev pub IsNearer : Session → Session → Type 0
IsNearer old new = ((left new.source < left old.source) × (length new.waiting < 2 ^ 64))
    ⊎ ((left new.source ≡ left old.source) × (length new.waiting < length old.waiting))

-- The reply has ended, and all of it was taken.
abbrev pub IsWhole : Opening → List LookMade → List ℕ → Type 0
IsWhole o looks taken = (has_ended o looks ≡ true) × (taken ≡ spelled (owed o looks))

-- Turns with these looks and bytes ended in Done exactly where the reply had ended and all of it
-- was taken, but for want of memory.
abbrev pub HasDone : Session → Turn → List LookMade → List ℕ → Type 0
HasDone old answer looks bytes = (before : List LookMade) (taken : List ℕ)
    → SessionStandsFor old before taken → old.answer ≡ None
    → answer ≢ turns.NoMemory
    → (answer ≡ turns.Done) ↔ IsWhole old.source.opening (before ++ looks) (taken ++ bytes)

-- A turn answers this where a link answered the write of what waited so: it is done where all of
-- it was taken and the reply has ended.
abbrev pub IsAnswerTo : Session → Moved → Turn → Type 0
IsAnswerTo s (moves.Took n) turn = turn ≡ (if s.source.ended && nat_le (length s.waiting) n
    then turns.Done else turns.More)
IsAnswerTo s moves.NotYet turn = turn ≡ turns.Idle
IsAnswerTo s moves.End turn = ⊥
IsAnswerTo s moves.Failed turn = turn ≡ turns.LinkFault

-- After what was heard, what waited was written to a link that tells, and its answer is the
-- turn's; or nothing was, where none waited or the turn went no further; but a write may have
-- failed for want of memory.
abbrev pub IsWrittenOf : {A : Type 0} → (A → Call → Moved) → (A → Call → A) → Session → Heard
    → Turn → A → A → ℕ → ℕ → Type 0
IsWrittenOf answer after s heard turn link new before refusals =
    ((new ≡ link) × ((s.waiting ≡ []) ⊎ (IsStopped heard turn ⊎ (turn ≡ turns.NoMemory))))
    ⊎ (((0 < length s.waiting) × (heard.last ≢ moves.Failed)
    × IsAnswerTo s (answer link (Write s.waiting)) turn × (new ≡ after link (Write s.waiting)))
    ⊎ ((turn ≡ turns.LinkFault) × Rose before refusals))

-- a call moved bytes, or was a read that gave none
abbrev pub HasPassed : Call → Moved → Type 0
HasPassed call (moves.Took n) = Unit {0}
HasPassed call moves.Failed = ⊥
HasPassed (Read room) moves.NotYet = Unit {0}
HasPassed (Write piece) moves.NotYet = ⊥
HasPassed (Read room) moves.End = Unit {0}
HasPassed (Write piece) moves.End = ⊥

-- so did each of some calls on a link, one after another
abbrev pub ArePassed : {A : Type 0} → (A → Call → Moved) → (A → Call → A) → A → List Call → Type 0
ArePassed answer after link [] = Unit {0}
ArePassed answer after link (call ∷ calls) = HasPassed call (answer link call)
    × ArePassed answer after (after link call) calls

-- a link is as such calls leave it
abbrev pub IsPassed : {A : Type 0} → (A → Call → Moved) → (A → Call → A) → A → A → Type 0
IsPassed answer after old new = (calls : List Call) × (new ≡ fold after old calls)
    × ArePassed answer after old calls

-- and it answered one more so
abbrev pub HasAnswered : {A : Type 0} → (A → Call → Moved) → (A → Call → A) → A → A → Call → Moved
    → Type 0
HasAnswered answer after old new last moved = (calls : List Call)
    × ArePassed answer after old calls × (new ≡ after (fold after old calls) last)
    × (answer (fold after old calls) last ≡ moved)

-- How turns end over a link: each call on it moved bytes, or was a read that gave none, up to one
-- that decides the answer.
abbrev pub EndsBy : {A : Type 0} → (A → Call → Moved) → (A → Call → A) → A → A → Turn → Type 0
EndsBy answer after old new turns.Idle =
    (piece : List ℕ) × HasAnswered answer after old new (Write piece) moves.NotYet
EndsBy answer after old new turns.LinkFault =
    (call : Call) × HasAnswered answer after old new call moves.Failed
EndsBy answer after old new turns.More = IsPassed answer after old new
EndsBy answer after old new turns.Done = IsPassed answer after old new
EndsBy answer after old new turns.Cancelled = IsPassed answer after old new
EndsBy answer after old new (turns.BadInput fault) = IsPassed answer after old new
EndsBy answer after old new turns.Spent = IsPassed answer after old new
EndsBy answer after old new turns.NoMemory = IsPassed answer after old new

-- the answer that a session has ended with, after a turn with this one
abbrev pub ended_by : Turn → Option Turn
ended_by turns.More = None
ended_by turns.Idle = None
ended_by turns.Done = Some turns.Done
ended_by turns.Cancelled = Some turns.Cancelled
ended_by (turns.BadInput fault) = Some (turns.BadInput fault)
ended_by turns.LinkFault = Some turns.LinkFault
ended_by turns.Spent = Some turns.Spent
ended_by turns.NoMemory = Some turns.NoMemory

-- a session has ended with no answer, or with one that ends it
abbrev pub IsEnding : Option Turn → Type 0
IsEnding answer = ForSome answer (λ turn. ended_by turn ≡ Some turn)

-- while a reply goes on, its source has a position to look at; once it has ended, bytes wait
abbrev pub IsReady : Source → List ℕ → Type 0
IsReady source waiting = (source.ended ≡ false → HasRoom source.opening source.way)
    × (source.ended ≡ true → 0 < length waiting)

-- a turn that was made: its looks, and the bytes that the link took
pub record TurnMade : Type 0 where
  pub looks : List LookMade
  pub bytes : List ℕ

-- it made a look, or handed on a byte
abbrev pub HasGoneOn : TurnMade → Type 0
HasGoneOn turn = 0 < length turn.bytes + length turn.looks

abbrev pub all_looks : List TurnMade → List LookMade
all_looks turns = flat_map (λ turn. turn.looks) turns

abbrev pub all_bytes : List TurnMade → List ℕ
all_bytes turns = flat_map (λ turn. turn.bytes) turns
