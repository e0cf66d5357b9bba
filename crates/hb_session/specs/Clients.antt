-- What a session hears of its client, and what it ends with for that.
use Rattle.std.specs.Prelude.{◌≡◌, ◌≢◌, ◌↔◌, ◌⊎◌, ℕ, ◌<◌, ◌≤◌, Bool, true, false, List, [], ◌++◌, length, Option, Some, None}
use Rattle.hb_edge.specs.Causes.{Rose}
use Rattle.hb_edge.specs.declared.link.Moved.{Moved}
use Rattle.hb_edge.specs.declared.link.Moved.TheVariants.{Took, NotYet, End, Failed}
use Rattle.hb_edge.specs.Link.{Call, Read, Held, Shown, IsDry}
use Rattle.hb_frame.specs.Frames.{Frame as WholeFrame}
use Rattle.hb_frame.specs.Reader.{Reader, Answers, GoesOn, HasRead}
use Rattle.hb_frame.specs.declared.reader.Next.{Next}
use Rattle.hb_frame.specs.declared.reader.Next.TheVariants as next
use Rattle.hb_session.specs.declared.turn.InputFault.{InputFault}
use Rattle.hb_session.specs.declared.turn.InputFault.TheVariants as faults
use Rattle.hb_session.specs.declared.turn.Turn.{Turn}
use Rattle.hb_session.specs.declared.turn.Turn.TheVariants as turns

-- what the last read answered, and the bytes that it gave
pub record Heard : Type 0 where
  pub last : Moved
  pub piece : List ℕ

-- before the first read
abbrev pub unheard : Heard
unheard = record { last = NotYet; piece = [] }

-- the most bytes of one read
abbrev pub longest_piece : ℕ
longest_piece = 4096

-- these are the bytes of a read that answered this
abbrev pub IsPiece : Moved → List ℕ → Type 0
IsPiece (Took n) piece = (0 < n) × (n ≤ longest_piece) × (length piece ≡ n)
IsPiece NotYet piece = piece ≡ []
IsPiece End piece = piece ≡ []
IsPiece Failed piece = piece ≡ []

-- What a turn heard over a link that showed this before it, and that after it: one read or, once
-- the end was read, nothing more.
pub record HasHeard (old new : Heard) (before after : Shown) : Type 0 where
  pub ended : old.last ≡ End → new ≡ old
  pub piece : IsPiece new.last new.piece
  pub waits : new.last ≡ NotYet → Rose before.read_waits after.read_waits
  pub faults : new.last ≡ Failed → Rose before.faults after.faults

-- What was heard is what a link that tells answers to a read.
pub record IsHeardOf {A : Type 0} (answer : A → Call → Moved) (link : A) (h : Held)
    (old new : Heard) : Type 0 where
  pub answered : old.last ≢ End → new.last ≡ answer link (Read longest_piece)
  pub dry : old.last ≢ End → IsDry h new.last

-- a link after what was heard of it: a read was made unless the end had been read
abbrev pub heard_of : {A : Type 0} → (A → Call → A) → Moved → A → A
heard_of after (Took n) link = after link (Read longest_piece)
heard_of after NotYet link = after link (Read longest_piece)
heard_of after End link = link
heard_of after Failed link = after link (Read longest_piece)

-- ---- what the client sent

-- a frame reader that was fed more
abbrev pub fed : Reader → List ℕ → Reader
fed input piece = record input { held = input.held ++ piece }

-- the kind of a frame by which the client ends the call
abbrev pub cancel : ℕ
cancel = 3

-- What a frame reader holds is this fault of the client: a frame that has no place in a reply, or
-- none at all; and where its bytes have ended, the front of a frame.
abbrev pub IsFault : Reader → Moved → InputFault → Type 0
IsFault input last (faults.BadKind at kind) = Answers input (next.BadKind at kind)
IsFault input last (faults.TooLong at size) = Answers input (next.TooLong at size)
IsFault input last (faults.NotCall at) = ⊥
IsFault input last (faults.NotMessage at) = ⊥
IsFault input last (faults.Cut at) = (last ≡ End) × (at ≡ input.place)
    × (0 < length input.held) × Answers input next.NeedMore
IsFault input last (faults.Extra at) = (kind : ℕ) × (size : ℕ) × (kind ≢ cancel)
    × Answers input (next.Frame kind at size)

-- What it holds ends a session with this answer.
abbrev pub Stops : Reader → Moved → Turn → Type 0
Stops input last turns.Cancelled = (size : ℕ) × Answers input (next.Frame cancel input.place size)
Stops input last (turns.BadInput fault) = IsFault input last fault
Stops input last turns.More = ⊥
Stops input last turns.Idle = ⊥
Stops input last turns.Done = ⊥
Stops input last turns.LinkFault = ⊥
Stops input last turns.Spent = ⊥
Stops input last turns.NoMemory = ⊥

-- an answer that a session ends with for what its client sent
abbrev pub is_for_client : Turn → Bool
is_for_client turns.Cancelled = true
is_for_client (turns.BadInput fault) = true
is_for_client turns.More = false
is_for_client turns.Idle = false
is_for_client turns.Done = false
is_for_client turns.LinkFault = false
is_for_client turns.Spent = false
is_for_client turns.NoMemory = false

-- a frame reader was fed a piece, and gave nothing
abbrev pub IsFed : Reader → Reader → List ℕ → Type 0
IsFed old new piece = (new.held ≡ old.held ++ piece) × (new.place ≡ old.place)

-- a frame reader answered once what comes next
abbrev pub HasAnswered : Reader → Reader → Type 0
HasAnswered old new = (given : Next) × Answers old given × GoesOn old new given

-- What turns that ended in this answer leave of a frame reader: it was fed the piece, or at want
-- of memory a front of it, and for an answer for the client it gave what comes next, once.
pub record IsInputAfter (old new : Reader) (piece : List ℕ) (answer : Turn) : Type 0 where
  pub holds : is_for_client answer ≡ false → (front : List ℕ) × (rest : List ℕ)
      × (piece ≡ front ++ rest) × IsFed old new front × (answer ≢ turns.NoMemory → rest ≡ [])
  pub gave : is_for_client answer ≡ true → HasAnswered (fed old piece) new
  pub reads : answer ≢ turns.NoMemory → (bytes : List ℕ) → (given : List WholeFrame)
      → HasRead old bytes given
      → (more : List WholeFrame) × HasRead new (bytes ++ piece) (given ++ more)

-- the same where it may go on
abbrev pub IsInputFor : Reader → Reader → List ℕ → Option Turn → Type 0
IsInputFor old new piece None = IsFed old new piece
IsInputFor old new piece (Some answer) = IsInputAfter old new piece answer

-- A session ends with this for what was heard of its client, or goes on.
pub record IsEndedFor (input : Reader) (heard : Heard) (result : Option Turn) : Type 0 where
  pub fault : (result ≡ Some turns.LinkFault) ↔ (heard.last ≡ Failed)
  pub stops : result ≢ Some turns.NoMemory → heard.last ≢ Failed → (answer : Turn)
      → (result ≡ Some answer) ↔ Stops (fed input heard.piece) heard.last answer

-- a turn went no further than its read
abbrev pub IsStopped : Heard → Turn → Type 0
IsStopped heard answer = (heard.last ≡ Failed) ⊎ (is_for_client answer ≡ true)

-- Turns that heard this piece, the last read answering so, ended with an answer for the client
-- exactly where its bytes ask for that one; but where a read failed, or for want of memory.
abbrev pub IsStoppedBy : Reader → List ℕ → Moved → Turn → Type 0
IsStoppedBy input piece last answer = answer ≢ turns.NoMemory → last ≢ Failed → (turn : Turn)
    → is_for_client turn ≡ true → (answer ≡ turn) ↔ Stops (fed input piece) last turn
