-- A frame reader: what it was fed, what it gave, and what it answers.
use Rattle.std.specs.Prelude.{◌≡◌, ℕ, ◌+◌, ◌-◌, ◌^◌, List, [], ◌∷◌, ◌++◌, length, min}
use Rattle.std.specs.List.{flat_map}
use Rattle.hb_frame.specs.Frames.{Frame as WholeFrame, frame, frame_bytes}
use Rattle.hb_frame.specs.Cut.{StartsFrame, StartsFrames, IsCut, IsUnfinished, HasBadKind, HasLongBody}
use Rattle.hb_frame.specs.declared.front.Front.{Front}
use Rattle.hb_frame.specs.declared.front.Front.TheVariants as fronts
use Rattle.hb_frame.specs.declared.reader.Next.{Next}
use Rattle.hb_frame.specs.declared.reader.Next.TheVariants.{Frame, NeedMore, BadKind, TooLong}

-- what begins bytes
abbrev pub Begins : List ℕ → Front → Type 0
Begins bytes (fronts.Frame kind body after) =
    StartsFrame bytes (record { kind = kind; body = body.now }) after.now
Begins bytes fronts.NeedMore = IsUnfinished bytes
Begins bytes (fronts.BadKind kind) = HasBadKind bytes kind
Begins bytes (fronts.TooLong size) = HasLongBody bytes size

-- The bytes that a reader was fed and has not given, their place in all bytes fed, the body of
-- the frame that it gave last, and how many bytes that it gave it still stores.
pub record Reader : Type 0 where
  pub held : List ℕ
  pub place : ℕ
  pub body : List ℕ
  pub kept : ℕ

-- a place is told up to 2^64 - 1
abbrev pub place_of : ℕ → ℕ
place_of place = min place (2 ^ 64 - 1)

-- The reader was fed these bytes, in whatever pieces, and gave these frames: they begin the
-- bytes, and it holds what comes after them.
pub record HasRead (reader : Reader) (fed : List ℕ) (given : List WholeFrame) : Type 0 where
  pub starts : StartsFrames fed given reader.held
  pub place : reader.place ≡ place_of (length (flat_map frame_bytes given))

-- what it answers
abbrev pub Answers : Reader → Next → Type 0
Answers reader (Frame kind at size) = (at ≡ reader.place) × (body : List ℕ) × (after : List ℕ)
    × StartsFrame reader.held (record { kind = kind; body = body }) after × (size ≡ length body)
Answers reader NeedMore = IsUnfinished reader.held
Answers reader (BadKind at kind) = (at ≡ reader.place) × HasBadKind reader.held kind
Answers reader (TooLong at size) = (at ≡ reader.place) × HasLongBody reader.held size

-- it holds the same bytes, at the same place, and has no body
pub record HasStayed (old new : Reader) : Type 0 where
  pub held : new.held ≡ old.held
  pub place : new.place ≡ old.place
  pub body : new.body ≡ []

-- how it goes on once it has answered: the frame that began what it held is given, or nothing is
abbrev pub GoesOn : Reader → Reader → Next → Type 0
GoesOn old new (Frame kind at size) =
    StartsFrame old.held (record { kind = kind; body = new.body }) new.held
    × (size ≡ length new.body) × (new.place ≡ place_of (old.place + length (frame kind new.body)))
GoesOn old new NeedMore = HasStayed old new
GoesOn old new (BadKind at kind) = HasStayed old new
GoesOn old new (TooLong at size) = HasStayed old new

-- the same of all bytes fed: it gave one frame more, or the frames given are those of their cut
abbrev pub HasGiven : Reader → List ℕ → List WholeFrame → Next → Type 0
HasGiven new fed given (Frame kind at size) =
    HasRead new fed (given ++ record { kind = kind; body = new.body } ∷ [])
HasGiven new fed given NeedMore = HasRead new fed given × IsCut fed given new.held
HasGiven new fed given (BadKind at kind) = HasRead new fed given × IsCut fed given new.held
HasGiven new fed given (TooLong at size) = HasRead new fed given × IsCut fed given new.held
