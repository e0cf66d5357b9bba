-- What a piece of work makes of a source and of a reader.
use Rattle.std.specs.Prelude.{◌≡◌, ℕ, Bool, false, ◌<◌, ◌≤◌, List, ◌++◌, length}
use Rattle.std.specs.List.{All}
use Rattle.hb_look.specs.Looks.{LookMade, NotYet, added, after}
use Rattle.hb_look.specs.Reader.{Reader, IsCaused}
use Rattle.hb_frame.specs.Frames.{Frame}
use Rattle.hb_session.specs.Replies.{owed, spelled}
use Rattle.hb_session.specs.Stands.{Source, SourceStandsFor}

-- Work made a source out of another: it stands for these looks more, and put exactly the frames
-- that are owed for them.
pub record HasWorked (old new : Source) (more : List LookMade) (before after : List ℕ)
    : Type 0 where
  pub opening : new.opening ≡ old.opening
  pub stands : (looks : List LookMade) → SourceStandsFor old looks
      → SourceStandsFor new (looks ++ more)
  pub put : (looks : List LookMade) → SourceStandsFor old looks → (frames : List Frame)
      × (owed old.opening (looks ++ more) ≡ owed old.opening looks ++ frames)
      × (after ≡ before ++ spelled frames)

-- A reader made one look at most, at this moment: it has its cause, and leads on where what is
-- looked for has an end.
pub record IsOneLook (old new : Reader) (moment : ℕ) (follows : Bool) : Type 0 where
  pub most : length (added old.looks new.looks) ≤ 1
  pub at : All (λ look. look.moment ≡ moment) (added old.looks new.looks)
  pub cause : All (IsCaused old new) (added old.looks new.looks)
  pub moves : follows ≡ false → All (λ look. look.position < after look) (added old.looks new.looks)

-- One look was made, and leads on.
abbrev pub HasLed : List LookMade → Type 0
HasLed looks = (length looks ≡ 1) × All (λ look. look.position < after look) looks

-- One look was made, and found nothing yet.
abbrev pub HasWaited : List LookMade → Type 0
HasWaited looks = (length looks ≡ 1) × All (λ look. look.found ≡ NotYet) looks
