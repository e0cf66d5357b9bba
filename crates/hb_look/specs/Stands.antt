-- When looks stand for a log: what they found is so in it, and none goes back.
use Rattle.std.specs.Prelude.{◌≡◌, ℕ, ◌+◌, ◌<◌, ◌≤◌, List, length, slice_get, Some}
use Rattle.std.specs.List.{All, AllPairs}
use Rattle.hb_look.specs.Looks.{Found, Got, Gone, NotYet, LookMade, oldest}

-- What was found at a position is so in the log of a ring of this capacity. A record that was got
-- is the log's. Where it was gone, so is each before `next`, for the log's records and one more
-- that may have been begun.
abbrev pub IsSo : List (List ℕ) → ℕ → ℕ → Found → Type 0
IsSo log cap position (Got bytes) = slice_get log position ≡ Some bytes
IsSo log cap position (Gone next) = (position < next) × (next ≤ oldest cap (length log + 1))
IsSo log cap position NotYet = Unit {0}

abbrev pub IsTrueOf : List (List ℕ) → LookMade → Type 0
IsTrueOf log look = IsSo log look.capacity look.position look.found

-- What a later look may find, at a ring of this capacity, after one that found this: nothing that
-- an earlier state of the ring would answer.
abbrev pub MayFollow : ℕ → ℕ → Found → ℕ → Found → Type 0
MayFollow cap position (Got bytes) later NotYet = position < later
MayFollow cap position (Got bytes) later (Got more) = Unit {0}
MayFollow cap position (Got bytes) later (Gone next) = Unit {0}
MayFollow cap position (Gone next) later (Got bytes) = next ≤ later
MayFollow cap position (Gone next) later NotYet = next + cap ≤ later
MayFollow cap position (Gone next) later (Gone further) = next ≤ further
MayFollow cap position NotYet later found = Unit {0}

-- the second look does not go back behind the first
abbrev pub GoesOn : LookMade → LookMade → Type 0
GoesOn earlier later =
    MayFollow later.capacity earlier.position earlier.found later.position later.found

-- Looks stand for a log.
pub record LooksStandFor (log : List (List ℕ)) (looks : List LookMade) : Type 0 where
  pub are_true : All (IsTrueOf log) looks
  pub go_on : AllPairs GoesOn looks
