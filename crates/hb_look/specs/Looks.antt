-- Looks at a ring, and the positions that they go through.
use Rattle.std.specs.Prelude.{◌≡◌, ℕ, ◌+◌, ◌-◌, List, [], ◌∷◌, length, drop}

-- what a look finds at its position: the record; that it was overwritten, and so was each before
-- `next`; or none yet
pub data Found : Type 0 where
  Got : (bytes : List ℕ) → Found
  Gone : (next : ℕ) → Found
  NotYet : Found

-- a look that was made: at which position, what it found, at which moment, and at a ring of which
-- capacity
pub record LookMade : Type 0 where
  pub position : ℕ
  pub found : Found
  pub moment : ℕ
  pub capacity : ℕ

-- the oldest position that a ring of this capacity still has, where so many records were begun
abbrev pub oldest : ℕ → ℕ → ℕ
oldest cap begun = begun - cap - 1

-- the place after a look at this position that found this
abbrev pub place_after : ℕ → Found → ℕ
place_after position (Got bytes) = position + 1
place_after position (Gone next) = next
place_after position NotYet = position

abbrev pub after : LookMade → ℕ
after look = place_after look.position look.found

-- a run: the first look is at the start, and each other one at the place after the one before it
abbrev pub IsRun : ℕ → List LookMade → Type 0
IsRun start [] = Unit {0}
IsRun start (look ∷ looks) = (look.position ≡ start) × IsRun (after look) looks

-- the reach of a run: the place after its last look, or the start where there is none
abbrev pub reach : ℕ → List LookMade → ℕ
reach start [] = start
reach start (look ∷ looks) = reach (after look) looks

-- the looks by which a list of looks has grown
abbrev pub added : List LookMade → List LookMade → List LookMade
added old new = drop (length old) new
