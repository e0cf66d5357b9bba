-- What a look answers, and what it adds to the looks of its reader.
use Rattle.std.specs.Prelude.{◌≡◌, ℕ, ◌<◌, ◌≤◌, List, [], ◌∷◌, ◌++◌, length, slice_get, Option, Some, None}
use Rattle.hb_look.specs.declared.look.Looked.{Looked}
use Rattle.hb_look.specs.declared.look.Looked.TheVariants as answers
use Rattle.hb_look.specs.Looks.{Found, Got, Gone, NotYet, LookMade, oldest}

-- what a look with this answer found, where these bytes are in its buffer; where memory was
-- refused, nothing
abbrev pub found_by : Looked → List ℕ → Option Found
found_by answers.Got bytes = Some (Got bytes)
found_by (answers.Gone next) bytes = Some (Gone next)
found_by answers.NotYet bytes = Some NotYet
found_by answers.NoMemory bytes = None

-- looks with one more behind them, where one was made
abbrev pub with_look : List LookMade → ℕ → ℕ → ℕ → Option Found → List LookMade
with_look looks cap position moment None = looks
with_look looks cap position moment (Some found) =
    looks ++ record { position = position; found = found; moment = moment; capacity = cap } ∷ []

-- what there is to find at a position, where the log of a ring of this capacity is this: exactly
-- one of the three
abbrev pub IsFoundAt : List (List ℕ) → ℕ → ℕ → Found → Type 0
IsFoundAt log cap position (Got bytes) = (oldest cap (length log) ≤ position)
    × (slice_get log position ≡ Some bytes)
IsFoundAt log cap position (Gone next) = (position < next) × (next ≡ oldest cap (length log))
IsFoundAt log cap position NotYet = length log ≤ position

-- a look found what there was to find
abbrev pub IsExact : List (List ℕ) → LookMade → Type 0
IsExact log look = IsFoundAt log look.capacity look.position look.found
