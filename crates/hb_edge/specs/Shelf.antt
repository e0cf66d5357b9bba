-- What a shelf answers to a read, against the file that it reads.
use Rattle.std.specs.Prelude.{◌≡◌, ℕ, ◌+◌, ◌<◌, ◌≤◌, List, length, take, drop, Option, Some, None}
use Rattle.hb_edge.specs.declared.shelf.Shelved.{Shelved}
use Rattle.hb_edge.specs.declared.shelf.Shelved.TheVariants.{Took, End, Failed}

-- files by their names: a name's bytes, where there is such a file
abbrev pub Files : Type 0
Files = List ℕ → Option (List ℕ)

-- the bytes that a read took are at least one, and fit a buffer of this length
abbrev pub ShelvedWithin : Shelved → ℕ → Type 0
ShelvedWithin (Took n) room = (0 < n) × (n ≤ room)
ShelvedWithin End room = Unit {0}
ShelvedWithin Failed room = Unit {0}

-- a read of this file from a place on gave this answer, and left the buffer so
abbrev pub ReadsFile : Option (List ℕ) → ℕ → Shelved → List ℕ → Type 0
ReadsFile file at Failed buffer = Unit {0}
ReadsFile None at (Took n) buffer = ⊥
ReadsFile None at End buffer = ⊥
ReadsFile (Some file) at End buffer = length file ≤ at
ReadsFile (Some file) at (Took n) buffer = (at + n ≤ length file)
    × (take n buffer ≡ take n (drop at file))
