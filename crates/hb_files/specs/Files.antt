-- Files on a shelf, and how large they may be.
use Rattle.std.specs.Prelude.{◌≡◌, ℕ, ◌≤◌, ◌^◌, List, length, Option, Some}
use Rattle.std.specs.Option.{ForSome}
use Rattle.hb_edge.specs.Shelf.{Files}

-- the bytes of a file, at most
abbrev pub largest_file : ℕ
largest_file = 2 ^ 30

-- the file of this name has these bytes
abbrev pub Has : Files → List ℕ → List ℕ → Type 0
Has files name file = files name ≡ Some file

-- these are all the bytes of the file, where the shelf tells, and no more than a file may have
abbrev pub IsWhole : Option Files → List ℕ → List ℕ → Type 0
IsWhole told name bytes = (length bytes ≤ largest_file)
    × ForSome told (λ files. Has files name bytes)
