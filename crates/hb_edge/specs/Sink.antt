-- What a sink answers to a write, and what it holds afterwards.
use Rattle.std.specs.Prelude.{ℕ, ◌<◌, ◌≤◌, List, ◌++◌, take}
use Rattle.hb_edge.specs.declared.sink.Sunk.{Sunk}
use Rattle.hb_edge.specs.declared.sink.Sunk.TheVariants.{Took, Failed}

-- the bytes that a write took are at least one, and no more than the piece has
abbrev pub SunkWithin : Sunk → ℕ → Type 0
SunkWithin (Took n) size = (0 < n) × (n ≤ size)
SunkWithin Failed size = Unit {0}

-- what a sink holds after a write: a piece's front behind what it held, or what it held
abbrev pub appended : List ℕ → List ℕ → Sunk → List ℕ
appended held piece (Took n) = held ++ take n piece
appended held piece Failed = held
