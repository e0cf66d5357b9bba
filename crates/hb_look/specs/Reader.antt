-- A reader: the looks that it made, what it has seen of its ring's two counts, and the ring's
-- limits.
use Rattle.std.specs.Prelude.{◌≡◌, ◌⊎◌, ℕ, ◌+◌, ◌-◌, ◌^◌, ◌<◌, ◌≤◌, List, [], length, min}
use Rattle.std.specs.List.{All, AllPairs}
use Rattle.hb_look.specs.Looks.{Found, Got, Gone, NotYet, LookMade, oldest}
use Rattle.hb_look.specs.Stands.{LooksStandFor, GoesOn}

-- a count of a ring, as a reader has seen it: the greatest that it loaded or took over, and how
-- often it loaded it
pub record Seen : Type 0 where
  pub count : ℕ
  pub loads : ℕ

-- A reader's looks, in order; what it has seen of how many records are finished, and of how many
-- were begun; and of its ring how many of the last records it keeps for its readers, and the most
-- bytes of one.
pub record Reader : Type 0 where
  pub looks : List LookMade
  pub finished : Seen
  pub begun : Seen
  pub capacity : ℕ
  pub longest : ℕ

-- a count that was never loaded
abbrev pub unseen : Seen
unseen = record { count = 0; loads = 0 }

-- A count was loaded in a call: how often it was loaded has risen. That number stops at 2 ^ 64 -
-- 1, and counts as risen where it stands there. What was loaded is `new.count`, since no load is
-- below what was seen.
abbrev pub Loaded : Seen → Seen → Type 0
Loaded old new = min (old.loads + 1) (2 ^ 64 - 1) ≤ new.loads

-- what was seen of a count never falls, and changes only where it was loaded
pub record IsLaterSeen (old new : Seen) : Type 0 where
  pub count : old.count ≤ new.count
  pub loads : old.loads ≤ new.loads
  pub loaded : (new ≡ old) ⊎ Loaded old new

-- the same of both counts, at the same ring
pub record IsLater (old new : Reader) : Type 0 where
  pub finished : IsLaterSeen old.finished new.finished
  pub begun : IsLaterSeen old.begun new.begun
  pub capacity : new.capacity ≡ old.capacity
  pub longest : new.longest ≡ old.longest

-- the cause of what is found at a position, in a ring of this capacity: the counts that this very
-- look loaded
abbrev pub HasCause : ℕ → ℕ → Reader → Reader → Found → Type 0
HasCause cap position old new (Got bytes) = Loaded old.finished new.finished
    × (position < new.finished.count)
    × Loaded old.begun new.begun × (oldest cap new.begun.count ≤ position)
HasCause cap position old new (Gone next) = Loaded old.begun new.begun
    × (next ≡ oldest cap new.begun.count) × (position < next)
HasCause cap position old new NotYet = Loaded old.finished new.finished
    × (new.finished.count ≤ position)
    × (new.begun.count ≤ new.finished.count + 1)

-- a look has its cause
abbrev pub IsCaused : Reader → Reader → LookMade → Type 0
IsCaused old new look = HasCause look.capacity look.position old new look.found

-- the counts that a reader has seen bound what it found at a position
abbrev pub IsBounded : ℕ → Reader → ℕ → Found → Type 0
IsBounded cap reader position (Got bytes) = position < reader.finished.count
IsBounded cap reader position (Gone next) = (position < next)
    × (next ≤ oldest cap reader.begun.count)
IsBounded cap reader position NotYet = Unit {0}

-- a look was made at the reader's ring, and its counts bound what it found
abbrev pub IsWithin : Reader → LookMade → Type 0
IsWithin reader look = (look.capacity ≡ reader.capacity)
    × IsBounded look.capacity reader look.position look.found

-- no look of the reader goes back, nor will one that has its cause
pub record IsInOrder (reader : Reader) : Type 0 where
  pub within : All (IsWithin reader) reader.looks
  pub go_on : AllPairs GoesOn reader.looks

-- A reader stands for the log of its ring: its looks do, bounded by what it has seen, and it has
-- seen no more records finished than the log has, and no more than one beside them begun.
pub record ReaderStandsFor (log : List (List ℕ)) (reader : Reader) : Type 0 where
  pub looks : LooksStandFor log reader.looks
  pub within : All (IsWithin reader) reader.looks
  pub finished : reader.finished.count ≤ length log
  pub begun : reader.begun.count ≤ length log + 1

-- a reader that made no look and loaded no count
abbrev pub IsFresh : Reader → Type 0
IsFresh reader = (reader.looks ≡ []) × (reader.finished ≡ unseen) × (reader.begun ≡ unseen)
