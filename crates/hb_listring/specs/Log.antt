-- A log of records, and what a ring has of it.
use Rattle.std.specs.Prelude.{◌≡◌, ℕ, ◌+◌, ◌≤◌, List, length}
use Rattle.circular_buffer.specs.Buffer.{keep_last}
use Rattle.hb_look.specs.Limits.{longest_record, largest_capacity}

-- what a ring has: its limits, how many records were ever put, and the last of them
pub record Kept : Type 0 where
  pub capacity : ℕ
  pub slot : ℕ
  pub written : ℕ
  pub records : List (List ℕ)

-- The log is the list of all records that were put into the ring, in order. A record's position
-- is its index in it.
abbrev pub StandsFor : Kept → List (List ℕ) → Type 0
StandsFor ring log = (ring.written ≡ length log)
    × (ring.records ≡ keep_last (ring.capacity + 1) log)

-- its limits are within those of every ring
abbrev pub HasLimits : Kept → Type 0
HasLimits ring = (ring.capacity ≤ largest_capacity) × (ring.slot ≤ longest_record)
