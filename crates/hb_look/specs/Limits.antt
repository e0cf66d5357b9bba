-- The limits of every ring. In code `LONGEST_RECORD` and `MOST_RECORDS` are two of them.
use Rattle.std.specs.Prelude.{◌≡◌, ℕ, ◌+◌, ◌%◌, ◌^◌, ◌≤◌}

-- the most bytes of a record that any ring takes
abbrev pub longest_record : ℕ
longest_record = 65024

-- how many records a ring takes, and how many looks a reader makes
abbrev pub most_records : ℕ
most_records = 2 ^ 62

-- the most records that a ring keeps for its readers
abbrev pub largest_capacity : ℕ
largest_capacity = 65535

-- a capacity that a ring may have: 1, 3, 7, and so on up to the largest
abbrev pub IsCapacity : ℕ → Type 0
IsCapacity cap = (n : ℕ) × (1 ≤ n) × (n ≤ 16) × (cap + 1 ≡ 2 ^ n)

-- a number of bytes that a slot may have
abbrev pub IsSlot : ℕ → Type 0
IsSlot bytes = (bytes % 8 ≡ 0) × (64 ≤ bytes) × (bytes ≤ longest_record)
