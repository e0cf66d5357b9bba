-- Where the words of a ring lie: the count of finished records, the count of those begun, and
-- behind them the slots, each a length word and its payload words.
use Rattle.std.specs.Prelude.{◌≡◌, ℕ, ◌+◌, ◌*◌, ◌%◌, ◌^◌, ◌<◌, ◌≤◌, List, length, slice_index}
use Rattle.hb_look.specs.Limits.{largest_capacity}
use Rattle.hb_ring_rule.specs.declared.shape.Shape.{Shape}

-- a shape that the table of a ring may have
abbrev pub IsShape : Shape → Type 0
IsShape shape = (shape.capacity ≤ largest_capacity)
    × (8 ≤ shape.slot_words) × (shape.slot_words ≤ 8128)
    × ((shape.capacity + 1) * (shape.slot_words + 1) ≤ 2 ^ 27)

-- the most bytes of a record
abbrev pub longest_of : Shape → ℕ
longest_of shape = 8 * shape.slot_words

-- how many words the ring has
abbrev pub word_count : Shape → ℕ
word_count shape = 2 + (shape.capacity + 1) * (shape.slot_words + 1)

-- the word at which the slot of a position begins
abbrev pub slot_at : Shape → ℕ → ℕ
slot_at shape position = 2 + position % (shape.capacity + 1) * (shape.slot_words + 1)

-- the ring has these words from this one on
abbrev pub Begins : List ℕ → ℕ → List ℕ → Type 0
Begins ring start words =
    (k : ℕ) → k < length words → slice_index ring (start + k) ≡ slice_index words k
