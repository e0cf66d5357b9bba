-- The words that spell a record in its slot: its length in bytes, then its bytes, eight a word.
use Rattle.std.specs.Prelude.{◌≡◌, ℕ, ◌+◌, ◌*◌, ◌/◌, ◌<◌, ◌≤◌, List, [], ◌∷◌, ◌++◌, length, slice_index, take}
use Rattle.std.specs.Int.{w64, to_le_bytes}

-- how many payload words so many bytes take
abbrev pub words_for : ℕ → ℕ
words_for bytes = (bytes + 7) / 8

-- the bytes of payload words, the lowest of each first
abbrev pub bytes_of : List ℕ → List ℕ
bytes_of [] = []
bytes_of (word ∷ words) = to_le_bytes w64 word ++ bytes_of words

-- the record that these words spell
abbrev pub record_of : List ℕ → List ℕ
record_of [] = []
record_of (bytes ∷ payload) = take bytes (bytes_of payload)

-- the first words of a record that fits a slot of so many payload words, or all of them
pub record IsPart (slot_words : ℕ) (words : List ℕ) : Type 0 where
  pub fits : slice_index words 0 ≤ 8 * slot_words
  pub count : length words ≤ 1 + words_for (slice_index words 0)

-- all of them
pub record IsWhole (slot_words : ℕ) (words : List ℕ) : Type 0 where
  pub fits : slice_index words 0 ≤ 8 * slot_words
  pub count : length words ≡ 1 + words_for (slice_index words 0)

-- the words are the first ones of the others
abbrev pub IsFront : List ℕ → List ℕ → Type 0
IsFront words others =
    (k : ℕ) → k < length words → slice_index words k ≡ slice_index others k
