-- Base-128 varints of the Protocol Buffers encoding: seven bits a byte, the low ones first.
use Rattle.std.specs.Prelude.{◌≡◌, ℕ, zero, suc, ◌+◌, ◌*◌, ◌/◌, ◌%◌, ◌^◌, ◌<◌, ◌≤◌, List, [], ◌∷◌, length, nat_lt, slice_index, if◌then◌else◌}

-- These bytes spell the number. A byte below 128 is the last; one from 128 on has seven bits, and
-- the bytes after it spell the rest.
abbrev pub Spells : List ℕ → ℕ → Type 0
Spells [] n = ⊥
Spells (b ∷ []) n = (b < 128) × (n ≡ b)
Spells (b ∷ c ∷ bytes) n = (128 ≤ b) × (rest : ℕ) × (n + 128 ≡ b + 128 * rest)
    × Spells (c ∷ bytes) rest

-- a varint of this number: at most ten bytes, and the number has 64 bits (so a tenth byte is 0 or
-- 1)
pub record IsVarint (bytes : List ℕ) (n : ℕ) : Type 0 where
  pub spells : Spells bytes n
  pub short : length bytes ≤ 10
  pub fits : n < 2 ^ 64

-- the shortest spelling, in at most `more` bytes beside its last one
unfoldable pub varint_of : ℕ → ℕ → List ℕ
varint_of zero n = n ∷ []
varint_of (suc more) n = if nat_lt n 128 then n ∷ [] else (n % 128 + 128) ∷ varint_of more (n / 128)

-- the shortest spelling of a number below 2 ^ 64
unfoldable pub varint : ℕ → List ℕ
varint n = varint_of 9 n

-- each is a byte
abbrev pub AreBytes : List ℕ → Type 0
AreBytes bytes = (i : ℕ) → slice_index bytes i < 256
