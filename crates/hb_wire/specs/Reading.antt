-- Reading from left to right, as functions of the bytes that compute.
use Rattle.std.specs.Prelude.{◌≡◌, ℕ, zero, suc, ◌+◌, ◌-◌, ◌*◌, ◌/◌, ◌%◌, ◌^◌, ◌≤◌, List, [], ◌∷◌, length, take, drop, Option, Some, None, Result, Ok, Err, nat_lt, ◌==◌, ◌&&◌, if◌then◌else◌, option_and_then}
use Rattle.std.specs.Option.{option_map}
use Rattle.std.specs.Int.{w32, w64, from_le_bytes}
use Rattle.hb_wire.specs.declared.malformed.Malformed.{Malformed}
use Rattle.hb_wire.specs.declared.field.Field.{Field}
use Rattle.hb_wire.specs.Field.{Content, Varint, Fixed64, Body, Fixed32, Piece, piece_of}

-- the number of the varint at the front and how many bytes it takes, where at most `more` bytes
-- follow its first
unfoldable pub varint_from : ℕ → List ℕ → Option (ℕ × ℕ)
varint_from more [] = None
varint_from zero (b ∷ bytes) = if nat_lt b 2 then Some (b, 1) else None
varint_from (suc more) (b ∷ bytes) = if nat_lt b 128 then Some (b, 1)
    else option_map (λ rest. (b - 128 + 128 * rest.0, rest.1 + 1)) (varint_from more bytes)

-- the same of a varint of at most ten bytes
unfoldable pub varint_at : List ℕ → Option (ℕ × ℕ)
varint_at bytes = varint_from 9 bytes

-- the eight bytes at the front as a content, and how many they are
unfoldable pub fixed64_at : List ℕ → Option (Content × ℕ)
fixed64_at bytes = if nat_lt (length bytes) 8 then None
    else Some (Fixed64 (from_le_bytes w64 (take 8 bytes)), 8)

-- the four bytes at the front, likewise
unfoldable pub fixed32_at : List ℕ → Option (Content × ℕ)
fixed32_at bytes = if nat_lt (length bytes) 4 then None
    else Some (Fixed32 (from_le_bytes w32 (take 4 bytes)), 4)

-- the body at the front, and how many bytes it takes with its length
unfoldable pub body_at : List ℕ → Option (Content × ℕ)
body_at bytes = option_and_then (λ size. if nat_lt (length bytes - size.1) size.0 then None
    else Some (Body (take size.0 (drop size.1 bytes)), size.1 + size.0)) (varint_at bytes)

-- the content of this wire type at the front, and how many bytes it takes
unfoldable pub content_at : ℕ → List ℕ → Option (Content × ℕ)
content_at kind bytes =
    if kind == 0 then option_map (λ v. (Varint v.0, v.1)) (varint_at bytes)
    else if kind == 1 then fixed64_at bytes
    else if kind == 2 then body_at bytes
    else if kind == 5 then fixed32_at bytes
    else None

-- the field at the front, and how many bytes it takes
unfoldable pub field_at : List ℕ → Option (Piece × ℕ)
field_at bytes = option_and_then (λ tag. if nat_lt 0 (tag.0 / 8) && nat_lt (tag.0 / 8) (2 ^ 29)
    then option_map (λ c. (record { number = tag.0 / 8; content = c.0 }, tag.1 + c.1))
    (content_at (tag.0 % 8) (drop tag.1 bytes))
    else None) (varint_at bytes)

-- What a call answered, seen by view as a value and the bytes that it takes from its place on, is
-- what reading gives there.
abbrev pub ReadsAt : {X Y : Type 0} → (X → Y) → ℕ → Result (X × ℕ) Malformed → Option (Y × ℕ)
    → Type 0
ReadsAt view at (Ok (value, end)) read = (at ≤ end) × (read ≡ Some (view value, end - at))
ReadsAt view at (Err fault) read = (fault.at ≡ at) × (read ≡ None)

-- a content under its field's number
abbrev pub numbered : ℕ → Option (Content × ℕ) → Option (Piece × ℕ)
numbered number read = option_map (λ c. (record { number = number; content = c.0 }, c.1)) read

-- a field that was found, seen without where its body lies
abbrev pub found_piece : Option (Field × ℕ) → Option (Piece × ℕ)
found_piece found = option_map (λ r. (piece_of r.0, r.1)) found
