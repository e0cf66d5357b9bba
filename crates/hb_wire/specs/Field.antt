-- The fields of a message's bytes, in the profile without groups: Protocol Buffers encoding,
-- message structure.
use Rattle.std.specs.Prelude.{◌≡◌, ℕ, ◌+◌, ◌*◌, ◌^◌, ◌<◌, ◌≤◌, List, ◌++◌, length, slice_range, ◌-◌}
use Rattle.std.specs.Int.{w32, w64, from_le_bytes, to_le_bytes}
use Rattle.std.specs.List.{flat_map}
use Rattle.hb_wire.specs.declared.field.Field.{Field}
use Rattle.hb_wire.specs.declared.field.Field.TheVariants as fields
use Rattle.hb_wire.specs.Varint.{IsVarint, varint}

-- what a field holds, by its wire type: 0, 1, 2 and 5
pub data Content : Type 0 where
  Varint : (value : ℕ) → Content
  Fixed64 : (value : ℕ) → Content
  Body : (body : List ℕ) → Content
  Fixed32 : (value : ℕ) → Content

-- a field, wherever its bytes lie
pub record Piece : Type 0 where
  pub number : ℕ
  pub content : Content

-- the number that a tag has for it
abbrev pub wire_type : Content → ℕ
wire_type (Varint value) = 0
wire_type (Fixed64 value) = 1
wire_type (Body body) = 2
wire_type (Fixed32 value) = 5

-- these bytes spell the content
abbrev pub SpellsContent : List ℕ → Content → Type 0
SpellsContent bytes (Varint value) = IsVarint bytes value
SpellsContent bytes (Fixed64 value) = (length bytes ≡ 8) × (value ≡ from_le_bytes w64 bytes)
SpellsContent bytes (Body body) = (size : List ℕ) × IsVarint size (length body)
    × (bytes ≡ size ++ body)
SpellsContent bytes (Fixed32 value) = (length bytes ≡ 4) × (value ≡ from_le_bytes w32 bytes)

-- a field's number is from 1 to 2 ^ 29 - 1
abbrev pub IsNumber : ℕ → Type 0
IsNumber number = (1 ≤ number) × (number < 2 ^ 29)

-- these bytes spell the field: a tag, and the content
abbrev pub SpellsField : List ℕ → Piece → Type 0
SpellsField bytes piece = IsNumber piece.number × (tag : List ℕ) × (content : List ℕ)
    × IsVarint tag (8 * piece.number + wire_type piece.content)
    × SpellsContent content piece.content × (bytes ≡ tag ++ content)

-- the one canonical spelling of a content: each varint as short as it can be
abbrev pub spelled_content : Content → List ℕ
spelled_content (Varint value) = varint value
spelled_content (Fixed64 value) = to_le_bytes w64 value
spelled_content (Body body) = varint (length body) ++ body
spelled_content (Fixed32 value) = to_le_bytes w32 value

-- the one canonical spelling of a field: its tag, and the content
unfoldable pub spelled : Piece → List ℕ
spelled piece = varint (8 * piece.number + wire_type piece.content) ++ spelled_content piece.content

-- the fields one after another
abbrev pub spelling : List Piece → List ℕ
spelling pieces = flat_map spelled pieces

-- a content that has a spelling
abbrev pub ContentFits : Content → Type 0
ContentFits (Varint value) = value < 2 ^ 64
ContentFits (Fixed64 value) = value < 2 ^ 64
ContentFits (Body body) = length body < 2 ^ 64
ContentFits (Fixed32 value) = value < 2 ^ 32

-- a field that has a spelling
abbrev pub PieceFits : Piece → Type 0
PieceFits piece = IsNumber piece.number × ContentFits piece.content

-- the piece that a field is, seen without where its body lies
abbrev pub piece_of : Field → Piece
piece_of (fields.Varint number value) = record { number = number; content = Varint value }
piece_of (fields.Fixed64 number value) = record { number = number; content = Fixed64 value }
piece_of (fields.Body number body) = record { number = number; content = Body body.now }
piece_of (fields.Fixed32 number value) = record { number = number; content = Fixed32 value }

-- where a body's bytes lie: right before the place `n`
abbrev pub LiesAt : List ℕ → ℕ → Content → Type 0
LiesAt bytes n (Varint value) = Unit {0}
LiesAt bytes n (Fixed64 value) = Unit {0}
LiesAt bytes n (Body body) = (length body ≤ n) × (slice_range bytes (n - length body) n ≡ body)
LiesAt bytes n (Fixed32 value) = Unit {0}
