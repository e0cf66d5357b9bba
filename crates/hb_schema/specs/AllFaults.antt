-- All the faults of a message's bytes; the one that is told has the least place.
use Rattle.std.specs.Prelude.{◌≡◌, ◌⊎◌, ℕ, ◌+◌, ◌-◌, ◌<◌, List, [], ◌∷◌, length, true, IsSomeAnd}
use Rattle.std.specs.Str.{IsUtf8}
use Rattle.hb_wire.specs.Field.{Piece}
use Rattle.hb_schema.specs.Fields.{Part, parts, varints, body_in}
use Rattle.hb_schema.specs.Rows.{Row, Done, Number, Numbers, Text, Texts, Message, Messages, Raw}
use Rattle.hb_schema.specs.declared.fault.DecodeFault.{DecodeFault}
use Rattle.hb_schema.specs.declared.fault.DecodeFault.TheVariants.{Malformed, BadUtf8, NoMemory}

-- the faults in the body of a field, by the field's number and the place of the body
abbrev pub Inside : Type 1
Inside = ℕ → ℕ → List ℕ → DecodeFault → Type 0

-- the faults in the content of a field that ends at a place
abbrev pub InContent : Inside → ℕ → Piece → DecodeFault → Type 0
InContent inside end field fault = IsSomeAnd (body_in true field.content)
    (λ body. inside field.number (end - length body) body fault)

-- the faults of `size` bytes that stand at a place and divide into these parts: those in the
-- parts, and that no field starts where the parts end before the bytes do
abbrev pub InParts : Inside → ℕ → ℕ → List Part → DecodeFault → Type 0
InParts inside place size [] fault = (0 < size) × (fault ≡ Malformed place)
InParts inside place size (p ∷ ps) fault = InContent inside (place + length p.raw) p.field fault
    ⊎ InParts inside (place + length p.raw) (size - length p.raw) ps fault

-- the faults of a message
abbrev pub InMessage : Inside → ℕ → List ℕ → DecodeFault → Type 0
InMessage inside place bytes fault = InParts inside place (length bytes) (parts bytes) fault

-- that of a text, at its first byte
abbrev pub InText : ℕ → List ℕ → DecodeFault → Type 0
InText place text fault = (IsUtf8 text → ⊥) × (fault ≡ BadUtf8 place)

-- that of `size` bytes that stand at a place and divide into these varints, each with its size:
-- that no varint starts where they end before the bytes do
abbrev pub InVarints : ℕ → ℕ → List (ℕ × ℕ) → DecodeFault → Type 0
InVarints place size [] fault = (0 < size) × (fault ≡ Malformed place)
InVarints place size (v ∷ vs) fault = InVarints (place + v.1) (size - v.1) vs fault

-- that of a packed list
abbrev pub InPacked : ℕ → List ℕ → DecodeFault → Type 0
InPacked place bytes fault = InVarints place (length bytes) (varints bytes) fault

-- those in the body of a field, by the row of its message
unfoldable pub InField : Row → Inside
InField (Done keeps) number place body fault = ⊥
InField (Number at kind rest) number place body fault = InField rest number place body fault
InField (Numbers at kind rest) number place body fault =
    ((number ≡ at) × InPacked place body fault) ⊎ InField rest number place body fault
InField (Text at rest) number place body fault =
    ((number ≡ at) × InText place body fault) ⊎ InField rest number place body fault
InField (Texts at rest) number place body fault =
    ((number ≡ at) × InText place body fault) ⊎ InField rest number place body fault
InField (Message at others row rest) number place body fault =
    ((number ≡ at) × InMessage (InField row) place body fault)
    ⊎ InField rest number place body fault
InField (Messages at row rest) number place body fault =
    ((number ≡ at) × InMessage (InField row) place body fault)
    ⊎ InField rest number place body fault
InField (Raw at others rest) number place body fault = InField rest number place body fault

-- those of a message of the row that stands at a place
abbrev pub HasFault : Row → ℕ → List ℕ → DecodeFault → Type 0
HasFault row place bytes fault = InMessage (InField row) place bytes fault

-- the place of a fault
abbrev pub place_of : DecodeFault → ℕ
place_of (Malformed at) = at
place_of (BadUtf8 at) = at
place_of NoMemory = 0
