-- All the faults of a message's bytes; the one that is told has the least place.
use Rattle.std.specs.Prelude.{◌≡◌, ◌⊎◌, ℕ, ◌+◌, ◌-◌, ◌<◌, List, [], ◌∷◌, length, IsSomeAnd}
use Rattle.std.specs.Str.{IsUtf8}
use Rattle.hb_wire.specs.Field.{Piece}
use Rattle.hb_flow.specs.Fields.{Part, parts, body_in}
use Rattle.hb_schema.specs.declared.fault.DecodeFault.{DecodeFault}
use Rattle.hb_schema.specs.declared.fault.DecodeFault.TheVariants.{Malformed, BadUtf8, NoMemory}

-- the faults in the body of a field, by the field's number and the place of the body
abbrev pub Inside : Type 1
Inside = ℕ → ℕ → List ℕ → DecodeFault → Type 0

-- the faults in the content of a field that ends at a place
abbrev pub InContent : Inside → ℕ → Piece → DecodeFault → Type 0
InContent inside end field fault =
    IsSomeAnd (body_in field.content) (λ body. inside field.number (end - length body) body fault)

-- the faults of `size` bytes that stand at a place and divide into these parts: those in the
-- parts, and that no field starts where the parts end before the bytes do
abbrev pub InParts : Inside → ℕ → ℕ → List Part → DecodeFault → Type 0
InParts inside place size [] fault = (0 < size) × (fault ≡ Malformed place)
InParts inside place size (p ∷ ps) fault = InContent inside (place + length p.raw) p.field fault
    ⊎ InParts inside (place + length p.raw) (size - length p.raw) ps fault

-- the faults of a message
abbrev pub InMessage : Inside → ℕ → List ℕ → DecodeFault → Type 0
InMessage inside place bytes fault = InParts inside place (length bytes) (parts bytes) fault

-- that of a text, at its first byte
abbrev pub InText : ℕ → List ℕ → DecodeFault → Type 0
InText place text fault = (IsUtf8 text → ⊥) × (fault ≡ BadUtf8 place)

-- those in a Timestamp's field: none
abbrev pub InStamp : Inside
InStamp number place body fault = ⊥

-- those in a Flow's field: of time or uuid
abbrev pub InFlow : Inside
InFlow number place body fault = ((number ≡ 1) × InMessage InStamp place body fault)
    ⊎ ((number ≡ 34) × InText place body fault)

-- those in an Int32Value's field: none
abbrev pub InInt32Value : Inside
InInt32Value number place body fault = ⊥

-- those in a LostEvent's field: of cpu
abbrev pub InLostEvent : Inside
InLostEvent number place body fault = (number ≡ 3) × InMessage InInt32Value place body fault

-- those in a GetFlowsResponse's field: of flow, lost_events, node_name or time
abbrev pub InResponse : Inside
InResponse number place body fault = ((number ≡ 1) × InMessage InFlow place body fault)
    ⊎ (((number ≡ 3) × InMessage InLostEvent place body fault)
    ⊎ (((number ≡ 1000) × InText place body fault)
    ⊎ ((number ≡ 1001) × InMessage InStamp place body fault)))

-- those of a GetFlowsResponse
abbrev pub HasFault : List ℕ → DecodeFault → Type 0
HasFault bytes fault = InMessage InResponse 0 bytes fault

-- those of a LostEvent
abbrev pub HasLostEventFault : List ℕ → DecodeFault → Type 0
HasLostEventFault bytes fault = InMessage InLostEvent 0 bytes fault

-- the place of a fault
abbrev pub place_of : DecodeFault → ℕ
place_of (Malformed at) = at
place_of (BadUtf8 at) = at
place_of NoMemory = 0
