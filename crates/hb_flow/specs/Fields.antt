-- The fields of a message's bytes, and what is picked from them by number.
use Rattle.std.specs.Prelude.{ℕ, zero, suc, List, [], ◌∷◌, ◌++◌, length, take, drop, map, Option, Some, None, Bool, false, ◌==◌, ◌&&◌, ◌||◌, if◌then◌else◌}
use Rattle.std.specs.Option.{option_map, option_map_or}
use Rattle.std.specs.List.{filter_map, flat_map, list_all}
use Rattle.hb_wire.specs.Field.{Content, Varint, Fixed64, Body, Fixed32, Piece, wire_type, SpellsField}
use Rattle.hb_wire.specs.Reading.{field_at}

-- no bytes at the front spell a field
abbrev pub StartsNoField : List ℕ → Type 0
StartsNoField bytes = (piece : Piece) (size : ℕ) → SpellsField (take size bytes) piece → ⊥

-- a field, and the bytes that spell it
pub record Part : Type 0 where
  pub raw : List ℕ
  pub field : Piece

-- the first `most` fields, one after another, up to a place at which none starts
unfoldable pub parts_of : ℕ → List ℕ → List Part
parts_of zero bytes = []
parts_of (suc most) bytes = option_map_or
    (λ f. record { raw = take f.1 bytes; field = f.0 } ∷ parts_of most (drop f.1 bytes))
    (field_at bytes) []

-- all fields, since each takes a byte at least
abbrev pub parts : List ℕ → List Part
parts bytes = parts_of (length bytes) bytes

-- what a field of wire type 0 holds
abbrev pub varint_in : Content → Option ℕ
varint_in (Varint value) = Some value
varint_in (Fixed64 value) = None
varint_in (Body body) = None
varint_in (Fixed32 value) = None

-- what a field of wire type 2 holds
abbrev pub body_in : Content → Option (List ℕ)
body_in (Varint value) = None
body_in (Fixed64 value) = None
body_in (Body body) = Some body
body_in (Fixed32 value) = None

-- the varints of the fields with this number, in order; another wire type is passed over
abbrev pub numbers : ℕ → List Part → List ℕ
numbers number ps = filter_map
    (λ p. if p.field.number == number then varint_in p.field.content else None) ps

-- the bodies of the fields with this number, likewise
abbrev pub bodies : ℕ → List Part → List (List ℕ)
bodies number ps = filter_map
    (λ p. if p.field.number == number then body_in p.field.content else None) ps

-- the last of the items, or d where there is none
abbrev pub last_or : {A : Type 0} → A → List A → A
last_or d [] = d
last_or d (x ∷ xs) = last_or x xs

-- the bodies one after another, where there is one
abbrev pub joined : List (List ℕ) → Option (List ℕ)
joined [] = None
joined (body ∷ others) = Some (body ++ flat_map (λ b. b) others)

-- a field as an occurrence of a member of the oneof of a GetFlowsResponse: its number, and its body
abbrev pub member_in : Piece → Option (ℕ × List ℕ)
member_in field = if field.number == 1 || field.number == 2 || field.number == 3
    then option_map (λ body. (field.number, body)) (body_in field.content) else None

-- the occurrences of the members, in order; other fields are passed over
abbrev pub members : List Part → List (ℕ × List ℕ)
members ps = filter_map (λ p. member_in p.field) ps

-- the longest end of occurrences that is of one number alone: the number, and the bodies
abbrev pub last_run : List (ℕ × List ℕ) → Option (ℕ × List (List ℕ))
last_run [] = None
last_run (m ∷ ms) = if list_all (λ x. x.0 == m.0) ms then Some (m.0, map (λ x. x.1) (m ∷ ms))
    else last_run ms

-- the member that counts: the number of its last occurrence, and the bodies that come after the
-- last occurrence of any other member
abbrev pub member_bodies : List Part → Option (ℕ × List (List ℕ))
member_bodies ps = last_run (members ps)

-- the fields that a message knows, by number and wire type
abbrev pub Row : Type 0
Row = List (ℕ × ℕ)

abbrev pub knows : Row → Piece → Bool
knows [] field = false
knows (known ∷ row) field =
    (field.number == known.0 && wire_type field.content == known.1) || knows row field

-- the bytes of the fields that are not known, in order
abbrev pub unknown : Row → List Part → List ℕ
unknown row ps = flat_map (λ p. if knows row p.field then [] else p.raw) ps
