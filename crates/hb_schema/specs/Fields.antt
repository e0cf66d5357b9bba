-- The fields of a message's bytes, and what is picked from them by number.
use Rattle.std.specs.Prelude.{ℕ, zero, suc, List, [], ◌∷◌, ◌++◌, length, take, drop, map, Option, Some, None, Bool, true, false, ◌==◌, ◌&&◌, if◌then◌else◌}
use Rattle.std.specs.Option.{option_map_or}
use Rattle.std.specs.List.{filter_map, flat_map, list_any}
use Rattle.hb_wire.specs.Field.{Content, Varint, Fixed64, Body, Fixed32, Piece, SpellsField}
use Rattle.hb_wire.specs.Reading.{varint_at, field_at}

-- a field, and the bytes that spell it
pub record Part : Type 0 where
  pub raw : List ℕ
  pub field : Piece

-- the first `most` fields, one after another, up to a place at which none starts
unfoldable pub parts_of : ℕ → List ℕ → List Part
parts_of zero bytes = []
parts_of (suc most) bytes = option_map_or
    (λ f. record { raw = take f.1 bytes; field = f.0 } ∷ parts_of most (drop f.1 bytes))
    (field_at bytes) []

-- all fields, since each takes a byte at least
abbrev pub parts : List ℕ → List Part
parts bytes = parts_of (length bytes) bytes

-- no bytes at the front spell a field
abbrev pub StartsNoField : List ℕ → Type 0
StartsNoField bytes = (piece : Piece) (size : ℕ) → SpellsField (take size bytes) piece → ⊥

-- the first `most` varints of a packed list, one after another: each number, and how many bytes it
-- takes
unfoldable pub varints_of : ℕ → List ℕ → List (ℕ × ℕ)
varints_of zero bytes = []
varints_of (suc most) bytes = option_map_or (λ v. v ∷ varints_of most (drop v.1 bytes))
    (varint_at bytes) []

-- all of them
abbrev pub varints : List ℕ → List (ℕ × ℕ)
varints bytes = varints_of (length bytes) bytes

-- the numbers of a packed list
abbrev pub unpacked : List ℕ → List ℕ
unpacked bytes = map (λ v. v.0) (varints bytes)

-- what a field holds by wire type 0, where it is wanted
abbrev pub varint_in : Bool → Content → Option ℕ
varint_in wanted (Varint value) = if wanted then Some value else None
varint_in wanted (Fixed64 value) = None
varint_in wanted (Body body) = None
varint_in wanted (Fixed32 value) = None

-- what a field holds by wire type 2, likewise
abbrev pub body_in : Bool → Content → Option (List ℕ)
body_in wanted (Varint value) = None
body_in wanted (Fixed64 value) = None
body_in wanted (Body body) = if wanted then Some body else None
body_in wanted (Fixed32 value) = None

-- the numbers that it holds: by wire type 0 one, by wire type 2 a packed list
abbrev pub numbers_in : Bool → Content → List ℕ
numbers_in wanted (Varint value) = if wanted then value ∷ [] else []
numbers_in wanted (Fixed64 value) = []
numbers_in wanted (Body body) = if wanted then unpacked body else []
numbers_in wanted (Fixed32 value) = []

-- the varints of the fields with the number `at`, in order; another wire type is passed over
abbrev pub varints_at : ℕ → List Part → List ℕ
varints_at at ps = filter_map (λ p. varint_in (p.field.number == at) p.field.content) ps

-- the bodies of the fields with the number `at`, likewise
abbrev pub bodies_at : ℕ → List Part → List (List ℕ)
bodies_at at ps = filter_map (λ p. body_in (p.field.number == at) p.field.content) ps

-- the numbers in the fields with the number `at`, packed and unpacked, likewise
abbrev pub numbers_at : ℕ → List Part → List ℕ
numbers_at at ps = flat_map (λ p. numbers_in (p.field.number == at) p.field.content) ps

-- the last of the items, or d where there is none
abbrev pub last_or : {A : Type 0} → A → List A → A
last_or d [] = d
last_or d (x ∷ xs) = last_or x xs

-- the bodies one after another, where there is one
abbrev pub joined : List (List ℕ) → Option (List ℕ)
joined [] = None
joined (body ∷ others) = Some (body ++ flat_map (λ b. b) others)

-- the wire type is 0
abbrev pub is_varint : Content → Bool
is_varint (Varint value) = true
is_varint (Fixed64 value) = false
is_varint (Body body) = false
is_varint (Fixed32 value) = false

-- the wire type is 2
abbrev pub is_body : Content → Bool
is_body (Varint value) = false
is_body (Fixed64 value) = false
is_body (Body body) = true
is_body (Fixed32 value) = false

-- the number is among these
abbrev pub is_among : List ℕ → ℕ → Bool
is_among numbers number = list_any (λ n. number == n) numbers

-- a body with one of these numbers
abbrev pub is_body_of : List ℕ → Part → Bool
is_body_of numbers p = is_body p.field.content && is_among numbers p.field.number

-- what comes after the last item that passes the test, or all where none does
abbrev pub behind_last : {A : Type 0} → (A → Bool) → List A → List A
behind_last test [] = []
behind_last test (x ∷ xs) = if list_any test (x ∷ xs) then behind_last test xs else x ∷ xs

-- of a member of a oneof: its bodies after the last body of another member
abbrev pub bodies_since : ℕ → List ℕ → List Part → List (List ℕ)
bodies_since at others ps = bodies_at at (behind_last (is_body_of others) ps)
