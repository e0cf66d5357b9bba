-- A message after one more field: how it is read, one field after another; and written, one field
-- after another.
use Rattle.std.specs.Prelude.{◌≡◌, ℕ, zero, suc, List, [], ◌∷◌, ◌++◌, length, take, map, Option, Some, None, unwrap_or, ◌==◌, if◌then◌else◌}
use Rattle.std.specs.Option.{option_map}
use Rattle.std.specs.List.{fold, flat_map}
use Rattle.hb_wire.specs.Field.{Content, Varint, Fixed64, Body, Fixed32, spelled}
use Rattle.hb_schema.specs.Fields.{Part, parts, unpacked, is_among}
use Rattle.hb_schema.specs.Rows.{Kind, Row, Done, Number, Numbers, Text, Texts, Message, Messages, Raw, NumberOf, Values, Meaning, nothing, knows, keeps_unknown}
use Rattle.hb_schema.specs.Reading.{number_of}
use Rattle.hb_schema.specs.Writing.{varint_of, packed, writes}

-- ---- each kind of field, with what a field of some number holds

-- a number
abbrev pub number_step : ℕ → (kind : Kind) → NumberOf kind → ℕ → Content → NumberOf kind
number_step at kind old number (Varint value) =
    if number == at then number_of kind value else old
number_step at kind old number (Fixed64 value) = old
number_step at kind old number (Body body) = old
number_step at kind old number (Fixed32 value) = old

-- a repeated number, by one number or a packed list of them
abbrev pub numbers_step : ℕ → (kind : Kind) → List (NumberOf kind) → ℕ → Content
    → List (NumberOf kind)
numbers_step at kind old number (Varint value) =
    if number == at then old ++ number_of kind value ∷ [] else old
numbers_step at kind old number (Fixed64 value) = old
numbers_step at kind old number (Body body) =
    if number == at then old ++ map (number_of kind) (unpacked body) else old
numbers_step at kind old number (Fixed32 value) = old

-- a text
abbrev pub text_step : ℕ → List ℕ → ℕ → Content → List ℕ
text_step at old number (Varint value) = old
text_step at old number (Fixed64 value) = old
text_step at old number (Body body) = if number == at then body else old
text_step at old number (Fixed32 value) = old

-- a repeated body, seen by a function
abbrev pub bodies_step : {A : Type 0} → (List ℕ → A) → ℕ → List A → ℕ → Content → List A
bodies_step of at old number (Varint value) = old
bodies_step of at old number (Fixed64 value) = old
bodies_step of at old number (Body body) = if number == at then old ++ of body ∷ [] else old
bodies_step of at old number (Fixed32 value) = old

-- a body that is merged into what is there; another member of its oneof takes its place
abbrev pub member_step : {A : Type 0} → (Option A → List ℕ → A) → ℕ → List ℕ → Option A → ℕ
    → Content → Option A
member_step merge at others old number (Varint value) = old
member_step merge at others old number (Fixed64 value) = old
member_step merge at others old number (Body body) = if number == at then Some (merge old body)
    else if is_among others number then None
    else old
member_step merge at others old number (Fixed32 value) = old

-- raw bytes with more
abbrev pub raw_merged : Option (List ℕ) → List ℕ → List ℕ
raw_merged old body = unwrap_or old [] ++ body

-- the bytes that are kept
abbrev pub kept_step : Row → List ℕ → Part → List ℕ
kept_step row old p =
    if keeps_unknown row then (if knows row p.field then old else old ++ p.raw) else old

-- ---- a message

-- a message that may be there, with all the fields of one more body, by a step of its values
unfoldable pub merging : (row : Row) → (Values row → Part → Values row) → Option (Meaning row)
    → List ℕ → Meaning row
merging row step m body = fold (λ m p. (step m.0 p, kept_step row m.1 p))
    (unwrap_or m (nothing row)) (parts body)

-- values with one more field
unfoldable pub step : (row : Row) → Values row → Part → Values row
step (Done keeps) vs p = vs
step (Number at kind rest) vs p =
    (number_step at kind vs.0 p.field.number p.field.content, step rest vs.1 p)
step (Numbers at kind rest) vs p =
    (numbers_step at kind vs.0 p.field.number p.field.content, step rest vs.1 p)
step (Text at rest) vs p = (text_step at vs.0 p.field.number p.field.content, step rest vs.1 p)
step (Texts at rest) vs p =
    (bodies_step (λ body. body) at vs.0 p.field.number p.field.content, step rest vs.1 p)
step (Message at others row rest) vs p = (
  member_step (merging row (step row)) at others vs.0 p.field.number p.field.content,
  step rest vs.1 p,
)
step (Messages at row rest) vs p = (
  bodies_step (merging row (step row) None) at vs.0 p.field.number p.field.content,
  step rest vs.1 p,
)
step (Raw at others rest) vs p =
    (member_step raw_merged at others vs.0 p.field.number p.field.content, step rest vs.1 p)

-- a message with one more field
abbrev pub after : (row : Row) → Meaning row → Part → Meaning row
after row m p = (step row m.0 p, kept_step row m.1 p)

-- a message that may be there, with all the fields of one more body
unfoldable pub merged : (row : Row) → Option (Meaning row) → List ℕ → Meaning row
merged row m body = merging row (step row) m body

-- ---- written behind bytes that stand there, one field after another

-- a varint, where it is not 0
abbrev pub number_onto : ℕ → List ℕ → ℕ → List ℕ
number_onto at out zero = out
number_onto at out (suc n) = out ++ spelled (record { number = at; content = Varint (suc n) })

-- a body, where it is not empty
abbrev pub text_onto : ℕ → List ℕ → List ℕ → List ℕ
text_onto at out [] = out
text_onto at out (b ∷ text) = out ++ spelled (record { number = at; content = Body (b ∷ text) })

-- a body, where there is one
abbrev pub body_onto : ℕ → List ℕ → Option (List ℕ) → List ℕ
body_onto at out None = out
body_onto at out (Some body) = out ++ spelled (record { number = at; content = Body body })

-- each body
abbrev pub bodies_onto : ℕ → List ℕ → List (List ℕ) → List ℕ
bodies_onto at out bodies =
    out ++ flat_map (λ body. spelled (record { number = at; content = Body body })) bodies

-- values, field by field
abbrev pub onto : (row : Row) → List ℕ → Values row → List ℕ
onto (Done keeps) out vs = out
onto (Number at kind rest) out vs = onto rest (number_onto at out (varint_of kind vs.0)) vs.1
onto (Numbers at kind rest) out vs =
    onto rest (text_onto at out (packed (map (varint_of kind) vs.0))) vs.1
onto (Text at rest) out vs = onto rest (text_onto at out vs.0) vs.1
onto (Texts at rest) out vs = onto rest (bodies_onto at out vs.0) vs.1
onto (Message at others row rest) out vs =
    onto rest (body_onto at out (option_map (writes row) vs.0)) vs.1
onto (Messages at row rest) out vs =
    onto rest (bodies_onto at out (map (writes row) vs.0)) vs.1
onto (Raw at others rest) out vs = onto rest (body_onto at out vs.0) vs.1

-- bytes that are kept, behind the fields
abbrev pub kept_onto : List ℕ → List ℕ → List ℕ
kept_onto out bytes = out ++ bytes

-- the bytes begin with these
abbrev pub IsFront : List ℕ → List ℕ → Type 0
IsFront front bytes = take (length front) bytes ≡ front
