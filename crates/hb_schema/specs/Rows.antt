-- The rows of the messages that are known, and what a message of a row means: a value for each of
-- its fields, and the bytes of the fields that the row does not know.
use Rattle.std.specs.Prelude.{◌≡◌, ℕ, ℤ, pos, ◌<◌, ◌^◌, List, [], Option, None, Bool, true, false, ◌==◌, ◌&&◌, ◌||◌}
use Rattle.std.specs.List.{AllByRecursion}
use Rattle.hb_wire.specs.Field.{Body, Piece}
use Rattle.hb_schema.specs.Fields.{is_varint, is_body, is_among}

-- the kinds of numbers: uint32, uint64, int32 or an enum, int64, bool
pub data Kind : Type 0 where
  U32 : Kind
  U64 : Kind
  I32 : Kind
  I64 : Kind
  Flag : Kind

-- the fields of a message, by ascending number. A message field, or raw bytes, may be a member of a
-- oneof; it then names the numbers of the other members.
pub data Row : Type 0 where
  -- no more fields, and whether the bytes of fields that are not known are kept
  Done : (keeps : Bool) → Row
  -- a number, and a repeated one, packed or unpacked
  Number : (at : ℕ) → (kind : Kind) → (rest : Row) → Row
  Numbers : (at : ℕ) → (kind : Kind) → (rest : Row) → Row
  -- a text, and a repeated one
  Text : (at : ℕ) → (rest : Row) → Row
  Texts : (at : ℕ) → (rest : Row) → Row
  -- a message of a row, and a repeated one
  Message : (at : ℕ) → (others : List ℕ) → (row : Row) → (rest : Row) → Row
  Messages : (at : ℕ) → (row : Row) → (rest : Row) → Row
  -- a body that is not looked into
  Raw : (at : ℕ) → (others : List ℕ) → (rest : Row) → Row

-- ---- what a message means

abbrev pub NumberOf : Kind → Type 0
NumberOf U32 = ℕ
NumberOf U64 = ℕ
NumberOf I32 = ℤ
NumberOf I64 = ℤ
NumberOf Flag = Bool

-- a value for each field: a member of a oneof, like any message, may be absent
abbrev pub Values : Row → Type 0
Values (Done keeps) = Unit {0}
Values (Number at kind rest) = NumberOf kind × Values rest
Values (Numbers at kind rest) = List (NumberOf kind) × Values rest
Values (Text at rest) = List ℕ × Values rest
Values (Texts at rest) = List (List ℕ) × Values rest
Values (Message at others row rest) = Option (Values row × List ℕ) × Values rest
Values (Messages at row rest) = List (Values row × List ℕ) × Values rest
Values (Raw at others rest) = Option (List ℕ) × Values rest

-- the values, and the bytes of the fields that are not known
abbrev pub Meaning : Row → Type 0
Meaning row = Values row × List ℕ

-- the default of a number
abbrev pub zero_of : (kind : Kind) → NumberOf kind
zero_of U32 = 0
zero_of U64 = 0
zero_of I32 = pos 0
zero_of I64 = pos 0
zero_of Flag = false

-- the values of no field
abbrev pub defaults : (row : Row) → Values row
defaults (Done keeps) = tt
defaults (Number at kind rest) = (zero_of kind, defaults rest)
defaults (Numbers at kind rest) = ([], defaults rest)
defaults (Text at rest) = ([], defaults rest)
defaults (Texts at rest) = ([], defaults rest)
defaults (Message at others row rest) = (None, defaults rest)
defaults (Messages at row rest) = ([], defaults rest)
defaults (Raw at others rest) = (None, defaults rest)

-- the message of no field
abbrev pub nothing : (row : Row) → Meaning row
nothing row = (defaults row, [])

-- ---- which fields a row knows

-- a field with the number and the wire type of one of the row; a repeated number has two
abbrev pub knows : Row → Piece → Bool
knows (Done keeps) field = false
knows (Number at kind rest) field =
    (is_varint field.content && field.number == at) || knows rest field
knows (Numbers at kind rest) field =
    ((is_varint field.content || is_body field.content) && field.number == at) || knows rest field
knows (Text at rest) field = (is_body field.content && field.number == at) || knows rest field
knows (Texts at rest) field = (is_body field.content && field.number == at) || knows rest field
knows (Message at others row rest) field =
    (is_body field.content && field.number == at) || knows rest field
knows (Messages at row rest) field =
    (is_body field.content && field.number == at) || knows rest field
knows (Raw at others rest) field =
    (is_body field.content && field.number == at) || knows rest field

-- whether the bytes of the others are kept
abbrev pub keeps_unknown : Row → Bool
keeps_unknown (Done keeps) = keeps
keeps_unknown (Number at kind rest) = keeps_unknown rest
keeps_unknown (Numbers at kind rest) = keeps_unknown rest
keeps_unknown (Text at rest) = keeps_unknown rest
keeps_unknown (Texts at rest) = keeps_unknown rest
keeps_unknown (Message at others row rest) = keeps_unknown rest
keeps_unknown (Messages at row rest) = keeps_unknown rest
keeps_unknown (Raw at others rest) = keeps_unknown rest

-- ---- what is a row

-- the numbers ascend from above `low` on, and are numbers of fields
abbrev pub Ascends : ℕ → Row → Type 0
Ascends low (Done keeps) = Unit {0}
Ascends low (Number at kind rest) = (low < at) × (at < 2 ^ 29) × Ascends at rest
Ascends low (Numbers at kind rest) = (low < at) × (at < 2 ^ 29) × Ascends at rest
Ascends low (Text at rest) = (low < at) × (at < 2 ^ 29) × Ascends at rest
Ascends low (Texts at rest) = (low < at) × (at < 2 ^ 29) × Ascends at rest
Ascends low (Message at others row rest) =
    (low < at) × (at < 2 ^ 29) × Ascends 0 row × Ascends at rest
Ascends low (Messages at row rest) = (low < at) × (at < 2 ^ 29) × Ascends 0 row × Ascends at rest
Ascends low (Raw at others rest) = (low < at) × (at < 2 ^ 29) × Ascends at rest

-- of these fields, those that the member `at` names as others are members and name it, and no other
-- member does
abbrev pub NamedBack : ℕ → List ℕ → Row → Type 0
NamedBack at mine (Done keeps) = Unit {0}
NamedBack at mine (Number n kind rest) = (is_among mine n ≡ false) × NamedBack at mine rest
NamedBack at mine (Numbers n kind rest) = (is_among mine n ≡ false) × NamedBack at mine rest
NamedBack at mine (Text n rest) = (is_among mine n ≡ false) × NamedBack at mine rest
NamedBack at mine (Texts n rest) = (is_among mine n ≡ false) × NamedBack at mine rest
NamedBack at mine (Message n others row rest) =
    (is_among mine n ≡ is_among others at) × NamedBack at mine rest
NamedBack at mine (Messages n row rest) = (is_among mine n ≡ false) × NamedBack at mine rest
NamedBack at mine (Raw n others rest) =
    (is_among mine n ≡ is_among others at) × NamedBack at mine rest

-- the others of a member are members too, bodies that the whole row knows, and the member is none
-- of them
abbrev pub AreOthers : Row → ℕ → List ℕ → Type 0
AreOthers whole at others = (is_among others at ≡ false)
    × AllByRecursion (λ n. knows whole (record { number = n; content = Body [] }) ≡ true) others
    × NamedBack at others whole

-- the members of each oneof name each other
abbrev pub HasOneOfs : Row → Row → Type 0
HasOneOfs whole (Done keeps) = Unit {0}
HasOneOfs whole (Number at kind rest) = HasOneOfs whole rest
HasOneOfs whole (Numbers at kind rest) = HasOneOfs whole rest
HasOneOfs whole (Text at rest) = HasOneOfs whole rest
HasOneOfs whole (Texts at rest) = HasOneOfs whole rest
HasOneOfs whole (Message at others row rest) = AreOthers whole at others
    × NamedBack at others rest × HasOneOfs row row × HasOneOfs whole rest
HasOneOfs whole (Messages at row rest) = HasOneOfs row row × HasOneOfs whole rest
HasOneOfs whole (Raw at others rest) = AreOthers whole at others
    × NamedBack at others rest × HasOneOfs whole rest

-- the row of a message that can be read and written, and so is each row in it
pub record IsRow (row : Row) : Type 0 where
  pub ascends : Ascends 0 row
  pub one_ofs : HasOneOfs row row
