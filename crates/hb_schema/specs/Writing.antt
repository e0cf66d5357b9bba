-- The one canonical spelling of a message: its fields by ascending number, and then the bytes of
-- those that are not known. A number that is 0, a text and a list that are empty are left out; a
-- message that is there is spelled, whether or not it is empty. A list of numbers is packed.
use Rattle.std.specs.Prelude.{ℕ, zero, suc, List, [], ◌∷◌, ◌++◌, map, Option, Some, None, if◌then◌else◌}
use Rattle.std.specs.Int.{w64, cast_unsigned}
use Rattle.std.specs.Option.{option_map}
use Rattle.std.specs.List.{flat_map}
use Rattle.hb_wire.specs.Varint.{varint}
use Rattle.hb_wire.specs.Field.{Varint, Body, Piece, spelling}
use Rattle.hb_schema.specs.Rows.{Kind, U32, U64, I32, I64, Flag, Row, Done, Number, Numbers, Text, Texts, Message, Messages, Raw, NumberOf, Values, Meaning}

-- the value of the varint of a number: a negative one takes all 64 bits
abbrev pub varint_of : (kind : Kind) → NumberOf kind → ℕ
varint_of U32 n = n
varint_of U64 n = n
varint_of I32 z = cast_unsigned w64 z
varint_of I64 z = cast_unsigned w64 z
varint_of Flag b = if b then 1 else 0

-- a varint is spelled where it is not 0
abbrev pub number_field : ℕ → ℕ → List Piece
number_field at zero = []
number_field at (suc n) = record { number = at; content = Varint (suc n) } ∷ []

-- a body is spelled where it is not empty
abbrev pub text_field : ℕ → List ℕ → List Piece
text_field at [] = []
text_field at (b ∷ text) = record { number = at; content = Body (b ∷ text) } ∷ []

-- a body is spelled where there is one
abbrev pub body_field : ℕ → Option (List ℕ) → List Piece
body_field at None = []
body_field at (Some body) = record { number = at; content = Body body } ∷ []

-- each body is spelled
abbrev pub body_fields : ℕ → List (List ℕ) → List Piece
body_fields at bodies = map (λ body. record { number = at; content = Body body }) bodies

-- the varints of a list, one after another
abbrev pub packed : List ℕ → List ℕ
packed numbers = flat_map varint numbers

-- the fields of the canonical spelling of values
unfoldable pub pieces : (row : Row) → Values row → List Piece
pieces (Done keeps) vs = []
pieces (Number at kind rest) vs = number_field at (varint_of kind vs.0) ++ pieces rest vs.1
pieces (Numbers at kind rest) vs =
    text_field at (packed (map (varint_of kind) vs.0)) ++ pieces rest vs.1
pieces (Text at rest) vs = text_field at vs.0 ++ pieces rest vs.1
pieces (Texts at rest) vs = body_fields at vs.0 ++ pieces rest vs.1
pieces (Message at others row rest) vs =
    body_field at (option_map (λ m. spelling (pieces row m.0) ++ m.1) vs.0) ++ pieces rest vs.1
pieces (Messages at row rest) vs =
    body_fields at (map (λ m. spelling (pieces row m.0) ++ m.1) vs.0) ++ pieces rest vs.1
pieces (Raw at others rest) vs = body_field at vs.0 ++ pieces rest vs.1

-- the canonical spelling of a message
abbrev pub writes : (row : Row) → Meaning row → List ℕ
writes row m = spelling (pieces row m.0) ++ m.1
