-- The first fault of a message's bytes, by its place. A place is a number of bytes, counted from
-- the start of the message that was to be read.
use Rattle.std.specs.Prelude.{◌≡◌, ℕ, zero, suc, ◌+◌, ◌-◌, List, [], ◌∷◌, length, drop, Option, Some, None, true, Result, Ok, Err, ◌==◌, if◌then◌else◌}
use Rattle.std.specs.Option.{option_map_or, option_or}
use Rattle.std.specs.Str.{is_utf8}
use Rattle.hb_wire.specs.Field.{Piece}
use Rattle.hb_wire.specs.Reading.{varint_at, field_at}
use Rattle.hb_schema.specs.Fields.{body_in}
use Rattle.hb_schema.specs.Rows.{Row, Done, Number, Numbers, Text, Texts, Message, Messages, Raw}
use Rattle.hb_schema.specs.declared.fault.DecodeFault.{DecodeFault}
use Rattle.hb_schema.specs.declared.fault.DecodeFault.TheVariants.{Malformed, BadUtf8, NoMemory}

-- what is wrong in the body of a field, by the field's number and the place of the body
abbrev pub Check : Type 0
Check = ℕ → ℕ → List ℕ → Option DecodeFault

-- how many bytes the body of a field has
abbrev pub body_size : Piece → ℕ
body_size piece = option_map_or (λ body. length body) (body_in true piece.content) 0

-- what is wrong in the content of a field that ends at a place
abbrev pub content_fault : Check → ℕ → Piece → Option DecodeFault
content_fault check end piece = option_map_or
    (λ body. check piece.number (end - length body) body)
    (body_in true piece.content) None

-- the first fault in the first `most` fields of bytes that stand at a place, and in their bodies
unfoldable pub first_fault : Check → ℕ → ℕ → List ℕ → Option DecodeFault
first_fault check zero place bytes = None
first_fault check (suc most) place [] = None
first_fault check (suc most) place (b ∷ bytes) = option_map_or
    (λ f. option_or (content_fault check (place + f.1) f.0)
    (first_fault check most (place + f.1) (drop f.1 (b ∷ bytes))))
    (field_at (b ∷ bytes)) (Some (Malformed place))

-- the first fault in all fields, since each takes a byte at least
abbrev pub message_fault : Check → ℕ → List ℕ → Option DecodeFault
message_fault check place bytes = first_fault check (length bytes) place bytes

-- what is wrong in a text that stands at a place
abbrev pub text_fault : ℕ → List ℕ → Option DecodeFault
text_fault place text = if is_utf8 text then None else Some (BadUtf8 place)

-- what is wrong in the first `most` varints of a packed list that stands at a place
unfoldable pub first_varint_fault : ℕ → ℕ → List ℕ → Option DecodeFault
first_varint_fault zero place bytes = None
first_varint_fault (suc most) place [] = None
first_varint_fault (suc most) place (b ∷ bytes) = option_map_or
    (λ v. first_varint_fault most (place + v.1) (drop v.1 (b ∷ bytes)))
    (varint_at (b ∷ bytes)) (Some (Malformed place))

-- in all of them, since each takes a byte at least
abbrev pub packed_fault : ℕ → List ℕ → Option DecodeFault
packed_fault place bytes = first_varint_fault (length bytes) place bytes

-- what is wrong in the body of a field, by the row of its message
unfoldable pub fault_in : Row → Check
fault_in (Done keeps) number place body = None
fault_in (Number at kind rest) number place body = fault_in rest number place body
fault_in (Numbers at kind rest) number place body =
    if number == at then packed_fault place body else fault_in rest number place body
fault_in (Text at rest) number place body =
    if number == at then text_fault place body else fault_in rest number place body
fault_in (Texts at rest) number place body =
    if number == at then text_fault place body else fault_in rest number place body
fault_in (Message at others row rest) number place body =
    if number == at then message_fault (fault_in row) place body
    else fault_in rest number place body
fault_in (Messages at row rest) number place body =
    if number == at then message_fault (fault_in row) place body
    else fault_in rest number place body
fault_in (Raw at others rest) number place body = fault_in rest number place body

-- the first fault of a message of the row that stands at a place
unfoldable pub row_fault : Row → ℕ → List ℕ → Option DecodeFault
row_fault row place bytes = message_fault (fault_in row) place bytes

-- A reader answered the fault or, where there is none, a value with P. Want of memory is free.
abbrev pub Answers : {X : Type 0}
    → Result X DecodeFault → Option DecodeFault → (X → Type 0) → Type 0
Answers (Ok x) fault P = (fault ≡ None) × P x
Answers (Err (Malformed at)) fault P = fault ≡ Some (Malformed at)
Answers (Err (BadUtf8 at)) fault P = fault ≡ Some (BadUtf8 at)
Answers (Err NoMemory) fault P = Unit {0}
