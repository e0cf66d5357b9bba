-- The first fault of a message's bytes, by its place.
use Rattle.std.specs.Prelude.{◌≡◌, ℕ, zero, suc, ◌+◌, ◌-◌, List, [], ◌∷◌, length, drop, Option, Some, None, Result, Ok, Err, ◌==◌, if◌then◌else◌}
use Rattle.std.specs.Option.{option_map_or, option_or}
use Rattle.std.specs.Str.{is_utf8}
use Rattle.hb_wire.specs.Field.{Piece}
use Rattle.hb_wire.specs.Reading.{field_at}
use Rattle.hb_flow.specs.Fields.{body_in}
use Rattle.hb_schema.specs.declared.fault.DecodeFault.{DecodeFault}
use Rattle.hb_schema.specs.declared.fault.DecodeFault.TheVariants.{Malformed, BadUtf8, NoMemory}

-- what is wrong in the body of a field, by the field's number and the place of the body
abbrev pub Check : Type 0
Check = ℕ → ℕ → List ℕ → Option DecodeFault

-- how many bytes the body of a field has
abbrev pub body_size : Piece → ℕ
body_size piece = option_map_or (λ body. length body) (body_in piece.content) 0

-- what is wrong in the content of a field that ends at a place
abbrev pub content_fault : Check → ℕ → Piece → Option DecodeFault
content_fault check end piece = option_map_or
    (λ body. check piece.number (end - length body) body)
    (body_in piece.content) None

-- the first fault in the first `most` fields of bytes that stand at a place, and in their bodies
unfoldable pub first_fault : Check → ℕ → ℕ → List ℕ → Option DecodeFault
first_fault check zero place bytes = None
first_fault check (suc most) place [] = None
first_fault check (suc most) place (b ∷ bytes) = option_map_or
    (λ f. option_or (content_fault check (place + f.1) f.0)
    (first_fault check most (place + f.1) (drop f.1 (b ∷ bytes))))
    (field_at (b ∷ bytes)) (Some (Malformed place))

-- the first fault in all fields, since each takes a byte at least
abbrev pub message_fault : Check → ℕ → List ℕ → Option DecodeFault
message_fault check place bytes = first_fault check (length bytes) place bytes

-- what is wrong in a text that stands at a place
abbrev pub text_fault : ℕ → List ℕ → Option DecodeFault
text_fault place text = if is_utf8 text then None else Some (BadUtf8 place)

-- what is wrong in the body of a Timestamp's field: nothing, since none is known
abbrev pub stamp_check : Check
stamp_check number place body = None

-- what is wrong in the body of a Flow's field: of time or uuid
unfoldable pub flow_check : Check
flow_check number place body =
    if number == 1 then message_fault stamp_check place body
    else if number == 34 then text_fault place body
    else None

-- what is wrong in the body of an Int32Value's field: nothing, since none is known
abbrev pub int32_value_check : Check
int32_value_check number place body = None

-- what is wrong in the body of a LostEvent's field: of cpu
unfoldable pub lost_event_check : Check
lost_event_check number place body =
    if number == 3 then message_fault int32_value_check place body
    else None

-- what is wrong in the body of a GetFlowsResponse's field: of flow, lost_events, node_name or time;
-- a node_status is not looked into
unfoldable pub response_check : Check
response_check number place body =
    if number == 1 then message_fault flow_check place body
    else if number == 3 then message_fault lost_event_check place body
    else if number == 1000 then text_fault place body
    else if number == 1001 then message_fault stamp_check place body
    else None

-- the first fault of a GetFlowsResponse
abbrev pub response_fault : List ℕ → Option DecodeFault
response_fault bytes = message_fault response_check 0 bytes

-- the first fault of a LostEvent
abbrev pub lost_event_fault : List ℕ → Option DecodeFault
lost_event_fault bytes = message_fault lost_event_check 0 bytes

-- A reader answered the fault or, where there is none, a value with P. Want of memory is free.
abbrev pub Answers : {X : Type 0}
    → Result X DecodeFault → Option DecodeFault → (X → Type 0) → Type 0
Answers (Ok x) fault P = (fault ≡ None) × P x
Answers (Err (Malformed at)) fault P = fault ≡ Some (Malformed at)
Answers (Err (BadUtf8 at)) fault P = fault ≡ Some (BadUtf8 at)
Answers (Err NoMemory) fault P = Unit {0}
