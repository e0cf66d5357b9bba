-- A message after one more field, and its faults, as the message itself sees them: what is in its
-- parts is `merged` and `row_fault`.
use Rattle.std.specs.Prelude.{None, ◌==◌, if◌then◌else◌}
use Rattle.hb_schema.specs.Fields.{Part}
use Rattle.hb_schema.specs.Rows.{Row, Done, Number, Numbers, Text, Texts, Message, Messages, Raw, Values, Meaning}
use Rattle.hb_schema.specs.Faults.{Check, text_fault, packed_fault, row_fault}
use Rattle.hb_schema.specs.Steps.{number_step, numbers_step, text_step, bodies_step, member_step, raw_merged, kept_step, merged}

-- values with one more field
abbrev pub with_field : (row : Row) → Values row → Part → Values row
with_field (Done keeps) vs p = vs
with_field (Number at kind rest) vs p =
    (number_step at kind vs.0 p.field.number p.field.content, with_field rest vs.1 p)
with_field (Numbers at kind rest) vs p =
    (numbers_step at kind vs.0 p.field.number p.field.content, with_field rest vs.1 p)
with_field (Text at rest) vs p =
    (text_step at vs.0 p.field.number p.field.content, with_field rest vs.1 p)
with_field (Texts at rest) vs p =
    (bodies_step (λ body. body) at vs.0 p.field.number p.field.content, with_field rest vs.1 p)
with_field (Message at others row rest) vs p = (
  member_step (merged row) at others vs.0 p.field.number p.field.content,
  with_field rest vs.1 p,
)
with_field (Messages at row rest) vs p =
    (bodies_step (merged row None) at vs.0 p.field.number p.field.content, with_field rest vs.1 p)
with_field (Raw at others rest) vs p =
    (member_step raw_merged at others vs.0 p.field.number p.field.content, with_field rest vs.1 p)

-- a message with one more field
abbrev pub taking : (row : Row) → Meaning row → Part → Meaning row
taking row m p = (with_field row m.0 p, kept_step row m.1 p)

-- what is wrong in the body of a field
abbrev pub body_fault : Row → Check
body_fault (Done keeps) number place body = None
body_fault (Number at kind rest) number place body = body_fault rest number place body
body_fault (Numbers at kind rest) number place body =
    if number == at then packed_fault place body else body_fault rest number place body
body_fault (Text at rest) number place body =
    if number == at then text_fault place body else body_fault rest number place body
body_fault (Texts at rest) number place body =
    if number == at then text_fault place body else body_fault rest number place body
body_fault (Message at others row rest) number place body =
    if number == at then row_fault row place body else body_fault rest number place body
body_fault (Messages at row rest) number place body =
    if number == at then row_fault row place body else body_fault rest number place body
body_fault (Raw at others rest) number place body = body_fault rest number place body
