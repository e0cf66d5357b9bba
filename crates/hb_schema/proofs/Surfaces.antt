-- What a message sees of one more field is the whole of it.
use Rattle.std.proofs.Common.{◌≡◌, ℕ, List, cond, eqb, Option, None, refl, ap}
use Rattle.hb_wire.specs.Field.{Content, Varint, Fixed64, Body, Fixed32}
use Rattle.hb_schema.specs.Fields.{Part}
use Rattle.hb_schema.specs.Rows.{Row, Done, Number, Numbers, Text, Texts, Message, Messages, Raw, Values, Meaning}
use Rattle.hb_schema.specs.Faults.{fault_in, row_fault, content_fault, text_fault, packed_fault, message_fault}
use Rattle.hb_schema.specs.Steps.{number_step, numbers_step, text_step, bodies_step, member_step, raw_merged, kept_step, merged, merging, step, after}
use Rattle.hb_schema.specs.Surface.{with_field, taking, body_fault}
use Rattle.hb_schema.specs.declared.fault.DecodeFault.{DecodeFault}

pub with_field_is : (row : Row) (vs : Values row) (p : Part) → with_field row vs p ≡ step row vs p
unfolding step merged
with_field_is (Done keeps) vs p = refl
with_field_is (Number at kind rest) vs p = ap (λ (r : Values rest). (number_step at kind vs.0 p.field.number p.field.content, r)) (with_field_is rest vs.1 p)
with_field_is (Numbers at kind rest) vs p = ap (λ (r : Values rest). (numbers_step at kind vs.0 p.field.number p.field.content, r)) (with_field_is rest vs.1 p)
with_field_is (Text at rest) vs p = ap (λ (r : Values rest). (text_step at vs.0 p.field.number p.field.content, r)) (with_field_is rest vs.1 p)
with_field_is (Texts at rest) vs p = ap (λ (r : Values rest). (bodies_step (λ body. body) at vs.0 p.field.number p.field.content, r)) (with_field_is rest vs.1 p)
with_field_is (Message at others row rest) vs p =
    ap (λ (r : Values rest). (member_step (merging row (step row)) at others vs.0 p.field.number p.field.content, r)) (with_field_is rest vs.1 p)
with_field_is (Messages at row rest) vs p = ap (λ (r : Values rest). (bodies_step (merging row (step row) None) at vs.0 p.field.number p.field.content, r)) (with_field_is rest vs.1 p)
with_field_is (Raw at others rest) vs p = ap (λ (r : Values rest). (member_step raw_merged at others vs.0 p.field.number p.field.content, r)) (with_field_is rest vs.1 p)

pub taking_is : (row : Row) (m : Meaning row) (p : Part) → taking row m p ≡ after row m p
taking_is row m p = ap (λ (vs : Values row). (vs, kept_step row m.1 p)) (with_field_is row m.0 p)

pub body_fault_is : (row : Row) (number place : ℕ) (body : List ℕ) → body_fault row number place body ≡ fault_in row number place body
unfolding fault_in row_fault
body_fault_is (Done keeps) number place body = refl
body_fault_is (Number at kind rest) number place body = body_fault_is rest number place body
body_fault_is (Numbers at kind rest) number place body = ap (λ (f : Option DecodeFault). cond (eqb number at) (packed_fault place body) f) (body_fault_is rest number place body)
body_fault_is (Text at rest) number place body = ap (λ (f : Option DecodeFault). cond (eqb number at) (text_fault place body) f) (body_fault_is rest number place body)
body_fault_is (Texts at rest) number place body = ap (λ (f : Option DecodeFault). cond (eqb number at) (text_fault place body) f) (body_fault_is rest number place body)
body_fault_is (Message at others row rest) number place body =
    ap (λ (f : Option DecodeFault). cond (eqb number at) (message_fault (fault_in row) place body) f) (body_fault_is rest number place body)
body_fault_is (Messages at row rest) number place body =
    ap (λ (f : Option DecodeFault). cond (eqb number at) (message_fault (fault_in row) place body) f) (body_fault_is rest number place body)
body_fault_is (Raw at others rest) number place body = body_fault_is rest number place body

pub content_fault_is : (row : Row) (end number : ℕ) (content : Content)
    → content_fault (body_fault row) end (record { number = number; content = content }) ≡ content_fault (fault_in row) end (record { number = number; content = content })
content_fault_is row end number (Varint value) = refl
content_fault_is row end number (Fixed64 value) = refl
content_fault_is row end number (Body body) = body_fault_is row number _ body
content_fault_is row end number (Fixed32 value) = refl
