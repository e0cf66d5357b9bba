-- What the bytes of a message read as, number by number. Of numbers and of texts the last counts,
-- of repeated fields all in order, and the bodies of a message are read as one. Of the members of a
-- oneof the last counts, with its bodies after any other.
use Rattle.std.specs.Prelude.{ℕ, ◌%◌, ◌^◌, List, [], map, not, ◌==◌, if◌then◌else◌}
use Rattle.std.specs.Int.{w32, w64, cast_signed}
use Rattle.std.specs.Option.{option_map}
use Rattle.std.specs.List.{flat_map}
use Rattle.hb_schema.specs.Fields.{Part, parts, varints_at, bodies_at, numbers_at, bodies_since, last_or, joined}
use Rattle.hb_schema.specs.Rows.{Kind, U32, U64, I32, I64, Flag, Row, Done, Number, Numbers, Text, Texts, Message, Messages, Raw, NumberOf, Values, Meaning, knows, keeps_unknown}

-- a varint's value as a number: uint32, int32 and enums keep its low 32 bits
abbrev pub number_of : (kind : Kind) → ℕ → NumberOf kind
number_of U32 n = n % 2 ^ 32
number_of U64 n = n
number_of I32 n = cast_signed w32 (n % 2 ^ 32)
number_of I64 n = cast_signed w64 n
number_of Flag n = not (n == 0)

-- the bytes of a field, where it is not known and such are kept
abbrev pub kept_of : Row → Part → List ℕ
kept_of row p = if keeps_unknown row then (if knows row p.field then [] else p.raw) else []

-- the values that fields read as
unfoldable pub values : (row : Row) → List Part → Values row
values (Done keeps) ps = tt
values (Number at kind rest) ps =
    (number_of kind (last_or 0 (varints_at at ps)), values rest ps)
values (Numbers at kind rest) ps = (map (number_of kind) (numbers_at at ps), values rest ps)
values (Text at rest) ps = (last_or [] (bodies_at at ps), values rest ps)
values (Texts at rest) ps = (bodies_at at ps, values rest ps)
values (Message at others row rest) ps = (
  option_map (λ body. (values row (parts body), flat_map (kept_of row) (parts body)))
      (joined (bodies_since at others ps)),
  values rest ps,
)
values (Messages at row rest) ps = (
  map (λ body. (values row (parts body), flat_map (kept_of row) (parts body)))
      (bodies_at at ps),
  values rest ps,
)
values (Raw at others rest) ps = (joined (bodies_since at others ps), values rest ps)

-- the message that bytes read as
abbrev pub reads : (row : Row) → List ℕ → Meaning row
reads row bytes = (values row (parts bytes), flat_map (kept_of row) (parts bytes))
