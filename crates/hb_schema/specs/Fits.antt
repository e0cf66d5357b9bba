-- Which messages read back from their spelling: numbers have their bits, texts are UTF-8, of each
-- oneof one member at most is there, and what is kept spells fields that are not known.
use Rattle.std.specs.Prelude.{◌≡◌, ℕ, ◌<◌, ◌^◌, List, [], None, Bool, true, false, IfSome, IsSome, IsUtf8, FitsSigned}
use Rattle.std.specs.Int.{w32, w64}
use Rattle.std.specs.List.{flat_map, AllByRecursion}
use Rattle.hb_wire.specs.Field.{SpellsField}
use Rattle.hb_schema.specs.Fields.{Part, is_among}
use Rattle.hb_schema.specs.Rows.{Kind, U32, U64, I32, I64, Flag, Row, Done, Number, Numbers, Text, Texts, Message, Messages, Raw, NumberOf, Values, Meaning, knows, keeps_unknown}

-- a number has its bits
abbrev pub NumberFits : (kind : Kind) → NumberOf kind → Type 0
NumberFits U32 n = n < 2 ^ 32
NumberFits U64 n = n < 2 ^ 64
NumberFits I32 z = FitsSigned w32 z
NumberFits I64 z = FitsSigned w64 z
NumberFits Flag b = Unit {0}

-- the bytes spell fields that the row does not know
pub record SpellUnknown (row : Row) (bytes : List ℕ) : Type 0 where
  pub parts : List Part
  pub spelled : AllByRecursion (λ p. SpellsField p.raw p.field) parts
  pub not_known : AllByRecursion (λ p. knows row p.field ≡ false) parts
  pub whole : bytes ≡ flat_map (λ p. p.raw) parts

-- the bytes that are kept: none where the row keeps none
abbrev pub KeptFits : Bool → Row → List ℕ → Type 0
KeptFits true row bytes = SpellUnknown row bytes
KeptFits false row bytes = bytes ≡ []

-- none of the members with these numbers is there
abbrev pub NoneOf : List ℕ → (row : Row) → Values row → Type 0
NoneOf numbers (Done keeps) vs = Unit {0}
NoneOf numbers (Number at kind rest) vs = NoneOf numbers rest vs.1
NoneOf numbers (Numbers at kind rest) vs = NoneOf numbers rest vs.1
NoneOf numbers (Text at rest) vs = NoneOf numbers rest vs.1
NoneOf numbers (Texts at rest) vs = NoneOf numbers rest vs.1
NoneOf numbers (Message at others row rest) vs =
    (is_among numbers at ≡ true → vs.0 ≡ None) × NoneOf numbers rest vs.1
NoneOf numbers (Messages at row rest) vs = NoneOf numbers rest vs.1
NoneOf numbers (Raw at others rest) vs =
    (is_among numbers at ≡ true → vs.0 ≡ None) × NoneOf numbers rest vs.1

-- the values fit the row
abbrev pub ValuesFit : (row : Row) → Values row → Type 0
ValuesFit (Done keeps) vs = Unit {0}
ValuesFit (Number at kind rest) vs = NumberFits kind vs.0 × ValuesFit rest vs.1
ValuesFit (Numbers at kind rest) vs = AllByRecursion (NumberFits kind) vs.0 × ValuesFit rest vs.1
ValuesFit (Text at rest) vs = IsUtf8 vs.0 × ValuesFit rest vs.1
ValuesFit (Texts at rest) vs = AllByRecursion IsUtf8 vs.0 × ValuesFit rest vs.1
ValuesFit (Message at others row rest) vs =
    IfSome vs.0 (λ m. ValuesFit row m.0 × KeptFits (keeps_unknown row) row m.1)
    × (IsSome vs.0 → NoneOf others rest vs.1) × ValuesFit rest vs.1
ValuesFit (Messages at row rest) vs =
    AllByRecursion (λ m. ValuesFit row m.0 × KeptFits (keeps_unknown row) row m.1) vs.0
    × ValuesFit rest vs.1
ValuesFit (Raw at others rest) vs =
    (IsSome vs.0 → NoneOf others rest vs.1) × ValuesFit rest vs.1

-- the message fits the row
abbrev pub Fits : (row : Row) → Meaning row → Type 0
Fits row m = ValuesFit row m.0 × KeptFits (keeps_unknown row) row m.1
