-- The fields of a message that fits have a spelling, where its length is a number of 64 bits.
use Rattle.std.proofs.Common.{ℕ, zero, suc, ◌<◌, ◌≤◌, ◌^◌, List, [], ◌∷◌, length, map, Option, Some, None, Bool, true, false, arith, length-append}
use Rattle.std.specs.Prelude.{ℤ, pos, FitsSigned}
use lib.IntN.{negsuc}
use Rattle.std.specs.Option.{option_map}
use Rattle.std.specs.Int.{w32, w64, cast_unsigned}
use Rattle.std.specs.List.{AllByRecursion}
use Rattle.hb_wire.specs.Field.{PieceFits, spelling}
use Rattle.hb_schema.specs.Rows.{Kind, U32, U64, I32, I64, Flag, Row, Done, Number, Numbers, Text, Texts, Message, Messages, Raw, NumberOf, Values, Meaning, Ascends}
use Rattle.hb_schema.specs.Writing.{varint_of, number_field, text_field, body_field, body_fields, packed, pieces, writes}
use Rattle.hb_schema.specs.Fits.{NumberFits, ValuesFit}
use Rattle.hb_schema.proofs.Pieces.{all_append, NearlyFits, fits_within}

-- ---- numbers

cast_below : (z : ℤ) → FitsSigned w64 z → cast_unsigned w64 z < 2 ^ 64
cast_below (pos n) fits = omega (arith, fits.sfits)
cast_below (negsuc n) fits = omega arith

widened : (z : ℤ) → FitsSigned w32 z → FitsSigned w64 z
widened z fits = record { sfits = omega (arith, fits.sfits) }

flag_below : (b : Bool) → varint_of Flag b < 2 ^ 64
flag_below true = omega arith
flag_below false = omega arith

pub varint_below : (kind : Kind) (v : NumberOf kind) → NumberFits kind v → varint_of kind v < 2 ^ 64
varint_below U32 n fits = omega (arith, fits)
varint_below U64 n fits = fits
varint_below I32 z fits = cast_below z (widened z fits)
varint_below I64 z fits = cast_below z fits
varint_below Flag b fits = flag_below b

pub varints_below : (kind : Kind) (vs : List (NumberOf kind)) → AllByRecursion (NumberFits kind) vs → AllByRecursion (λ n. n < 2 ^ 64) (map (varint_of kind) vs)
varints_below kind [] fit = tt
varints_below kind (v ∷ vs) fit = (varint_below kind v fit.0, varints_below kind vs fit.1)

-- ---- fields

number_nearly : (at n : ℕ) → 1 ≤ at → at < 2 ^ 29 → n < 2 ^ 64 → AllByRecursion NearlyFits (number_field at n)
number_nearly at zero some few fits = tt
number_nearly at (suc n) some few fits = (((some, few), fits), tt)

text_nearly : (at : ℕ) (text : List ℕ) → 1 ≤ at → at < 2 ^ 29 → AllByRecursion NearlyFits (text_field at text)
text_nearly at [] some few = tt
text_nearly at (b ∷ text) some few = (((some, few), tt), tt)

body_nearly : (at : ℕ) (body : Option (List ℕ)) → 1 ≤ at → at < 2 ^ 29 → AllByRecursion NearlyFits (body_field at body)
body_nearly at None some few = tt
body_nearly at (Some body) some few = (((some, few), tt), tt)

bodies_nearly : (at : ℕ) (bodies : List (List ℕ)) → 1 ≤ at → at < 2 ^ 29 → AllByRecursion NearlyFits (body_fields at bodies)
bodies_nearly at [] some few = tt
bodies_nearly at (body ∷ bodies) some few = (((some, few), tt), bodies_nearly at bodies some few)

-- all but the length of a body fits
pub near : (row : Row) (low : ℕ) → Ascends low row → (vs : Values row) → ValuesFit row vs → AllByRecursion NearlyFits (pieces row vs)
unfolding pieces
near (Done keeps) low up vs fits = tt
near (Number at kind rest) low up vs fits =
    all_append NearlyFits (number_field at (varint_of kind vs.0)) (pieces rest vs.1)
    (number_nearly at (varint_of kind vs.0) (omega (arith, up.0)) up.1 (varint_below kind vs.0 fits.0)) (near rest at up.2 vs.1 fits.1)
near (Numbers at kind rest) low up vs fits =
    all_append NearlyFits (text_field at (packed (map (varint_of kind) vs.0))) (pieces rest vs.1)
    (text_nearly at (packed (map (varint_of kind) vs.0)) (omega (arith, up.0)) up.1) (near rest at up.2 vs.1 fits.1)
near (Text at rest) low up vs fits =
    all_append NearlyFits (text_field at vs.0) (pieces rest vs.1)
    (text_nearly at vs.0 (omega (arith, up.0)) up.1) (near rest at up.2 vs.1 fits.1)
near (Texts at rest) low up vs fits =
    all_append NearlyFits (body_fields at vs.0) (pieces rest vs.1)
    (bodies_nearly at vs.0 (omega (arith, up.0)) up.1) (near rest at up.2 vs.1 fits.1)
near (Message at others row rest) low up vs fits =
    let body : Option (List ℕ) = option_map (writes row) vs.0 in
    all_append NearlyFits (body_field at body) (pieces rest vs.1)
    (body_nearly at body (omega (arith, up.0)) up.1) (near rest at up.3 vs.1 fits.2)
near (Messages at row rest) low up vs fits =
    let bodies : List (List ℕ) = map (writes row) vs.0 in
    all_append NearlyFits (body_fields at bodies) (pieces rest vs.1)
    (bodies_nearly at bodies (omega (arith, up.0)) up.1) (near rest at up.3 vs.1 fits.1)
near (Raw at others rest) low up vs fits =
    all_append NearlyFits (body_field at vs.0) (pieces rest vs.1)
    (body_nearly at vs.0 (omega (arith, up.0)) up.1) (near rest at up.2 vs.1 fits.1)

-- and so does that, where the whole is not too long
pub pieces_fit : (row : Row) → Ascends 0 row → (m : Meaning row) → ValuesFit row m.0 → length (writes row m) < 2 ^ 64 → AllByRecursion PieceFits (pieces row m.0)
pieces_fit row up m fits short =
    fits_within (pieces row m.0) (near row 0 up m.0 fits) (omega (arith, short, length-append (spelling (pieces row m.0)) m.1))
