-- What was written has no fault.
use Rattle.std.proofs.Common.{◌≡◌, ℕ, zero, suc, ◌+◌, ◌-◌, ◌<◌, ◌≤◌, ◌^◌, List, [], ◌∷◌, ◌++◌, length, drop, map, Option, Some, None, true, false, cond, eqb, refl, ap, ◌∙◌, arith, length-append}
use Rattle.std.specs.Prelude.{IsUtf8, IfSome}
use Rattle.std.specs.Option.{option_map}
use Rattle.std.specs.List.{AllByRecursion}
use Rattle.std.proofs.lemmas.Bool.{eq-eqb, ne_eqb, or_parts}
use Rattle.std.proofs.lemmas.List.{drop_at}
use Rattle.hb_wire.specs.Varint.{varint}
use Rattle.hb_wire.specs.Field.{Content, Varint, Fixed64, Body, Fixed32, Piece, PieceFits}
use Rattle.hb_wire.proofs.VarintLemmas.{varint_again, varint_nonempty}
use Rattle.hb_schema.specs.Fields.{Part}
use Rattle.hb_schema.specs.Rows.{Row, Done, Number, Numbers, Text, Texts, Message, Messages, Raw, Values, Meaning, knows, keeps_unknown, Ascends, IsRow}
use Rattle.hb_schema.specs.Writing.{varint_of, number_field, text_field, body_field, body_fields, packed, pieces, writes}
use Rattle.hb_schema.specs.Fits.{ValuesFit, Fits}
use Rattle.hb_schema.specs.Faults.{Check, content_fault, first_varint_fault, fault_in, row_fault}
use Rattle.hb_schema.proofs.Texts.{no_text_fault}
use Rattle.hb_schema.proofs.Pieces.{all_append, canonical, no_fault_again, all_apart, kept_spelled}
use Rattle.hb_schema.proofs.Packing.{packed_fault_nil, packed_fault_after}
use Rattle.hb_schema.proofs.Near.{varints_below, pieces_fit}

-- ---- a packed list that was written

-- varints that were written, looked at up to `most`
packed_clean : (ns : List ℕ) (most place : ℕ) → AllByRecursion (λ n. n < 2 ^ 64) ns → length (packed ns) ≤ most → first_varint_fault most place (packed ns) ≡ None
packed_clean [] most place below room = packed_fault_nil most place
packed_clean (n ∷ ns) most place below room =
    let some = varint_nonempty n in
    let size = length-append (varint n) (packed ns) in
    let first = packed_fault_after place most (varint n ++ packed ns) n (length (varint n)) (omega arith) room (varint_again n (packed ns) below.0) in
    let left : drop (length (varint n)) (varint n ++ packed ns) ≡ packed ns = drop_at (varint n) (packed ns) (length (varint n)) refl in
    first ∙ ap (first_varint_fault (most - 1) (place + length (varint n))) left ∙ packed_clean ns (most - 1) (place + length (varint n)) below.1 (omega arith)

-- ---- fields with no fault

-- a field with a number above `low`, with no fault
abbrev Clean : ℕ → Check → Piece → Type 0
Clean low check p = (low < p.number) × ((end : ℕ) → content_fault check end p ≡ None)

-- whether the number is that of the field at the front
here : {A : Type 0} (at : ℕ) (x y : A) → cond (eqb at at) x y ≡ x
here at x y = let same : eqb at at ≡ true = eq-eqb at at refl in rw same refl

passed : {A : Type 0} (number at : ℕ) (x y : A) → (number ≡ at → ⊥) → cond (eqb number at) x y ≡ y
passed number at x y other = let not : eqb number at ≡ false = ne_eqb number at other in rw not refl

-- with greater numbers than `at`, by a check that goes on to another for these
above_clean : (low at : ℕ) (check rest : Check) → low < at → ((number place : ℕ) (body : List ℕ) → (number ≡ at → ⊥) → check number place body ≡ rest number place body)
    → (ps : List Piece) → AllByRecursion (Clean at rest) ps → AllByRecursion (Clean low check) ps
above_clean low at check rest lt on [] clean = tt
above_clean low at check rest lt on (p ∷ ps) clean =
    ((omega (arith, clean.0.0), λ end. content_on end p.number p.content clean.0.0 (clean.0.1 end)), above_clean low at check rest lt on ps clean.1)
  where
    content_on : (end number : ℕ) (content : Content) → at < number → content_fault rest end (record { number = number; content = content }) ≡ None
        → content_fault check end (record { number = number; content = content }) ≡ None
    content_on end number (Varint value) above none = refl
    content_on end number (Fixed64 value) above none = refl
    content_on end number (Body body) above none = on number (end - length body) body (λ e. omega arith) ∙ none
    content_on end number (Fixed32 value) above none = refl

module _ (low at : ℕ) (check : Check) (lt : low < at) where
  number_clean : (n : ℕ) → AllByRecursion (Clean low check) (number_field at n)
  number_clean zero = tt
  number_clean (suc n) = ((lt, λ end. refl), tt)

  text_clean : (text : List ℕ) → ((place : ℕ) → check at place text ≡ None) → AllByRecursion (Clean low check) (text_field at text)
  text_clean [] none = tt
  text_clean (b ∷ text) none = ((lt, λ end. none _), tt)

  raw_clean : (body : Option (List ℕ)) → ((place : ℕ) (body : List ℕ) → check at place body ≡ None) → AllByRecursion (Clean low check) (body_field at body)
  raw_clean None none = tt
  raw_clean (Some body) none = ((lt, λ end. none _ body), tt)

  texts_clean : (texts : List (List ℕ)) → ((place : ℕ) (text : List ℕ) → IsUtf8 text → check at place text ≡ None) → AllByRecursion IsUtf8 texts
      → AllByRecursion (Clean low check) (body_fields at texts)
  texts_clean [] none are = tt
  texts_clean (text ∷ texts) none are = ((lt, λ end. none _ text are.0), texts_clean texts none are.1)

  -- messages, each of whose spellings fits in a field
  module _ (row : Row) (none : (place : ℕ) (m : Meaning row) → Fits row m → length (writes row m) < 2 ^ 64 → check at place (writes row m) ≡ None) where
    message_clean : (m : Option (Meaning row)) → IfSome m (Fits row) → AllByRecursion PieceFits (body_field at (option_map (writes row) m))
        → AllByRecursion (Clean low check) (body_field at (option_map (writes row) m))
    message_clean None fits short = tt
    message_clean (Some m) fits short = ((lt, λ end. none _ m fits short.0.1), tt)

    messages_clean : (ms : List (Meaning row)) → AllByRecursion (Fits row) ms → AllByRecursion PieceFits (body_fields at (map (writes row) ms))
        → AllByRecursion (Clean low check) (body_fields at (map (writes row) ms))
    messages_clean [] fit short = tt
    messages_clean (m ∷ ms) fit short = ((lt, λ end. none _ m fit.0 short.0.1), messages_clean ms fit.1 short.1)

-- a body with a number that is below those of the row is not checked
not_below : (row : Row) (low number place : ℕ) (body : List ℕ) → Ascends low row → number ≤ low → fault_in row number place body ≡ None
unfolding fault_in
not_below (Done keeps) low number place body up le = refl
not_below (Number at kind rest) low number place body up le = not_below rest at number place body up.2 (omega (arith, up.0))
not_below (Numbers at kind rest) low number place body up le = let lt = up.0 in passed number at _ _ (λ e. omega arith) ∙ not_below rest at number place body up.2 (omega arith)
not_below (Text at rest) low number place body up le = let lt = up.0 in passed number at _ _ (λ e. omega arith) ∙ not_below rest at number place body up.2 (omega arith)
not_below (Texts at rest) low number place body up le = let lt = up.0 in passed number at _ _ (λ e. omega arith) ∙ not_below rest at number place body up.2 (omega arith)
not_below (Message at others row rest) low number place body up le = let lt = up.0 in passed number at _ _ (λ e. omega arith) ∙ not_below rest at number place body up.3 (omega arith)
not_below (Messages at row rest) low number place body up le = let lt = up.0 in passed number at _ _ (λ e. omega arith) ∙ not_below rest at number place body up.3 (omega arith)
not_below (Raw at others rest) low number place body up le = not_below rest at number place body up.2 (omega (arith, up.0))

-- ---- what is not known is not checked

body_passes : (row : Row) (number place : ℕ) (body : List ℕ) → knows row (record { number = number; content = Body body }) ≡ false → fault_in row number place body ≡ None
unfolding fault_in
body_passes (Done keeps) number place body not = refl
body_passes (Number at kind rest) number place body not = body_passes rest number place body not
body_passes (Numbers at kind rest) number place body not = let both = or_parts (eqb number at) (knows rest _) not in rw both.0 (body_passes rest number place body both.1)
body_passes (Text at rest) number place body not = let both = or_parts (eqb number at) (knows rest _) not in rw both.0 (body_passes rest number place body both.1)
body_passes (Texts at rest) number place body not = let both = or_parts (eqb number at) (knows rest _) not in rw both.0 (body_passes rest number place body both.1)
body_passes (Message at others row rest) number place body not = let both = or_parts (eqb number at) (knows rest _) not in rw both.0 (body_passes rest number place body both.1)
body_passes (Messages at row rest) number place body not = let both = or_parts (eqb number at) (knows rest _) not in rw both.0 (body_passes rest number place body both.1)
body_passes (Raw at others rest) number place body not = body_passes rest number place body (or_parts (eqb number at) (knows rest _) not).1

passes : (row : Row) (end number : ℕ) (content : Content) → knows row (record { number = number; content = content }) ≡ false
    → content_fault (fault_in row) end (record { number = number; content = content }) ≡ None
passes row end number (Varint value) not = refl
passes row end number (Fixed64 value) not = refl
passes row end number (Body body) not = body_passes row number (end - length body) body not
passes row end number (Fixed32 value) not = refl

-- ---- a message

-- parts with no fault
abbrev Unfaulty : Check → List Part → Type 0
Unfaulty check = AllByRecursion (λ p. (end : ℕ) → content_fault check end p.field ≡ None)

unknown_clean : (row : Row) (us : List Part) → AllByRecursion (λ p. knows row p.field ≡ false) us → Unfaulty (fault_in row) us
unknown_clean row [] not = tt
unknown_clean row (u ∷ us) not = (λ end. passes row end u.field.number u.field.content not.0, unknown_clean row us not.1)

canonical_clean : (low : ℕ) (check : Check) (ps : List Piece) → AllByRecursion (Clean low check) ps → Unfaulty check (map canonical ps)
canonical_clean low check [] clean = tt
canonical_clean low check (p ∷ ps) clean = (clean.0.1, canonical_clean low check ps clean.1)

-- none of the fields of the values has a fault
abbrev FieldsClean : ℕ → Row → Type 0
FieldsClean low row = (vs : Values row) → ValuesFit row vs → AllByRecursion PieceFits (pieces row vs) → AllByRecursion (Clean low (fault_in row)) (pieces row vs)

whole_clean : (row : Row) → Ascends 0 row → FieldsClean 0 row → (place : ℕ) (m : Meaning row) → Fits row m → length (writes row m) < 2 ^ 64 → row_fault row place (writes row m) ≡ None
unfolding row_fault
whole_clean row up clean place m fits short =
    let fit = pieces_fit row up m fits.0 short in
    let kept = kept_spelled (keeps_unknown row) row m.1 fits.1 in
    no_fault_again row (pieces row m.0) m.1 kept fit (fault_in row) place
    (canonical_clean 0 (fault_in row) (pieces row m.0) (clean m.0 fits.0 fit)) (unknown_clean row kept.parts kept.not_known)

-- a field, and the rest of the fields
field_clean : (low at : ℕ) (check rest : Check) → low < at → ((number place : ℕ) (body : List ℕ) → (number ≡ at → ⊥) → check number place body ≡ rest number place body)
    → (ps qs : List Piece) → AllByRecursion PieceFits (ps ++ qs) → (AllByRecursion PieceFits ps → AllByRecursion (Clean low check) ps)
    → (AllByRecursion PieceFits qs → AllByRecursion (Clean at rest) qs) → AllByRecursion (Clean low check) (ps ++ qs)
field_clean low at check rest lt on ps qs fit first others =
    let both = all_apart PieceFits ps qs fit in
    all_append (Clean low check) ps qs (first both.0) (above_clean low at check rest lt on qs (others both.1))

fields_clean : (row : Row) (low : ℕ) → Ascends low row → FieldsClean low row
unfolding pieces fault_in row_fault
fields_clean (Done keeps) low up vs fits fit = tt
fields_clean (Number at kind rest) low up vs fits fit =
    field_clean low at (fault_in (Number at kind rest)) (fault_in rest) up.0 (λ number place body other. refl) (number_field at (varint_of kind vs.0)) (pieces rest vs.1) fit
    (λ own. number_clean low at (fault_in (Number at kind rest)) up.0 (varint_of kind vs.0)) (fields_clean rest at up.2 vs.1 fits.1)
fields_clean (Numbers at kind rest) low up vs fits fit =
    let ns : List ℕ = map (varint_of kind) vs.0 in
    field_clean low at (fault_in (Numbers at kind rest)) (fault_in rest) up.0 (λ number place body other. passed number at _ _ other) (text_field at (packed ns)) (pieces rest vs.1) fit
    (λ own. text_clean low at (fault_in (Numbers at kind rest)) up.0 (packed ns) (λ place. here at _ _ ∙ packed_clean ns (length (packed ns)) place (varints_below kind vs.0 fits.0) (omega arith)))
    (fields_clean rest at up.2 vs.1 fits.1)
fields_clean (Text at rest) low up vs fits fit =
    field_clean low at (fault_in (Text at rest)) (fault_in rest) up.0 (λ number place body other. passed number at _ _ other) (text_field at vs.0) (pieces rest vs.1) fit
    (λ own. text_clean low at (fault_in (Text at rest)) up.0 vs.0 (λ place. here at _ _ ∙ no_text_fault place vs.0 fits.0))
    (fields_clean rest at up.2 vs.1 fits.1)
fields_clean (Texts at rest) low up vs fits fit =
    field_clean low at (fault_in (Texts at rest)) (fault_in rest) up.0 (λ number place body other. passed number at _ _ other) (body_fields at vs.0) (pieces rest vs.1) fit
    (λ own. texts_clean low at (fault_in (Texts at rest)) up.0 vs.0 (λ place text is. here at _ _ ∙ no_text_fault place text is) fits.0)
    (fields_clean rest at up.2 vs.1 fits.1)
fields_clean (Message at others row rest) low up vs fits fit =
    let check = fault_in (Message at others row rest) in
    let inside = whole_clean row up.2 (fields_clean row 0 up.2) in
    field_clean low at check (fault_in rest) up.0 (λ number place body other. passed number at _ _ other) (body_field at (option_map (writes row) vs.0)) (pieces rest vs.1) fit
    (message_clean low at check up.0 row (λ place m fits short. here at _ _ ∙ inside place m fits short) vs.0 fits.0)
    (fields_clean rest at up.3 vs.1 fits.2)
fields_clean (Messages at row rest) low up vs fits fit =
    let check = fault_in (Messages at row rest) in
    let inside = whole_clean row up.2 (fields_clean row 0 up.2) in
    field_clean low at check (fault_in rest) up.0 (λ number place body other. passed number at _ _ other) (body_fields at (map (writes row) vs.0)) (pieces rest vs.1) fit
    (messages_clean low at check up.0 row (λ place m fits short. here at _ _ ∙ inside place m fits short) vs.0 fits.0)
    (fields_clean rest at up.3 vs.1 fits.1)
fields_clean (Raw at others rest) low up vs fits fit =
    field_clean low at (fault_in (Raw at others rest)) (fault_in rest) up.0 (λ number place body other. refl) (body_field at vs.0) (pieces rest vs.1) fit
    (λ own. raw_clean low at (fault_in (Raw at others rest)) up.0 vs.0 (λ place body. not_below rest at at place body up.2 (omega arith)))
    (fields_clean rest at up.2 vs.1 fits.1)

pub written_no_fault : (row : Row) → IsRow row → (place : ℕ) (m : Meaning row) → Fits row m → length (writes row m) < 2 ^ 64 → row_fault row place (writes row m) ≡ None
written_no_fault row is = whole_clean row is.ascends (fields_clean row 0 is.ascends)
