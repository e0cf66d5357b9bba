-- Bytes that are the spelling of fields: what they divide into, and that they have no fault.
use Rattle.std.proofs.Common.{◌≡◌, ℕ, ◌+◌, ◌-◌, ◌*◌, ◌<◌, ◌≤◌, ◌^◌, Bool, true, false, List, [], ◌∷◌, ◌++◌, length, drop, map, None, refl, sym, ap, ◌∙◌, inl, inr, arith, length-append}
use Rattle.std.specs.List.{AllByRecursion, flat_map, list_any}
use Rattle.std.proofs.lemmas.Bool.{cases_Bool}
use Rattle.std.proofs.lemmas.List.{drop_at}
use Rattle.std.proofs.lemmas.List.Concat.{flat_map-append}
use Rattle.hb_wire.specs.Varint.{varint}
use Rattle.hb_wire.specs.Field.{Content, Varint, Fixed64, Body, Fixed32, Piece, IsNumber, ContentFits, PieceFits, SpellsField, wire_type, spelled, spelled_content, spelling}
use Rattle.hb_wire.proofs.FieldLemmas.{field_reads, field_front, spelled_is}
use Rattle.hb_schema.specs.Fields.{Part, parts, behind_last}
use Rattle.hb_schema.specs.Rows.{Row}
use Rattle.hb_schema.specs.Faults.{Check, content_fault, first_fault, message_fault}
use Rattle.hb_schema.specs.Fits.{SpellUnknown, KeptFits}
use Rattle.hb_schema.proofs.Loop.{fault_nil, fault_after}
use Rattle.hb_schema.proofs.Joining.{spelled_divide}

pub all_append : {A : Type 0} (P : A → Type 0) (xs ys : List A) → AllByRecursion P xs → AllByRecursion P ys → AllByRecursion P (xs ++ ys)
all_append P [] ys p q = q
all_append P (x ∷ xs) ys p q = (p.0, all_append P xs ys p.1 q)

pub all_apart : {A : Type 0} (P : A → Type 0) (xs ys : List A) → AllByRecursion P (xs ++ ys) → AllByRecursion P xs × AllByRecursion P ys
all_apart P [] ys all = (tt, all)
all_apart P (x ∷ xs) ys all = let rest = all_apart P xs ys all.1 in ((all.0, rest.0), rest.1)

-- what holds of each follows where more holds
pub all_weaker : {X : Type 0} (P Q : X → Type 0) → ((x : X) → P x → Q x) → (xs : List X) → AllByRecursion P xs → AllByRecursion Q xs
all_weaker P Q weaker [] all = tt
all_weaker P Q weaker (x ∷ xs) all = (weaker x all.0, all_weaker P Q weaker xs all.1)

-- what holds of all holds of those after the last that passes a test
pub behind_all : {A : Type 0} (P : A → Type 0) (test : A → Bool) (xs : List A) → AllByRecursion P xs → AllByRecursion P (behind_last test xs)
behind_all P test [] all = tt
behind_all P test (x ∷ xs) all =
    elim (cases_Bool (list_any test (x ∷ xs))) [
      | inl t ↦ rw t (behind_all P test xs all.1)
      | inr f ↦ rw f all
    ]

-- the part of a field in its canonical spelling
abbrev pub canonical : Piece → Part
canonical piece = record { raw = spelled piece; field = piece }

-- fields that are spelled canonically, and then others, as parts
abbrev pub AreSpelled : List Part → Type 0
AreSpelled = AllByRecursion (λ p. SpellsField p.raw p.field)

pub canonical_spelled : (ps : List Piece) → AllByRecursion PieceFits ps → AreSpelled (map canonical ps)
canonical_spelled [] fits = tt
canonical_spelled (p ∷ ps) fits = (spelled_is p fits.0, canonical_spelled ps fits.1)

pub canonical_bytes : (ps : List Piece) → flat_map (λ (p : Part). p.raw) (map canonical ps) ≡ spelling ps
canonical_bytes [] = refl
canonical_bytes (p ∷ ps) = ap (λ (bs : List ℕ). spelled p ++ bs) (canonical_bytes ps)

-- a field is spelled by some bytes
field_some : (raw : List ℕ) (field : Piece) → SpellsField raw field → 0 < length raw
field_some raw field spells = (field_front (raw ++ []) field (length raw) (field_reads raw [] field spells)).some

-- bytes that spell fields have no fault, where no body has one
pub no_fault_spelled : (check : Check) (ps : List Part) (most place : ℕ) → AreSpelled ps → AllByRecursion (λ p. (end : ℕ) → content_fault check end p.field ≡ None) ps
    → length (flat_map (λ (p : Part). p.raw) ps) ≤ most → first_fault check most place (flat_map (λ (p : Part). p.raw) ps) ≡ None
no_fault_spelled check [] most place spelled clean room = fault_nil check most place
no_fault_spelled check (p ∷ ps) most place spelled clean room =
    let rest = flat_map (λ (q : Part). q.raw) ps in
    let some = field_some p.raw p.field spelled.0 in
    let size = length-append p.raw rest in
    let first = fault_after check place most (p.raw ++ rest) p.field (length p.raw) (omega arith) room (field_reads p.raw rest p.field spelled.0) (clean.0 (place + length p.raw)) in
    let left : drop (length p.raw) (p.raw ++ rest) ≡ rest = drop_at p.raw rest (length p.raw) refl in
    first ∙ ap (first_fault check (most - 1) (place + length p.raw)) left ∙ no_fault_spelled check ps (most - 1) (place + length p.raw) spelled.1 clean.1 (omega arith)

module _ (row : Row) (ps : List Piece) (kept : List ℕ) (is : SpellUnknown row kept) (fits : AllByRecursion PieceFits ps) where
  all_bytes : spelling ps ++ kept ≡ flat_map (λ (p : Part). p.raw) (map canonical ps ++ is.parts)
  all_bytes = ap (λ (bs : List ℕ). bs ++ kept) (sym (canonical_bytes ps)) ∙ ap (λ (bs : List ℕ). flat_map (λ (p : Part). p.raw) (map canonical ps) ++ bs) is.whole
      ∙ sym (flat_map-append (λ (p : Part). p.raw) (map canonical ps) is.parts)

  all_spelled : AreSpelled (map canonical ps ++ is.parts)
  all_spelled = all_append (λ (p : Part). SpellsField p.raw p.field) (map canonical ps) is.parts (canonical_spelled ps fits) is.spelled

  -- canonical fields and bytes that are kept divide into both
  pub parts_again : parts (spelling ps ++ kept) ≡ map canonical ps ++ is.parts
  parts_again = ap parts all_bytes ∙ spelled_divide (map canonical ps ++ is.parts) all_spelled

  -- and have no fault, where no body has one
  pub no_fault_again : (check : Check) (place : ℕ) → AllByRecursion (λ p. (end : ℕ) → content_fault check end p.field ≡ None) (map canonical ps)
      → AllByRecursion (λ p. (end : ℕ) → content_fault check end p.field ≡ None) is.parts → message_fault check place (spelling ps ++ kept) ≡ None
  no_fault_again check place clean clean' =
      ap (message_fault check place) all_bytes
      ∙ no_fault_spelled check (map canonical ps ++ is.parts) (length (flat_map (λ (p : Part). p.raw) (map canonical ps ++ is.parts))) place all_spelled
      (all_append (λ (p : Part). (end : ℕ) → content_fault check end p.field ≡ None) (map canonical ps) is.parts clean clean') (omega arith)

-- what fits but for the length of its body
abbrev pub NumberFits : Content → Type 0
NumberFits (Varint value) = value < 2 ^ 64
NumberFits (Fixed64 value) = value < 2 ^ 64
NumberFits (Body body) = Unit {0}
NumberFits (Fixed32 value) = value < 2 ^ 32

abbrev pub NearlyFits : Piece → Type 0
NearlyFits piece = IsNumber piece.number × NumberFits piece.content

content_fits : (c : Content) (n : ℕ) → NumberFits c → length (spelled_content c) ≤ n → n < 2 ^ 64 → ContentFits c
content_fits (Varint value) n fits le lt = fits
content_fits (Fixed64 value) n fits le lt = fits
content_fits (Body body) n fits le lt = omega (arith, length-append (varint (length body)) body)
content_fits (Fixed32 value) n fits le lt = fits

-- in bytes that are not too long each body fits
pub fits_within : (ps : List Piece) → AllByRecursion NearlyFits ps → length (spelling ps) < 2 ^ 64 → AllByRecursion PieceFits ps
unfolding spelled
fits_within [] near short = tt
fits_within (p ∷ ps) near short =
    let size = length-append (spelled p) (spelling ps) in
    let inner = length-append (varint (8 * p.number + wire_type p.content)) (spelled_content p.content) in
    ((near.0.0, content_fits p.content (length (spelling (p ∷ ps))) near.0.1 (omega arith) short), fits_within ps near.1 (omega arith))

-- the bytes that are kept, where the row keeps some or none
abbrev pub kept_spelled : (keeps : Bool) (row : Row) (bytes : List ℕ) → KeptFits keeps row bytes → SpellUnknown row bytes
kept_spelled true row bytes fits = fits
kept_spelled false row bytes fits = record { parts = []; spelled = tt; not_known = tt; whole = fits }
