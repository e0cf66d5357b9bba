-- In bytes with no fault the messages join, so that read one field after another they are what they
-- read as number by number.
use Rattle.std.proofs.Common.{◌≡◌, ℕ, ◌<◌, true, false, cond, eqb, List, [], ◌++◌, Some, None, refl, sym, subst, ◌∙◌, inl, inr, arith}
use Rattle.std.proofs.lemmas.Bool.{cases_Bool, eqb-true, eq-eqb, ne_eqb}
use Rattle.hb_wire.specs.Varint.{AreBytes}
use Rattle.hb_wire.specs.Field.{Content, Varint, Fixed64, Body, Fixed32}
use Rattle.hb_schema.specs.Fields.{Part, parts, body_in}
use Rattle.hb_schema.specs.Rows.{Row, Done, Number, Numbers, Text, Texts, Message, Messages, Raw, Ascends, IsRow}
use Rattle.hb_schema.specs.Reading.{reads}
use Rattle.hb_schema.specs.Faults.{Check, text_fault, packed_fault, fault_in, row_fault}
use Rattle.hb_schema.specs.Steps.{merged}
use Rattle.hb_schema.proofs.Joining.{Sound, SoundContent, SoundPart, whole}
use Rattle.hb_schema.proofs.Pieces.{all_weaker}
use Rattle.hb_schema.proofs.Stepping.{Clean, CleanBytes, BodyIs, clean_nil, reads_nothing, merged_is}

-- the body of a part has no fault, where its number is above `low`
abbrev SoundAbove : ℕ → Check → Part → Type 0
SoundAbove low check p = (body : List ℕ) → body_in true p.field.content ≡ Some body → low < p.field.number → Sound check p.field.number body

body_sound : (check : Check) (number : ℕ) (content : Content) → SoundContent check number content → (body : List ℕ) → body_in true content ≡ Some body → Sound check number body
body_sound check number (Varint value) sound body e = absurd cc
body_sound check number (Fixed64 value) sound body e = absurd cc
body_sound check number (Body found) sound body e = let same : found ≡ body = cc in subst (Sound check number) same sound
body_sound check number (Fixed32 value) sound body e = absurd cc

-- a body with the number that is asked for
body_with : (number at : ℕ) (content : Content) (body : List ℕ) → body_in (eqb number at) content ≡ Some body → (number ≡ at) × (body_in true content ≡ Some body)
body_with number at (Varint value) body e = absurd cc
body_with number at (Fixed64 value) body e = absurd cc
body_with number at (Body found) body e =
    elim (cases_Bool (eqb number at)) [
      | inl t ↦ (eqb-true number at t, rw t at e)
      | inr f ↦ let none : None ≡ Some body = rw f at e in absurd cc
    ]
body_with number at (Fixed32 value) body e = absurd cc

-- what is checked of a number above that of a field, after that field
sound_after : (low at : ℕ) → low < at → (check rest here : Check) → ((number place : ℕ) (body : List ℕ) → check number place body ≡ cond (eqb number at) (here number place body) (rest number place body))
    → (p : Part) → SoundAbove low check p → SoundAbove at rest p
sound_after low at lt check rest here is p sound body e above =
    let found = sound body e (omega arith) in
    let other : eqb p.field.number at ≡ false = ne_eqb p.field.number at (λ same. omega (arith, same)) in
    (found.0, rw other at (sym (is p.field.number found.0 body) ∙ found.1), found.2)

-- a message of a row, where its parts without fault are clean
clean_message : (row : Row) → ((p : Part) → SoundAbove 0 (fault_in row) p → Clean row p) → (place : ℕ) (bytes : List ℕ) → AreBytes bytes → row_fault row place bytes ≡ None → CleanBytes row bytes
unfolding row_fault
clean_message row clean place bytes are none =
    let is = whole (fault_in row) place bytes are none in
    (is.joins, all_weaker (SoundPart (fault_in row)) (Clean row) (λ p sound. clean p (λ body e above. body_sound (fault_in row) p.field.number p.field.content sound body e)) (parts bytes) is.sound)

-- the message in a field of the row
clean_field : (low at : ℕ) → low < at → (check rest : Check) (row : Row)
    → ((number place : ℕ) (body : List ℕ) → check number place body ≡ cond (eqb number at) (row_fault row place body) (rest number place body))
    → ((p : Part) → SoundAbove 0 (fault_in row) p → Clean row p) → (p : Part) → SoundAbove low check p → BodyIs (CleanBytes row) at p
clean_field low at lt check rest row is clean p sound body e =
    let found = body_with p.field.number at p.field.content body e in
    let at_it : low < p.field.number = omega (arith, found.0) in
    let no_fault = sound body found.1 at_it in
    let same : eqb p.field.number at ≡ true = eq-eqb p.field.number at found.0 in
    clean_message row clean no_fault.0 body no_fault.2 (rw same at (sym (is p.field.number no_fault.0 body) ∙ no_fault.1))

clean_part : (row : Row) (low : ℕ) → Ascends low row → (p : Part) → SoundAbove low (fault_in row) p → Clean row p
unfolding fault_in row_fault
clean_part (Done keeps) low asc p sound = tt
clean_part (Number at kind rest) low asc p sound = clean_part rest at asc.2 p (λ body e above. sound body e (omega (arith, asc.0)))
clean_part (Numbers at kind rest) low asc p sound =
    clean_part rest at asc.2 p (sound_after low at asc.0 (fault_in (Numbers at kind rest)) (fault_in rest) (λ n place b. packed_fault place b) (λ n place b. refl) p sound)
clean_part (Text at rest) low asc p sound =
    clean_part rest at asc.2 p (sound_after low at asc.0 (fault_in (Text at rest)) (fault_in rest) (λ n place b. text_fault place b) (λ n place b. refl) p sound)
clean_part (Texts at rest) low asc p sound =
    clean_part rest at asc.2 p (sound_after low at asc.0 (fault_in (Texts at rest)) (fault_in rest) (λ n place b. text_fault place b) (λ n place b. refl) p sound)
clean_part (Message at others row rest) low asc p sound = (
  clean_field low at asc.0 (fault_in (Message at others row rest)) (fault_in rest) row (λ n place b. refl) (clean_part row 0 asc.2) p sound,
  clean_part rest at asc.3 p (sound_after low at asc.0 (fault_in (Message at others row rest)) (fault_in rest) (λ n place b. row_fault row place b) (λ n place b. refl) p sound),
)
clean_part (Messages at row rest) low asc p sound = (
  clean_field low at asc.0 (fault_in (Messages at row rest)) (fault_in rest) row (λ n place b. refl) (clean_part row 0 asc.2) p sound,
  clean_part rest at asc.3 p (sound_after low at asc.0 (fault_in (Messages at row rest)) (fault_in rest) (λ n place b. row_fault row place b) (λ n place b. refl) p sound),
)
clean_part (Raw at others rest) low asc p sound = clean_part rest at asc.2 p (λ body e above. sound body e (omega (arith, asc.0)))

-- bytes with no fault are clean
pub clean_bytes : (row : Row) → IsRow row → (place : ℕ) (bytes : List ℕ) → AreBytes bytes → row_fault row place bytes ≡ None → CleanBytes row bytes
clean_bytes row is place bytes are none = clean_message row (clean_part row 0 is.ascends) place bytes are none

-- field after field they are what they read as
pub read_is : (row : Row) → IsRow row → (place : ℕ) (bytes : List ℕ) → AreBytes bytes → row_fault row place bytes ≡ None → merged row None bytes ≡ reads row bytes
read_is row is place bytes are none =
    let clean = clean_bytes row is place bytes are none in
    merged_is row is.one_ofs None [] bytes (clean_nil row) clean.1 (reads_nothing row)

-- and so are they behind others with no fault
pub joined_is : (row : Row) → IsRow row → (place there : ℕ) (bytes more : List ℕ) → AreBytes bytes → AreBytes more → row_fault row place bytes ≡ None → row_fault row there more ≡ None
    → merged row (Some (reads row bytes)) more ≡ reads row (bytes ++ more)
joined_is row is place there bytes more are are' none none' =
    let clean = clean_bytes row is place bytes are none in
    let clean' = clean_bytes row is there more are' none' in
    merged_is row is.one_ofs (Some (reads row bytes)) bytes more clean clean'.1 refl
