-- What is read of bytes that have no fault has a spelling.
use Rattle.std.proofs.Common.{◌≡◌, ℕ, zero, suc, ◌<◌, ◌^◌, Bool, true, false, cond, eqb, List, [], ◌∷◌, ◌++◌, length, drop, map, Option, None, inl, inr, refl, sym, ap, subst, ◌∙◌, arith, mod-eq_of_lt}
use Rattle.std.specs.Prelude.{pos, FitsSigned, IfSome, IsSome}
use Rattle.std.specs.Int.{w32, w64, cast_signed, int_wrap}
use Rattle.std.specs.Option.{option_map}
use Rattle.std.specs.List.{AllByRecursion, flat_map}
use Rattle.std.specs.Str.{IsUtf8, is_utf8}
use Rattle.std.proofs.lemmas.Bool.{cases_eq, cases_Bool, eq-eqb, ne_eqb}
use Rattle.std.proofs.lemmas.Int.{SFits-int_wrap}
use Rattle.std.proofs.lemmas.Str.{IsUtf8-nil, IsUtf8-from_is_utf8}
use Rattle.hb_wire.specs.Varint.{AreBytes}
use Rattle.hb_wire.specs.Field.{Content, Varint, Fixed64, Body, Fixed32, SpellsField}
use Rattle.hb_wire.proofs.FieldLemmas.{field_front, AreBytes_drop}
use Rattle.hb_wire.proofs.VarintLemmas.{varint_found}
use Rattle.hb_schema.specs.Fields.{Part, parts_of, parts, varints_of, unpacked, varints_at, bodies_at, numbers_at, numbers_in, behind_last, bodies_since, is_body_of, last_or, joined}
use Rattle.hb_schema.specs.Rows.{Kind, U32, U64, I32, I64, Flag, Row, Done, Number, Numbers, Text, Texts, Message, Messages, Raw, knows, keeps_unknown, Ascends, HasOneOfs, IsRow}
use Rattle.hb_schema.specs.Reading.{number_of, kept_of, values, reads}
use Rattle.hb_schema.specs.Fits.{NumberFits, SpellUnknown, KeptFits, ValuesFit, Fits}
use Rattle.hb_schema.specs.Faults.{Check, message_fault, text_fault, packed_fault, fault_in, row_fault}
use Rattle.hb_schema.specs.declared.fault.DecodeFault.{DecodeFault}
use Rattle.hb_schema.proofs.Joining.{Found, Nothing, read_as, Joins, Sound, SoundContent, SoundPart, Whole, whole, parts_joined}
use Rattle.hb_schema.proofs.Pieces.{all_append, AreSpelled, all_weaker, behind_all}
use Rattle.hb_schema.proofs.Least.{VarintFound, VarintNothing, varint_read}
use Rattle.hb_schema.proofs.OneMember.{none_of}

-- ---- lists

-- and of what a function gives of each
each_mapped : {X Y : Type 0} (f : X → Y) (P : X → Type 0) (Q : Y → Type 0) → ((x : X) → P x → Q (f x)) → (xs : List X) → AllByRecursion P xs → AllByRecursion Q (map f xs)
each_mapped f P Q gives [] all = tt
each_mapped f P Q gives (x ∷ xs) all = (gives x all.0, each_mapped f P Q gives xs all.1)

-- what holds of a default and of all items holds of the last
last_is : {A : Type 0} (P : A → Type 0) (d : A) (xs : List A) → P d → AllByRecursion P xs → P (last_or d xs)
last_is P d [] p all = p
last_is P d (x ∷ xs) p all = last_is P x xs all.0 all.1

-- ---- numbers

number_fits : (kind : Kind) (n : ℕ) → n < 2 ^ 64 → NumberFits kind (number_of kind n)
unfolding int_wrap
number_fits U32 n below = omega arith
number_fits U64 n below = below
number_fits I32 n below = SFits-int_wrap w32 (pos n)
number_fits I64 n below = subst (λ (k : ℕ). FitsSigned w64 (cast_signed w64 k)) (mod-eq_of_lt below) (SFits-int_wrap w64 (pos n))
number_fits Flag n below = tt

-- ---- parts of bytes

-- each part is spelled by its bytes
parts_spelled_of : (most : ℕ) (bytes : List ℕ) → AreBytes bytes → AreSpelled (parts_of most bytes)
unfolding parts_of
parts_spelled_of zero bytes are = tt
parts_spelled_of (suc most) bytes are =
    elim (read_as bytes _ refl) [
      | Found p n e ↦ rw e ((field_front bytes p n e).spells are, parts_spelled_of most (drop n bytes) (AreBytes_drop n bytes are))
      | Nothing e ↦ rw e tt
    ]

pub parts_spelled : (bytes : List ℕ) → AreBytes bytes → AreSpelled (parts bytes)
parts_spelled bytes are = parts_spelled_of (length bytes) bytes are

abbrev Below : ℕ → Type 0
Below n = n < 2 ^ 64

-- a varint that is a field's is below 2 ^ 64
varints_step : (at k : ℕ) (raw : List ℕ) (content : Content) (ps : List Part) → SpellsField raw (record { number = k; content = content }) → AllByRecursion Below (varints_at at ps)
    → AllByRecursion Below (varints_at at (record { raw = raw; field = record { number = k; content = content } } ∷ ps))
varints_step at k raw (Varint value) ps spelled rest =
    elim (cases_Bool (eqb k at)) [
      | inl e ↦ rw e (spelled.4.fits, rest)
      | inr e ↦ rw e rest
    ]
varints_step at k raw (Fixed64 value) ps spelled rest = rest
varints_step at k raw (Body body) ps spelled rest = rest
varints_step at k raw (Fixed32 value) ps spelled rest = rest

varints_below : (at : ℕ) (ps : List Part) → AreSpelled ps → AllByRecursion Below (varints_at at ps)
varints_below at [] spelled = tt
varints_below at (p ∷ ps) spelled = varints_step at p.field.number p.raw p.field.content ps spelled.0 (varints_below at ps spelled.1)

-- and so is each of a packed list
unpacked_of : (most : ℕ) (bytes : List ℕ) → AreBytes bytes → AllByRecursion Below (map (λ v. v.0) (varints_of most bytes))
unfolding varints_of
unpacked_of zero bytes are = tt
unpacked_of (suc most) bytes are =
    elim (varint_read bytes _ refl) [
      | VarintFound n size e ↦ rw e ((varint_found bytes n size are e).fits, unpacked_of most (drop size bytes) (AreBytes_drop size bytes are))
      | VarintNothing e ↦ rw e tt
    ]

numbers_step : (check : Check) (at k : ℕ) (raw : List ℕ) (content : Content) (more : List ℕ) → SpellsField raw (record { number = k; content = content }) → SoundContent check k content
    → AllByRecursion Below more → AllByRecursion Below (numbers_in (eqb k at) content ++ more)
numbers_step check at k raw (Varint value) more spelled sound rest =
    elim (cases_Bool (eqb k at)) [
      | inl e ↦ rw e (spelled.4.fits, rest)
      | inr e ↦ rw e rest
    ]
numbers_step check at k raw (Fixed64 value) more spelled sound rest = rest
numbers_step check at k raw (Body body) more spelled sound rest =
    elim (cases_Bool (eqb k at)) [
      | inl e ↦ rw e (all_append Below (unpacked body) more (unpacked_of (length body) body sound.2) rest)
      | inr e ↦ rw e rest
    ]
numbers_step check at k raw (Fixed32 value) more spelled sound rest = rest

numbers_below : (check : Check) (at : ℕ) (ps : List Part) → AreSpelled ps → AllByRecursion (SoundPart check) ps → AllByRecursion Below (numbers_at at ps)
numbers_below check at [] spelled sound = tt
numbers_below check at (p ∷ ps) spelled sound =
    numbers_step check at p.field.number p.raw p.field.content (numbers_at at ps) spelled.0 sound.0 (numbers_below check at ps spelled.1 sound.1)

-- a body has no fault
sound_step : (check : Check) (at k : ℕ) (raw : List ℕ) (content : Content) (ps : List Part) → SoundContent check k content → AllByRecursion (Sound check at) (bodies_at at ps)
    → AllByRecursion (Sound check at) (bodies_at at (record { raw = raw; field = record { number = k; content = content } } ∷ ps))
sound_step check at k raw (Varint value) ps sound rest = rest
sound_step check at k raw (Fixed64 value) ps sound rest = rest
sound_step check at k raw (Fixed32 value) ps sound rest = rest
sound_step check at k raw (Body body) ps sound rest =
    elim (cases_eq k at) [
      | inl e ↦ let t : eqb k at ≡ true = eq-eqb k at e in rw t (subst (λ (n : ℕ). Sound check n body) e sound, rest)
      | inr ne ↦ let f : eqb k at ≡ false = ne_eqb k at ne in rw f rest
    ]

all_sound : (check : Check) (at : ℕ) (ps : List Part) → AllByRecursion (SoundPart check) ps → AllByRecursion (Sound check at) (bodies_at at ps)
all_sound check at [] sound = tt
all_sound check at (p ∷ ps) sound = sound_step check at p.field.number p.raw p.field.content ps sound.0 (all_sound check at ps sound.1)

-- ---- the fields that are not known

-- a part that is kept, or not
kept_with : (row : Row) (p : Part) (b : Bool) (kept : List ℕ) → knows row p.field ≡ b → SpellsField p.raw p.field → SpellUnknown row kept → SpellUnknown row (cond b [] p.raw ++ kept)
kept_with row p true kept e spelled rest = rest
kept_with row p false kept e spelled rest = record {
  parts = p ∷ rest.parts;
  spelled = (spelled, rest.spelled);
  not_known = (e, rest.not_known);
  whole = ap (λ (bs : List ℕ). p.raw ++ bs) rest.whole;
}

-- the bytes that are kept of fields, where a row keeps any and where it does not
kept_by : (row : Row) (keeps : Bool) (ps : List Part) → AreSpelled ps → KeptFits keeps row (flat_map (λ p. cond keeps (cond (knows row p.field) [] p.raw) []) ps)
kept_by row true [] spelled = record { parts = []; spelled = tt; not_known = tt; whole = refl }
kept_by row true (p ∷ ps) spelled = kept_with row p (knows row p.field) (flat_map (λ (q : Part). cond (knows row q.field) [] q.raw) ps) refl spelled.0 (kept_by row true ps spelled.1)
kept_by row false [] spelled = refl
kept_by row false (p ∷ ps) spelled = kept_by row false ps spelled.1

kept_fits : (row : Row) (ps : List Part) → AreSpelled ps → KeptFits (keeps_unknown row) row (flat_map (kept_of row) ps)
kept_fits row ps spelled = kept_by row (keeps_unknown row) ps spelled

-- ---- bodies that are joined

append_bytes : (xs ys : List ℕ) → AreBytes xs → AreBytes ys → AreBytes (xs ++ ys)
append_bytes [] ys p q i = q i
append_bytes (x ∷ xs) ys p q zero = p 0
append_bytes (x ∷ xs) ys p q (suc i) = append_bytes xs ys (λ k. p (suc k)) q i

flat_bytes : (bs : List (List ℕ)) → AllByRecursion AreBytes bs → AreBytes (flat_map (λ b. b) bs)
flat_bytes [] all = λ i. omega arith
flat_bytes (b ∷ bs) all = append_bytes b (flat_map (λ x. x) bs) all.0 (flat_bytes bs all.1)

-- of bodies with no fault no part has one
flat_sound : (check : Check) (bs : List (List ℕ)) → AllByRecursion (Whole check) bs → AllByRecursion (SoundPart check) (flat_map parts bs)
flat_sound check [] all = tt
flat_sound check (b ∷ bs) all = all_append (SoundPart check) (parts b) (flat_map parts bs) all.0.sound (flat_sound check bs all.1)

-- and so in the bodies read as one
sound_joined : (check : Check) (bs : List (List ℕ)) → AllByRecursion (Whole check) bs → AllByRecursion (SoundPart check) (parts (flat_map (λ b. b) bs))
sound_joined check bs all = subst (AllByRecursion (SoundPart check)) (sym (parts_joined bs (all_weaker (Whole check) Joins (λ b is. is.joins) bs all))) (flat_sound check bs all)

-- ---- messages

-- a text that is told no fault
is_text : (text : List ℕ) (place : ℕ) (b : Bool) → is_utf8 text ≡ b → text_fault place text ≡ None → IsUtf8 text
is_text text place true e none = IsUtf8-from_is_utf8 text e
is_text text place false e none = absurd (let told = rw e at none in cc)

-- a check of the fields above a number is that of the row
abbrev Agrees : ℕ → Check → Row → Type 0
Agrees low check row = (n place : ℕ) (body : List ℕ) → low < n → check n place body ≡ fault_in row n place body

-- of the field itself
checked_here : (at : ℕ) (here later : Option DecodeFault) → cond (eqb at at) here later ≡ here
checked_here at here later = let t : eqb at at ≡ true = eq-eqb at at refl in rw t refl

-- of one that comes later
checked_later : (at n : ℕ) (here later : Option DecodeFault) → at < n → cond (eqb n at) here later ≡ later
checked_later at n here later lt = let f : eqb n at ≡ false = ne_eqb n at (λ e. omega (arith, e)) in rw f refl

-- a check that agrees with a row's, on a field that is checked and on the fields after it
module _ (at low : ℕ) (lt : low < at) (check here later : Check) (agree : (n place : ℕ) (body : List ℕ) → low < n → check n place body ≡ cond (eqb n at) (here n place body) (later n place body)) where
  agree_here : (place : ℕ) (body : List ℕ) → check at place body ≡ None → here at place body ≡ None
  agree_here place body none = sym (checked_here at (here at place body) (later at place body)) ∙ sym (agree at place body lt) ∙ none

  agree_later : (n place : ℕ) (body : List ℕ) → at < n → check n place body ≡ later n place body
  agree_later n place body above = agree n place body (omega arith) ∙ checked_later at n (here n place body) (later n place body) above

-- the texts of a field
texts_fit : (at low : ℕ) → low < at → (check later : Check) → ((n place : ℕ) (body : List ℕ) → low < n → check n place body ≡ cond (eqb n at) (text_fault place body) (later n place body))
    → (ps : List Part) → AllByRecursion (SoundPart check) ps → AllByRecursion IsUtf8 (bodies_at at ps)
texts_fit at low lt check later agree ps sound =
    all_weaker (Sound check at) IsUtf8 (λ body s. is_text body s.0 (is_utf8 body) refl (agree_here at low lt check (λ _ place text. text_fault place text) later agree s.0 body s.1)) (bodies_at at ps) (all_sound check at ps sound)

-- the body of a message
whole_body : (at low : ℕ) → low < at → (check inner later : Check) → ((n place : ℕ) (body : List ℕ) → low < n → check n place body ≡ cond (eqb n at) (message_fault inner place body) (later n place body))
    → (body : List ℕ) → Sound check at body → Whole inner body
whole_body at low lt check inner later agree body s = whole inner s.0 body s.2 (agree_here at low lt check (λ _ place bytes. message_fault inner place bytes) later agree s.0 body s.1)

-- what is read fits where its values do
fits_of : (row : Row) (bytes : List ℕ) → AreBytes bytes → ValuesFit row (values row (parts bytes)) → Fits row (reads row bytes)
fits_of row bytes are fit = (fit, kept_fits row (parts bytes) (parts_spelled bytes are))

-- a message that is read of bytes of which no part has a fault
abbrev ReadFits : Row → Type 0
ReadFits row = (bytes : List ℕ) → AreBytes bytes → AllByRecursion (SoundPart (fault_in row)) (parts bytes) → Fits row (reads row bytes)

-- bodies with no fault, read as one
joined_fits : (row : Row) (bs : List (List ℕ)) → ReadFits row → AllByRecursion AreBytes bs → AllByRecursion (Whole (fault_in row)) bs → IfSome (option_map (reads row) (joined bs)) (Fits row)
joined_fits row [] fits are whole = tt
joined_fits row (b ∷ bs) fits are whole = fits (b ++ flat_map (λ x. x) bs) (flat_bytes (b ∷ bs) are) (sound_joined (fault_in row) (b ∷ bs) whole)

-- a member that is there has a body
has_body : (bs : List (List ℕ)) → IsSome (joined bs) → bs ≡ [] → ⊥
has_body [] some none = absurd cc
has_body (b ∷ bs) some none = absurd cc

has_message : {A : Type 0} (f : List ℕ → A) (bs : List (List ℕ)) → IsSome (option_map f (joined bs)) → bs ≡ [] → ⊥
has_message f [] some none = absurd cc
has_message f (b ∷ bs) some none = absurd cc

values_fit : (row whole : Row) (low : ℕ) (check : Check) → Ascends low row → HasOneOfs whole row → Agrees low check row → (ps : List Part) → AreSpelled ps → AllByRecursion (SoundPart check) ps
    → ValuesFit row (values row ps)
unfolding fault_in values
values_fit (Done keeps) whole low check up ones agree ps spelled sound = tt
values_fit (Number at kind rest) whole low check up ones agree ps spelled sound = (
  number_fits kind (last_or 0 (varints_at at ps)) (last_is Below 0 (varints_at at ps) (omega arith) (varints_below at ps spelled)),
  values_fit rest whole at check up.2 ones (λ n place body lt. agree n place body (omega (arith, up.0))) ps spelled sound,
)
values_fit (Numbers at kind rest) whole low check up ones agree ps spelled sound = (
  each_mapped (number_of kind) Below (NumberFits kind) (number_fits kind) (numbers_at at ps) (numbers_below check at ps spelled sound),
  values_fit rest whole at check up.2 ones (agree_later at low up.0 check (λ _ place body. packed_fault place body) (fault_in rest) agree) ps spelled sound,
)
values_fit (Text at rest) whole low check up ones agree ps spelled sound = (
  last_is IsUtf8 [] (bodies_at at ps) IsUtf8-nil (texts_fit at low up.0 check (fault_in rest) agree ps sound),
  values_fit rest whole at check up.2 ones (agree_later at low up.0 check (λ _ place body. text_fault place body) (fault_in rest) agree) ps spelled sound,
)
values_fit (Texts at rest) whole low check up ones agree ps spelled sound = (
  texts_fit at low up.0 check (fault_in rest) agree ps sound,
  values_fit rest whole at check up.2 ones (agree_later at low up.0 check (λ _ place body. text_fault place body) (fault_in rest) agree) ps spelled sound,
)
values_fit (Message at others row rest) whole low check up ones agree ps spelled sound =
    let since : List Part = behind_last (is_body_of others) ps in
    let bodies = all_sound check at since (behind_all (SoundPart check) (is_body_of others) ps sound) in (
      joined_fits row (bodies_at at since) (λ bytes are clean. fits_of row bytes are (values_fit row row 0 (fault_in row) up.2 ones.2 (λ n place body lt. refl) (parts bytes) (parts_spelled bytes are) clean))
          (all_weaker (Sound check at) AreBytes (λ b s. s.2) (bodies_at at since) bodies) (all_weaker (Sound check at) (Whole (fault_in row)) (whole_body at low up.0 check (fault_in row) (fault_in rest) agree) (bodies_at at since) bodies),
      (λ some. none_of rest at others ones.1 ps (has_message (reads row) (bodies_at at since) some)),
      values_fit rest whole at check up.3 ones.3 (agree_later at low up.0 check (λ _ place body. message_fault (fault_in row) place body) (fault_in rest) agree) ps spelled sound,
    )
values_fit (Messages at row rest) whole low check up ones agree ps spelled sound = (
  each_mapped (reads row) (Sound check at) (Fits row) (λ b s. fits_of row b s.2 (values_fit row row 0 (fault_in row) up.2 ones.0 (λ n place body lt. refl) (parts b) (parts_spelled b s.2)
      (whole_body at low up.0 check (fault_in row) (fault_in rest) agree b s).sound)) (bodies_at at ps) (all_sound check at ps sound),
  values_fit rest whole at check up.3 ones.1 (agree_later at low up.0 check (λ _ place body. message_fault (fault_in row) place body) (fault_in rest) agree) ps spelled sound,
)
values_fit (Raw at others rest) whole low check up ones agree ps spelled sound = (
  (λ some. none_of rest at others ones.1 ps (has_body (bodies_since at others ps) some)),
  values_fit rest whole at check up.2 ones.2 (λ n place body lt. agree n place body (omega (arith, up.0))) ps spelled sound,
)

pub read_fits : (row : Row) → IsRow row → (place : ℕ) (bytes : List ℕ) → AreBytes bytes → row_fault row place bytes ≡ None → Fits row (reads row bytes)
unfolding row_fault
read_fits row is place bytes are none =
    fits_of row bytes are (values_fit row row 0 (fault_in row) is.ascends is.one_ofs (λ n place body lt. refl) (parts bytes) (parts_spelled bytes are) (whole (fault_in row) place bytes are none).sound)
