-- Spaces, names and values: what is read of them is what spells them.
use Rattle.std.proofs.Common.{◌≡◌, ℕ, true, false, List, [], ◌∷◌, ◌++◌, Some, refl, sym, ap, subst, ◌∙◌, arith, inl, inr, append_assoc, append-nil, take-append-drop}
use Rattle.std.proofs.lemmas.Bool.{cases_Bool}
use Rattle.std.proofs.lemmas.Bool.Decides.{nat_tests}
use Rattle.std.proofs.NetLemmas.Options.{cond_some}
use Rattle.std.proofs.lemmas.List.{nil_from_length}
use Rattle.hb_labels.specs.Texts.{is_name_byte, is_space, IsName, AreSpaces}
use Rattle.hb_labels.specs.Selectors.{SpellsValue}
use Rattle.hb_labels.specs.Reading.{skip, name_front, name_rest, value_of}
use Rattle.hb_labels.proofs.Spans.{Stops, front_each, back_stops, front_is, back_is, back_over, back_none}

-- a space is no byte of a name, and the other way round
pub space_no_name : (b : ℕ) → is_space b ≡ true → is_name_byte b ≡ false
space_no_name b h = grind (arith, nat_tests)

pub name_no_space : (b : ℕ) → is_name_byte b ≡ true → is_space b ≡ false
name_no_space b h = elim (cases_Bool (is_space b)) [
  | inl space ↦ let e = space_no_name b space in absurd cc
  | inr other ↦ other
]

-- a text is the spaces at its front and the rest
pub skip_split : (text : List ℕ) → (gap : List ℕ) × AreSpaces gap × (text ≡ gap ++ skip text)
skip_split text = (_, front_each is_space text, sym (take-append-drop _ text))

pub skip_gap : (gap text : List ℕ) → AreSpaces gap → skip (gap ++ text) ≡ skip text
skip_gap gap text h = back_over is_space gap text h

pub skip_stop : (text : List ℕ) → Stops is_space text → skip text ≡ text
skip_stop text h = back_none is_space text h

pub skip_spaces : (gap : List ℕ) → AreSpaces gap → skip gap ≡ []
skip_spaces gap h = ap skip (sym (append-nil gap)) ∙ skip_gap gap [] h

pub skip_none : (text : List ℕ) → skip text ≡ [] → AreSpaces text
skip_none text h =
    let (gap, spaces, split) = skip_split text in
    subst AreSpaces (sym (split ∙ ap (λ (t : List ℕ). gap ++ t) h ∙ append-nil gap)) spaces

pub name_split : (text : List ℕ) → text ≡ name_front text ++ name_rest text
name_split text = sym (take-append-drop _ text)

-- spaces are followed by no byte of a name, if they are followed by none
pub spaces_stop : (gap text : List ℕ) → AreSpaces gap → Stops is_name_byte text → Stops is_name_byte (gap ++ text)
spaces_stop [] text h stop = stop
spaces_stop (b ∷ gap) text h stop = space_no_name b h.0

pub only_spaces_stop : (gap : List ℕ) → AreSpaces gap → Stops is_name_byte gap
only_spaces_stop [] h = tt
only_spaces_stop (b ∷ gap) h = space_no_name b h.0

-- what is read of a value and spaces
read_value : (value end : List ℕ) → IsName value → AreSpaces end → skip (value ++ end) ≡ value ++ end → value_of (value ++ end) ≡ Some value
unfolding value_of
read_value value end h k e =
    let stop = only_spaces_stop end k in
    let front = ap name_front e ∙ front_is is_name_byte value end h stop in
    let rest = ap name_rest e ∙ back_is is_name_byte value end h stop in
    let none : skip (name_rest (skip (value ++ end))) ≡ [] = ap skip rest ∙ skip_spaces end k in
    rw (none, front) refl

value_skips : (text : List ℕ) → value_of text ≡ value_of (skip text)
unfolding value_of
value_skips text =
    let same : skip (skip text) ≡ skip text = skip_stop (skip text) (back_stops is_space text) in
    rw same refl

pub value_complete : (text value : List ℕ) → SpellsValue text value → value_of text ≡ Some value
value_complete text [] (name, (gap, end, spaces, split, last)) =
    let nothing : skip text ≡ [] = ap skip (split ∙ ap (λ (t : List ℕ). t ++ end) (append-nil gap)) ∙ skip_gap gap end spaces ∙ skip_spaces end last in
    value_skips text ∙ ap value_of nothing ∙ read_value [] [] tt tt refl
value_complete text (b ∷ value) (name, (gap, end, spaces, split, last)) =
    let stay : skip (b ∷ value ++ end) ≡ b ∷ value ++ end = skip_stop (b ∷ value ++ end) (name_no_space b name.0) in
    let there : skip text ≡ b ∷ value ++ end = ap skip (split ∙ append_assoc gap (b ∷ value) end) ∙ skip_gap gap (b ∷ value ++ end) spaces ∙ stay in
    value_skips text ∙ ap value_of there ∙ read_value (b ∷ value) end name last stay

pub value_sound : (text value : List ℕ) → value_of text ≡ Some value → SpellsValue text value
unfolding value_of
value_sound text value h =
    let (test, is) = cond_some _ _ _ h in
    let (gap, spaces, split) = skip_split text in
    let name = front_each is_name_byte (skip text) in
    let end = skip_none (name_rest (skip text)) (nil_from_length _ (grind (arith, nat_tests))) in
    let whole = split ∙ ap (λ (t : List ℕ). gap ++ t) (name_split (skip text)) ∙ sym (append_assoc gap (name_front (skip text)) (name_rest (skip text))) in
    subst (λ (v : List ℕ). SpellsValue text v) is (name, (gap, name_rest (skip text), spaces, whole, end))
