-- What is read behind a key spells what is asked of it.
use Rattle.std.proofs.Common.{◌≡◌, ℕ, Bool, true, false, not, ◌==◌, List, [], ◌∷◌, ◌++◌, length, Option, Some, None, refl, sym, ap, subst, ◌∙◌, arith, inl, inr, append_assoc, eqb-true, codes, bytes_eq, cond, take-append-drop}
use Rattle.std.specs.Option.{option_map}
use Rattle.std.proofs.lemmas.Bool.{cases_Bool}
use Rattle.std.proofs.lemmas.Bool.Decides.{nat_tests}
use Rattle.std.proofs.lemmas.List.{nil_from_length}
use Rattle.std.proofs.NetLemmas.Options.{map_some}
use Rattle.std.proofs.lemmas.Slice.Eq.{bytes_eq-Decides}
use Rattle.hb_labels.specs.declared.operator.Operator.{Operator}
use Rattle.hb_labels.specs.declared.operator.Operator.TheVariants.{Exists, In, NotIn}
use Rattle.hb_labels.specs.Texts.{is_name_byte, AreSpaces, Spaced, Joined}
use Rattle.hb_labels.specs.Selectors.{SpellsValue}
use Rattle.hb_labels.specs.Reading.{skip, name_front, name_rest, before_close, from_close, value_of, values_of, one_value, list_within, list_of, list_operator, after_equal, not_equal, operator_of}
use Rattle.hb_labels.proofs.Spans.{Stops, back_stops}
use Rattle.hb_labels.proofs.Values.{skip_split, skip_none, name_split, value_sound}
use Rattle.hb_labels.proofs.JoinedLemmas.{joined_sound}
use Rattle.hb_labels.proofs.Operators.{Tail, TailOne, TailList, one_sound, is_inner, space_is}

-- ---- values in parentheses

cond_some_option : {A : Type 0} (b : Bool) (o : Option A) (x : A) → cond b o None ≡ Some x → (b ≡ true) × (o ≡ Some x)
cond_some_option true o x h = (refl, h)
cond_some_option false o x h = absurd cc

closes : (b : Bool) → not b ≡ false → b ≡ true
closes true h = refl
closes false h = absurd cc

record ListText (text : List ℕ) (values : List (List ℕ)) : Type 0 where
  inner : List ℕ
  joined : Joined SpellsValue inner values
  spaced : Spaced text ((codes "(" ++ inner ++ codes ")") ∷ [])

close_split : (text : List ℕ) → text ≡ before_close text ++ from_close text
close_split text = sym (take-append-drop _ text)

within_sound : (inner rest : List ℕ) (values : List (List ℕ)) → Stops is_inner rest → list_within inner rest ≡ Some values → (end : List ℕ) × (rest ≡ 41 ∷ end) × AreSpaces end × Joined SpellsValue inner values
unfolding list_within
within_sound inner [] values stop h = absurd cc
within_sound inner (c ∷ end) values stop h =
    let (test, read) = cond_some_option (length (skip end) == 0) (values_of inner) values h in
    let last = skip_none end (nil_from_length _ (grind (arith, nat_tests))) in
    let byte : c ≡ 41 = eqb-true c 41 (closes (c == 41) stop) in
    (end, ap (λ (x : ℕ). x ∷ end) byte, last, joined_sound SpellsValue value_of value_sound values inner read)

list_left : (text left : List ℕ) (values : List (List ℕ)) → skip text ≡ left → list_of left ≡ Some values → ListText text values
unfolding list_of
list_left text [] values e h = absurd cc
list_left text (b ∷ left) values e h =
    let (gap, spaces, split) = skip_split text in
    let (test, read) = cond_some_option (b == 40) (list_within (before_close left) (from_close left)) values h in
    let byte : b ≡ 40 = eqb-true b 40 test in
    let (end, closed, last, joined) = within_sound (before_close left) (from_close left) values (back_stops is_inner left) read in
    let parts : left ≡ before_close left ++ 41 ∷ end = close_split left ∙ ap (λ (t : List ℕ). before_close left ++ t) closed in
    let whole : text ≡ gap ++ 40 ∷ (before_close left ++ 41 ∷ end) = split ∙ ap (λ (t : List ℕ). gap ++ t) (e ∙ ap (λ (x : ℕ). x ∷ left) byte ∙ ap (λ (t : List ℕ). 40 ∷ t) parts) in
    let grouped : gap ++ 40 ∷ (before_close left ++ 41 ∷ end) ≡ gap ++ (codes "(" ++ before_close left ++ codes ")") ++ end = simp append_assoc in
    record { inner = before_close left; joined = joined; spaced = (gap, end, spaces, whole ∙ grouped, last) }

list_sound : (text : List ℕ) (values : List (List ℕ)) → list_of (skip text) ≡ Some values → ListText text values
list_sound text values h = list_left text (skip text) values refl h

-- ---- a word and values

-- spaces, of which the last stands alone
spaces_last : (b : ℕ) (gap : List ℕ) → AreSpaces (b ∷ gap) → (front : List ℕ) × AreSpaces front × (b ∷ gap ≡ front ++ 32 ∷ [])
spaces_last b [] h = ([], tt, ap (λ (x : ℕ). x ∷ []) (space_is b h.0))
spaces_last b (c ∷ gap) h = let (front, spaces, e) = spaces_last c gap h.1 in (b ∷ front, (h.0, spaces), ap (λ (t : List ℕ). b ∷ t) e)

regrouped : (front word rest : List ℕ) → (front ++ 32 ∷ []) ++ (word ++ rest) ≡ front ++ (codes " " ++ word) ++ rest
regrouped front word rest = simp append_assoc

-- a word that a name does not go on into stands behind a space
word_behind : (text gap word rest : List ℕ) (values : List (List ℕ)) → AreSpaces gap → text ≡ gap ++ (word ++ rest) → Stops is_name_byte text → (Stops is_name_byte (word ++ rest) → ⊥)
    → ListText rest values → TailList text word values
word_behind text [] word rest values spaces split stop named list = absurd (named (subst (λ (t : List ℕ). Stops is_name_byte t) split stop))
word_behind text (b ∷ gap) word rest values spaces split stop named list =
    let (front, space, e) = spaces_last b gap spaces in
    let whole : text ≡ front ++ (codes " " ++ word) ++ rest = split ∙ ap (λ (t : List ℕ). t ++ (word ++ rest)) e ∙ regrouped front word rest in
    (list.inner, list.joined, (front, rest, space, whole, list.spaced))

list_operator_sound : (text left : List ℕ) (operator : Operator) → skip text ≡ left → Stops is_name_byte text → list_operator left ≡ Some operator → Tail text operator
unfolding list_operator
list_operator_sound text left operator e stop h = elim (cases_Bool (bytes_eq (name_front left) (codes "in"))) [
  | inl is_in ↦
      map_some In (list_of (skip (name_rest left))) operator (rw is_in at h) λ values read is.
      let (gap, spaces, split) = skip_split text in
      let word = (bytes_eq-Decides (name_front left) (codes "in")).0 is_in in
      let whole = split ∙ ap (λ (t : List ℕ). gap ++ t) (e ∙ name_split left ∙ ap (λ (t : List ℕ). t ++ name_rest left) word) in
      subst (λ (o : Operator). Tail text o) is
      (inr (inr (word_behind text gap (codes "in") (name_rest left) values spaces whole stop (λ named. absurd cc) (list_sound (name_rest left) values read))))
  | inr other ↦ elim (cases_Bool (bytes_eq (name_front left) (codes "notin"))) [
    | inl is_notin ↦
        map_some NotIn (list_of (skip (name_rest left))) operator (rw (other, is_notin) at h) λ values read is.
        let (gap, spaces, split) = skip_split text in
        let word = (bytes_eq-Decides (name_front left) (codes "notin")).0 is_notin in
        let whole = split ∙ ap (λ (t : List ℕ). gap ++ t) (e ∙ name_split left ∙ ap (λ (t : List ℕ). t ++ name_rest left) word) in
        subst (λ (o : Operator). Tail text o) is
        (inr (word_behind text gap (codes "notin") (name_rest left) values spaces whole stop (λ named. absurd cc) (list_sound (name_rest left) values read)))
    | inr neither ↦ let none = rw (other, neither) at h in absurd cc
  ]
]

-- ---- a sign and a value

-- a text behind spaces and a sign
behind_sign : (text sign rest : List ℕ) (values : List (List ℕ)) → skip text ≡ sign ++ rest → (value : List ℕ) × SpellsValue rest value × (values ≡ value ∷ []) → TailOne text sign values
behind_sign text sign rest values e (value, spelled, is) =
    let (gap, spaces, split) = skip_split text in
    let whole : text ≡ gap ++ sign ++ rest = split ∙ ap (λ (t : List ℕ). gap ++ t) e ∙ sym (append_assoc gap sign rest) in
    (value, spelled.0, is, (gap, rest, spaces, whole, spelled.1))

equal_sound : (text left : List ℕ) (values : List (List ℕ)) → skip text ≡ 61 ∷ left → one_value (after_equal left) ≡ Some values → Tail text (In values)
equal_sound text [] values e h = inl (behind_sign text (codes "=") [] values e (one_sound [] values h))
equal_sound text (b ∷ left) values e h = elim (cases_Bool (b == 61)) [
  | inl twice ↦
      let byte : b ≡ 61 = eqb-true b 61 twice in
      inr (inl (behind_sign text (codes "==") left values (e ∙ ap (λ (x : ℕ). 61 ∷ x ∷ left) byte) (one_sound left values (rw twice at h))))
  | inr once ↦ inl (behind_sign text (codes "=") (b ∷ left) values e (one_sound (b ∷ left) values (rw once at h)))
]

not_equal_sound : (text left : List ℕ) (operator : Operator) → skip text ≡ 33 ∷ left → not_equal left ≡ Some operator → Tail text operator
unfolding not_equal
not_equal_sound text [] operator e h = absurd cc
not_equal_sound text (b ∷ left) operator e h =
    let (test, mapped) = cond_some_option (b == 61) (option_map NotIn (one_value left)) operator h in
    let byte : b ≡ 61 = eqb-true b 61 test in
    map_some NotIn (one_value left) operator mapped λ values read is.
    subst (λ (o : Operator). Tail text o) is (inl (behind_sign text (codes "!=") left values (e ∙ ap (λ (x : ℕ). 33 ∷ x ∷ left) byte) (one_sound left values read)))

operator_left : (text left : List ℕ) (operator : Operator) → skip text ≡ left → Stops is_name_byte text → operator_of left ≡ Some operator → Tail text operator
unfolding operator_of
operator_left text [] operator e stop h = let is : Exists ≡ operator = cc in subst (λ (o : Operator). Tail text o) is (skip_none text e)
operator_left text (b ∷ left) operator e stop h = elim (cases_Bool (b == 61)) [
  | inl equal ↦
      let byte : b ≡ 61 = eqb-true b 61 equal in
      map_some In (one_value (after_equal left)) operator (rw equal at h) λ values read is.
      subst (λ (o : Operator). Tail text o) is (equal_sound text left values (e ∙ ap (λ (x : ℕ). x ∷ left) byte) read)
  | inr other ↦ elim (cases_Bool (b == 33)) [
    | inl mark ↦
        let byte : b ≡ 33 = eqb-true b 33 mark in
        not_equal_sound text left operator (e ∙ ap (λ (x : ℕ). x ∷ left) byte) (rw (other, mark) at h)
    | inr word ↦ list_operator_sound text (b ∷ left) operator e stop (rw (other, word) at h)
  ]
]

pub operator_sound : (text : List ℕ) (operator : Operator) → Stops is_name_byte text → operator_of (skip text) ≡ Some operator → Tail text operator
operator_sound text operator stop h = operator_left text (skip text) operator refl stop h
