-- What is asked of a key: what is read behind it is what spells it.
use Rattle.std.proofs.Common.{◌≡◌, ℕ, ◌<◌, Bool, true, false, not, ◌==◌, List, [], ◌∷◌, ◌++◌, length, Some, ◌⊎◌, refl, sym, ap, subst, ◌∙◌, arith, inl, inr, append_assoc, eqb-true, codes}
use Rattle.std.specs.Option.{option_map}
use Rattle.std.proofs.lemmas.Bool.{cases_Bool}
use Rattle.std.proofs.lemmas.Bool.Decides.{nat_tests}
use Rattle.std.proofs.NetLemmas.Options.{map_some}
use Rattle.hb_labels.specs.declared.operator.Operator.{Operator}
use Rattle.hb_labels.specs.declared.operator.Operator.TheVariants.{Exists, DoesNotExist, In, NotIn}
use Rattle.hb_labels.specs.Texts.{is_name_byte, is_space, IsName, AreSpaces, Spaced, Joined}
use Rattle.hb_labels.specs.Selectors.{SpellsValue}
use Rattle.hb_labels.specs.Meaning.{is_colon}
use Rattle.hb_labels.specs.Reading.{skip, before_close, from_close, value_of, one_value, list_within, list_of, list_operator, after_equal, not_equal, operator_of}
use Rattle.hb_labels.proofs.Spans.{Stops, Each, front_is, back_is}
use Rattle.hb_labels.proofs.Values.{space_no_name, skip_gap, skip_stop, skip_spaces, value_complete, value_sound}
use Rattle.hb_labels.proofs.JoinedLemmas.{joined_complete}
use Rattle.hb_labels.proofs.Closed.{is_calm, value_closed, values_calm, each_append, each_weaker}
use Rattle.hb_labels.proofs.Keys.{Ends}

-- the text behind a key is this sign and one value, or this word and values in parentheses
abbrev pub TailOne : List ℕ → List ℕ → List (List ℕ) → Type 0
TailOne text sign values = (value : List ℕ) × IsName value × (values ≡ value ∷ []) × Spaced text (sign ∷ value ∷ [])

abbrev pub TailList : List ℕ → List ℕ → List (List ℕ) → Type 0
TailList text word values = (inner : List ℕ) × Joined SpellsValue inner values
    × Spaced text ((codes " " ++ word) ∷ (codes "(" ++ inner ++ codes ")") ∷ [])

-- the text behind a key asks this
abbrev pub Tail : List ℕ → Operator → Type 0
Tail text Exists = AreSpaces text
Tail text DoesNotExist = ⊥
Tail text (In values) = TailOne text (codes "=") values ⊎ (TailOne text (codes "==") values ⊎ TailList text (codes "in") values)
Tail text (NotIn values) = TailOne text (codes "!=") values ⊎ TailList text (codes "notin") values

-- ---- what spells it is read

pub space_is : (b : ℕ) → is_space b ≡ true → b ≡ 32
space_is b h = eqb-true b 32 h

gap_ends : (gap text : List ℕ) → AreSpaces gap → Ends text → Ends (gap ++ text)
gap_ends [] text h end = end
gap_ends (b ∷ gap) text h end = (space_no_name b h.0, ap is_colon (space_is b h.0))

pub spaces_end : (gap : List ℕ) → AreSpaces gap → Ends gap
spaces_end [] h = (tt, tt)
spaces_end (b ∷ gap) h = (space_no_name b h.0, ap is_colon (space_is b h.0))

pub tail_ends : (text : List ℕ) (operator : Operator) → Tail text operator → Ends text
tail_ends text Exists h = spaces_end text h
tail_ends text DoesNotExist h = absurd h
tail_ends text (In values) (inl (value, name, is, (gap, rest, spaces, split, more))) =
    subst Ends (sym (split ∙ append_assoc gap (61 ∷ []) rest)) (gap_ends gap (61 ∷ rest) spaces (refl, refl))
tail_ends text (In values) (inr (inl (value, name, is, (gap, rest, spaces, split, more)))) =
    subst Ends (sym (split ∙ append_assoc gap (61 ∷ 61 ∷ []) rest)) (gap_ends gap (61 ∷ 61 ∷ rest) spaces (refl, refl))
tail_ends text (In values) (inr (inr (inner, joined, (gap, rest, spaces, split, more)))) =
    subst Ends (sym (split ∙ append_assoc gap (codes " in") rest)) (gap_ends gap (codes " in" ++ rest) spaces (refl, refl))
tail_ends text (NotIn values) (inl (value, name, is, (gap, rest, spaces, split, more))) =
    subst Ends (sym (split ∙ append_assoc gap (33 ∷ 61 ∷ []) rest)) (gap_ends gap (33 ∷ 61 ∷ rest) spaces (refl, refl))
tail_ends text (NotIn values) (inr (inner, joined, (gap, rest, spaces, split, more))) =
    subst Ends (sym (split ∙ append_assoc gap (codes " notin") rest)) (gap_ends gap (codes " notin" ++ rest) spaces (refl, refl))

one_complete : (text value : List ℕ) (values : List (List ℕ)) → SpellsValue text value → values ≡ value ∷ [] → one_value text ≡ Some values
unfolding one_value
one_complete text value values h is = ap (option_map (λ v. v ∷ [])) (value_complete text value h) ∙ ap Some (sym is)

pub one_sound : (text : List ℕ) (values : List (List ℕ)) → one_value text ≡ Some values → (value : List ℕ) × SpellsValue text value × (values ≡ value ∷ [])
unfolding one_value
one_sound text values h = map_some _ (value_of text) values h λ value read is. (value, value_sound text value read, sym is)

-- a value does not begin with `=`
abbrev is_unequal : ℕ → Bool
is_unequal b = not (b == 61)

name_unequal : (b : ℕ) → is_name_byte b ≡ true → is_unequal b ≡ true
name_unequal b h = grind (arith, nat_tests)

space_unequal : (b : ℕ) → is_space b ≡ true → is_unequal b ≡ true
space_unequal b h = grind (arith, nat_tests)

unequal_stays : (text : List ℕ) → Each is_unequal text → after_equal text ≡ text
unequal_stays [] h = refl
unequal_stays (b ∷ text) h = elim (cases_Bool (b == 61)) [
  | inl equal ↦ let f : is_unequal b ≡ false = rw equal refl in let g = h.0 in absurd cc
  | inr other ↦ rw other refl
]

after_value : (text value : List ℕ) → SpellsValue text value → after_equal text ≡ text
after_value text value (name, (gap, end, spaces, split, last)) =
    let front = each_append is_unequal gap value (each_weaker is_space is_unequal space_unequal gap spaces) (each_weaker is_name_byte is_unequal name_unequal value name) in
    let whole = each_append is_unequal (gap ++ value) end front (each_weaker is_space is_unequal space_unequal end last) in
    unequal_stays text (subst (λ (t : List ℕ). Each is_unequal t) (sym split) whole)

skip_to : (gap : List ℕ) (b : ℕ) (rest : List ℕ) → AreSpaces gap → is_space b ≡ false → skip (gap ++ b ∷ rest) ≡ b ∷ rest
skip_to gap b rest h stop = skip_gap gap (b ∷ rest) h ∙ skip_stop (b ∷ rest) stop

equal_read : (text : List ℕ) (values : List (List ℕ)) → one_value (after_equal text) ≡ Some values → operator_of (61 ∷ text) ≡ Some (In values)
unfolding operator_of
equal_read text values h = rw h refl

not_equal_read : (text : List ℕ) (values : List (List ℕ)) → one_value text ≡ Some values → operator_of (33 ∷ 61 ∷ text) ≡ Some (NotIn values)
unfolding operator_of not_equal
not_equal_read text values h = rw h refl

abbrev pub is_inner : ℕ → Bool
is_inner b = not (b == 41)

calm_inner : (b : ℕ) → is_calm b ≡ true → is_inner b ≡ true
calm_inner b h = grind (arith, nat_tests)

list_read : (inner gap end : List ℕ) (values : List (List ℕ)) → Joined SpellsValue inner values → AreSpaces gap → AreSpaces end → list_of (skip (gap ++ 40 ∷ (inner ++ 41 ∷ end))) ≡ Some values
unfolding list_of list_within
list_read inner gap end values h spaces last =
    let calm = each_weaker is_calm is_inner calm_inner inner (values_calm inner values h) in
    let there = skip_to gap 40 (inner ++ 41 ∷ end) spaces refl in
    let before : before_close (inner ++ 41 ∷ end) ≡ inner = front_is (λ b. not (b == 41)) inner (41 ∷ end) calm refl in
    let behind : from_close (inner ++ 41 ∷ end) ≡ 41 ∷ end = back_is (λ b. not (b == 41)) inner (41 ∷ end) calm refl in
    rw (there, before, behind, skip_spaces end last) (joined_complete SpellsValue value_of value_closed value_complete inner values h)

-- where the text is a word behind a space and values in parentheses, the word and these are found
record ListFound (text word : List ℕ) (values : List (List ℕ)) : Type 0 where
  rest : List ℕ
  there : skip text ≡ word ++ rest
  stops : Stops is_name_byte rest
  read : list_of (skip rest) ≡ Some values

list_found : (text word : List ℕ) (values : List (List ℕ)) → TailList text word values → Stops is_space word → 0 < length word → ListFound text word values
list_found text [] values h stop some = absurd (omega arith)
list_found text (b ∷ word) values (inner, joined, (gap, rest, spaces, split, (gap2, end, spaces2, split2, last))) stop some =
    let whole : text ≡ gap ++ (32 ∷ (b ∷ (word ++ rest))) = split ∙ append_assoc gap (32 ∷ b ∷ word) rest in
    let behind : rest ≡ gap2 ++ 40 ∷ (inner ++ 41 ∷ end) = split2 ∙ append_assoc gap2 (40 ∷ (inner ++ 41 ∷ [])) end ∙ ap (λ (t : List ℕ). gap2 ++ 40 ∷ t) (append_assoc inner (41 ∷ []) end) in
    record {
      rest = rest;
      there = ap skip whole ∙ skip_gap gap (32 ∷ (b ∷ (word ++ rest))) spaces ∙ skip_gap (32 ∷ []) (b ∷ (word ++ rest)) (refl, tt) ∙ skip_stop (b ∷ (word ++ rest)) stop;
      stops = subst (λ (t : List ℕ). Stops is_name_byte t) (sym behind) (gap_ends gap2 (40 ∷ (inner ++ 41 ∷ end)) spaces2 (refl, refl)).0;
      read = ap (λ (t : List ℕ). list_of (skip t)) behind ∙ list_read inner gap2 end values joined spaces2 last;
    }

in_read : (rest : List ℕ) (values : List (List ℕ)) → Stops is_name_byte rest → list_of (skip rest) ≡ Some values → operator_of (codes "in" ++ rest) ≡ Some (In values)
unfolding operator_of list_operator
in_read rest values stop h = rw (front_is is_name_byte (codes "in") rest (refl, (refl, tt)) stop, back_is is_name_byte (codes "in") rest (refl, (refl, tt)) stop, h) refl

notin_read : (rest : List ℕ) (values : List (List ℕ)) → Stops is_name_byte rest → list_of (skip rest) ≡ Some values → operator_of (codes "notin" ++ rest) ≡ Some (NotIn values)
unfolding operator_of list_operator
notin_read rest values stop h =
    rw (front_is is_name_byte (codes "notin") rest (refl, (refl, (refl, (refl, (refl, tt))))) stop, back_is is_name_byte (codes "notin") rest (refl, (refl, (refl, (refl, (refl, tt))))) stop, h) refl

exists_read : operator_of [] ≡ Some Exists
unfolding operator_of
exists_read = refl

pub operator_complete : (text : List ℕ) (operator : Operator) → Tail text operator → operator_of (skip text) ≡ Some operator
operator_complete text Exists h = ap operator_of (skip_spaces text h) ∙ exists_read
operator_complete text DoesNotExist h = absurd h
operator_complete text (In values) (inl (value, name, is, (gap, rest, spaces, split, more))) =
    let there = ap skip (split ∙ append_assoc gap (61 ∷ []) rest) ∙ skip_to gap 61 rest spaces refl in
    let read = ap one_value (after_value rest value (name, more)) ∙ one_complete rest value values (name, more) is in
    ap operator_of there ∙ equal_read rest values read
operator_complete text (In values) (inr (inl (value, name, is, (gap, rest, spaces, split, more)))) =
    let there = ap skip (split ∙ append_assoc gap (61 ∷ 61 ∷ []) rest) ∙ skip_to gap 61 (61 ∷ rest) spaces refl in
    ap operator_of there ∙ equal_read (61 ∷ rest) values (one_complete rest value values (name, more) is)
operator_complete text (In values) (inr (inr h)) =
    let found = list_found text (codes "in") values h refl (omega arith) in
    ap operator_of found.there ∙ in_read found.rest values found.stops found.read
operator_complete text (NotIn values) (inl (value, name, is, (gap, rest, spaces, split, more))) =
    let there = ap skip (split ∙ append_assoc gap (33 ∷ 61 ∷ []) rest) ∙ skip_to gap 33 (61 ∷ rest) spaces refl in
    ap operator_of there ∙ not_equal_read rest values (one_complete rest value values (name, more) is)
operator_complete text (NotIn values) (inr h) =
    let found = list_found text (codes "notin") values h refl (omega arith) in
    ap operator_of found.there ∙ notin_read found.rest values found.stops found.read
