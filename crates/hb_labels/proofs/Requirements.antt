-- Requirements and selectors: what is read of a text is what it spells.
use Rattle.std.proofs.Common.{◌≡◌, ℕ, true, false, ◌==◌, List, [], ◌∷◌, ◌++◌, Some, refl, sym, ap, subst, ◌∙◌, inl, inr, append_assoc, eqb-true, codes, arith}
use Rattle.std.proofs.lemmas.Bool.{cases_Bool}
use Rattle.std.proofs.lemmas.Bool.Decides.{nat_tests}
use Rattle.std.proofs.lemmas.List.{nil_from_length}
use Rattle.std.proofs.NetLemmas.Options.{cond_some, map_some, and_then_some}
use Rattle.hb_labels.specs.declared.key.Key.{Key}
use Rattle.hb_labels.specs.declared.operator.Operator.{Operator}
use Rattle.hb_labels.specs.declared.operator.Operator.TheVariants.{Exists, DoesNotExist, In, NotIn}
use Rattle.hb_labels.specs.declared.operator.Requirement.{Requirement}
use Rattle.hb_labels.specs.Texts.{is_name_byte, is_space, AreSpaces, Spaced}
use Rattle.hb_labels.specs.Selectors.{IsKey, SpellsOperator, SpellsRequirement, SpellsSelector}
use Rattle.hb_labels.specs.Reading.{skip, key_at, operator_of, missing, keyed, requirement_from, requirement_of, selector_of, Fails}
use Rattle.hb_labels.specs.declared.fault.SelectorFault.{SelectorFault}
use Rattle.hb_labels.specs.declared.fault.SelectorFault.TheVariants as faults
use Rattle.hb_labels.proofs.Spans.{back_stops}
use Rattle.hb_labels.proofs.Values.{skip_split, skip_gap, skip_stop, skip_spaces, skip_none}
use Rattle.hb_labels.proofs.JoinedLemmas.{Closed, joined_complete, joined_sound}
use Rattle.hb_labels.proofs.Closed.{Closes, quiet_closes, list_closes, spaced_closed, key_quiet, name_quiet, values_calm}
use Rattle.hb_labels.proofs.Keys.{KeyFront, key_starts, key_complete, key_sound}
use Rattle.hb_labels.proofs.Operators.{Tail, tail_ends, spaces_end, operator_complete}
use Rattle.hb_labels.proofs.OperatorReading.{operator_sound}

-- ---- a requirement has no comma outside parentheses

requirement_closed : (text : List ℕ) (r : Requirement) → SpellsRequirement text r → Closed false text
requirement_closed text r (key, is, asked) = by_operator r.operator asked where
  quiet : Closes key
  quiet = quiet_closes key (key_quiet key r.key.source r.key.name is)

  by_operator : (operator : Operator) → SpellsOperator text key operator → Closed false text
  by_operator Exists h = spaced_closed text (key ∷ []) h (quiet, tt)
  by_operator DoesNotExist h = spaced_closed text (codes "!" ∷ key ∷ []) h (λ rest k. (refl, k), (quiet, tt))
  by_operator (In values) (inl (value, name, one, h)) =
      spaced_closed text (key ∷ codes "=" ∷ value ∷ []) h (quiet, (λ rest k. (refl, k), (quiet_closes value (name_quiet value name), tt)))
  by_operator (In values) (inr (inl (value, name, one, h))) =
      spaced_closed text (key ∷ codes "==" ∷ value ∷ []) h (quiet, (λ rest k. (refl, (refl, k)), (quiet_closes value (name_quiet value name), tt)))
  by_operator (In values) (inr (inr (inner, joined, h))) =
      spaced_closed text (key ∷ codes " in" ∷ (codes "(" ++ inner ++ codes ")") ∷ []) h
      (quiet, (λ rest k. (refl, (refl, (refl, k))), (list_closes inner (values_calm inner values joined), tt)))
  by_operator (NotIn values) (inl (value, name, one, h)) =
      spaced_closed text (key ∷ codes "!=" ∷ value ∷ []) h (quiet, (λ rest k. (refl, (refl, k)), (quiet_closes value (name_quiet value name), tt)))
  by_operator (NotIn values) (inr (inner, joined, h)) =
      spaced_closed text (key ∷ codes " notin" ∷ (codes "(" ++ inner ++ codes ")") ∷ []) h
      (quiet, (λ rest k. (refl, (refl, (refl, (refl, (refl, (refl, k)))))), (list_closes inner (values_calm inner values joined), tt)))

-- ---- what spells a requirement is read as it

no_mark : (b : ℕ) → is_name_byte b ≡ true → (b == 33) ≡ false
no_mark b h = grind (arith, nat_tests)

keyed_read : (text rest : List ℕ) (key : Key) (operator : Operator) → key_at text ≡ Some (key, skip rest) → operator_of (skip rest) ≡ Some operator → keyed text ≡ Some (record { key = key; operator = operator })
unfolding keyed
keyed_read text rest key operator h k = rw (h, k) refl

from_key : (b : ℕ) (text : List ℕ) → (b == 33) ≡ false → requirement_from (b ∷ text) ≡ keyed (b ∷ text)
unfolding requirement_from
from_key b text h = rw h refl

from_mark : (text : List ℕ) → requirement_from (33 ∷ text) ≡ missing text
unfolding requirement_from
from_mark text = refl

missing_read : (text : List ℕ) (key : Key) → key_at text ≡ Some (key, []) → missing text ≡ Some (record { key = key; operator = DoesNotExist })
unfolding missing
missing_read text key h = rw h refl

-- a key, and behind it what is asked
pub tail_read : (gap key rest : List ℕ) (k : Key) (operator : Operator) → AreSpaces gap → IsKey key k.source k.name → Tail rest operator
    → requirement_of (gap ++ (key ++ rest)) ≡ Some (record { key = k; operator = operator })
tail_read gap key rest k operator spaces is asked =
    let end = tail_ends rest operator asked in
    let (b, more, begins, test) = key_starts key k.source k.name is in
    let found = key_complete gap key k.source k.name rest spaces is end in
    let again = key_complete [] key k.source k.name rest tt is end in
    let first = ap (λ (t : List ℕ). t ++ rest) begins in
    let from : requirement_from (key ++ rest) ≡ keyed (key ++ rest) = ap requirement_from first ∙ from_key b (more ++ rest) (no_mark b test) ∙ ap keyed (sym first) in
    ap requirement_from found.0 ∙ from ∙ keyed_read (key ++ rest) rest k operator again.1 (operator_complete rest operator asked)

mark_read : (gap rest : List ℕ) (key : List ℕ) (k : Key) → AreSpaces gap → IsKey key k.source k.name → Spaced rest (key ∷ []) → requirement_of (gap ++ 33 ∷ rest) ≡ Some (record { key = k; operator = DoesNotExist })
mark_read gap rest key k spaces is (gap2, end, spaces2, split, last) =
    let there : skip (gap ++ 33 ∷ rest) ≡ 33 ∷ rest = skip_gap gap (33 ∷ rest) spaces ∙ skip_stop (33 ∷ rest) refl in
    let found = key_complete gap2 key k.source k.name end spaces2 is (spaces_end end last) in
    let read = ap key_at (split ∙ append_assoc gap2 key end) ∙ found.1 ∙ ap (λ (t : List ℕ). Some (k, t)) (skip_spaces end last) in
    ap requirement_from there ∙ from_mark rest ∙ missing_read rest k read

pub requirement_complete : (text : List ℕ) (r : Requirement) → SpellsRequirement text r → requirement_of text ≡ Some r
requirement_complete text r (key, is, asked) = by_operator r.operator asked where
  behind : (operator : Operator) (gap rest : List ℕ) → AreSpaces gap → text ≡ gap ++ key ++ rest → Tail rest operator → requirement_of text ≡ Some (record { key = r.key; operator = operator })
  behind operator gap rest spaces split tail = ap requirement_of (split ∙ append_assoc gap key rest) ∙ tail_read gap key rest r.key operator spaces is tail

  by_operator : (operator : Operator) → SpellsOperator text key operator → requirement_of text ≡ Some (record { key = r.key; operator = operator })
  by_operator Exists (gap, rest, spaces, split, last) = behind Exists gap rest spaces split last
  by_operator DoesNotExist (gap, rest, spaces, split, last) = ap requirement_of (split ∙ append_assoc gap (33 ∷ []) rest) ∙ mark_read gap rest key r.key spaces is last
  by_operator (In values) (inl (value, name, one, (gap, rest, spaces, split, more))) = behind (In values) gap rest spaces split (inl (value, name, one, more))
  by_operator (In values) (inr (inl (value, name, one, (gap, rest, spaces, split, more)))) = behind (In values) gap rest spaces split (inr (inl (value, name, one, more)))
  by_operator (In values) (inr (inr (inner, joined, (gap, rest, spaces, split, more)))) = behind (In values) gap rest spaces split (inr (inr (inner, joined, more)))
  by_operator (NotIn values) (inl (value, name, one, (gap, rest, spaces, split, more))) = behind (NotIn values) gap rest spaces split (inl (value, name, one, more))
  by_operator (NotIn values) (inr (inner, joined, (gap, rest, spaces, split, more))) = behind (NotIn values) gap rest spaces split (inr (inner, joined, more))

-- ---- what is read as a requirement spells it

-- what stands behind a key, with the key and the spaces before it
tail_spells : (text gap key rest : List ℕ) (operator : Operator) → AreSpaces gap → text ≡ gap ++ (key ++ rest) → Tail rest operator → SpellsOperator text key operator
tail_spells text gap key rest operator spaces split tail = by_operator operator tail where
  whole : text ≡ gap ++ key ++ rest
  whole = split ∙ sym (append_assoc gap key rest)

  by_operator : (o : Operator) → Tail rest o → SpellsOperator text key o
  by_operator Exists h = (gap, rest, spaces, whole, h)
  by_operator DoesNotExist h = absurd h
  by_operator (In values) (inl (value, name, one, more)) = inl (value, name, one, (gap, rest, spaces, whole, more))
  by_operator (In values) (inr (inl (value, name, one, more))) = inr (inl (value, name, one, (gap, rest, spaces, whole, more)))
  by_operator (In values) (inr (inr (inner, joined, more))) = inr (inr (inner, joined, (gap, rest, spaces, whole, more)))
  by_operator (NotIn values) (inl (value, name, one, more)) = inl (value, name, one, (gap, rest, spaces, whole, more))
  by_operator (NotIn values) (inr (inner, joined, more)) = inr (inner, joined, (gap, rest, spaces, whole, more))

skip_again : (text : List ℕ) → skip (skip text) ≡ skip text
skip_again text = skip_stop (skip text) (back_stops is_space text)

keyed_sound : (text : List ℕ) (r : Requirement) → keyed (skip text) ≡ Some r → SpellsRequirement text r
unfolding keyed
keyed_sound text r h =
    and_then_some _ (key_at (skip text)) r h λ found read_key mapped.
    map_some _ (operator_of found.1) r mapped λ operator read_operator is.
    let (gap, spaces, split) = skip_split text in
    let front : KeyFront (skip (skip text)) found.0 found.1 = key_sound (skip text) found.0 found.1 read_key in
    let tail = operator_sound front.rest operator front.stops (ap operator_of (sym front.left_is) ∙ read_operator) in
    let whole : text ≡ gap ++ (front.spelled ++ front.rest) = split ∙ ap (λ (t : List ℕ). gap ++ t) (sym (skip_again text) ∙ front.split) in
    subst (λ (q : Requirement). SpellsRequirement text q) is (front.spelled, front.is, tail_spells text gap front.spelled front.rest operator spaces whole tail)

missing_sound : (text rest : List ℕ) (r : Requirement) → skip text ≡ 33 ∷ rest → missing rest ≡ Some r → SpellsRequirement text r
unfolding missing
missing_sound text rest r e h =
    and_then_some _ (key_at rest) r h λ found read_key kept.
    let (test, is) = cond_some _ _ _ kept in
    let (gap, spaces, split) = skip_split text in
    let (gap2, spaces2, split2) = skip_split rest in
    let front : KeyFront (skip rest) found.0 found.1 = key_sound rest found.0 found.1 read_key in
    let none : found.1 ≡ [] = nil_from_length found.1 (grind (arith, nat_tests)) in
    let last = skip_none front.rest (sym front.left_is ∙ none) in
    let whole : text ≡ gap ++ codes "!" ++ rest = split ∙ ap (λ (t : List ℕ). gap ++ t) e ∙ sym (append_assoc gap (33 ∷ []) rest) in
    let behind : rest ≡ gap2 ++ front.spelled ++ front.rest = split2 ∙ ap (λ (t : List ℕ). gap2 ++ t) front.split ∙ sym (append_assoc gap2 front.spelled front.rest) in
    subst (λ (q : Requirement). SpellsRequirement text q) is (front.spelled, front.is, (gap, rest, spaces, whole, (gap2, front.rest, spaces2, behind, last)))

left_sound : (text left : List ℕ) (r : Requirement) → skip text ≡ left → requirement_from left ≡ Some r → SpellsRequirement text r
unfolding requirement_from
left_sound text [] r e h = keyed_sound text r (ap keyed e ∙ h)
left_sound text (b ∷ left) r e h = elim (cases_Bool (b == 33)) [
  | inl mark ↦
      let byte : b ≡ 33 = eqb-true b 33 mark in
      missing_sound text left r (e ∙ ap (λ (x : ℕ). x ∷ left) byte) (rw mark at h)
  | inr other ↦ keyed_sound text r (ap keyed e ∙ rw other at h)
]

pub requirement_sound : (text : List ℕ) (r : Requirement) → requirement_of text ≡ Some r → SpellsRequirement text r
requirement_sound text r h = left_sound text (skip text) r refl h

-- ---- selectors

pub selector_complete : (text : List ℕ) (rs : List Requirement) → SpellsSelector text rs → selector_of text ≡ Some rs
selector_complete text rs h = joined_complete SpellsRequirement requirement_of requirement_closed requirement_complete text rs h

pub selector_sound : (text : List ℕ) (rs : List Requirement) → selector_of text ≡ Some rs → SpellsSelector text rs
selector_sound text rs h = joined_sound SpellsRequirement requirement_of requirement_sound rs text h

pub selector_one : (text : List ℕ) (a b : List Requirement) → SpellsSelector text a → SpellsSelector text b → a ≡ b
selector_one text a b h k =
    let one = selector_complete text a h in
    let other = selector_complete text b k in cc

-- of a fault: the text spells none, or memory ran out
pub fault_only : (text : List ℕ) (rs : List Requirement) (fault : SelectorFault) → Fails fault (selector_of text) → SpellsSelector text rs → fault ≡ faults.NoMemory
fault_only text rs faults.NoMemory h k = refl
fault_only text rs faults.BadSelector h k = let read = selector_complete text rs k in absurd cc
