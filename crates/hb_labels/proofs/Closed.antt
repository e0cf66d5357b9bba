-- What a requirement and a value are made of has no comma outside parentheses.
use Rattle.std.proofs.Common.{◌≡◌, ℕ, Bool, true, false, not, ◌&&◌, ◌||◌, ◌==◌, List, [], ◌∷◌, ◌++◌, Option, Some, None, refl, sym, subst, ◌∙◌, arith, inl, inr, append_assoc, append-nil}
use Rattle.std.specs.List.{AllByRecursion}
use Rattle.std.proofs.lemmas.Bool.{cases_Bool}
use Rattle.std.proofs.lemmas.Bool.Decides.{nat_tests}
use Rattle.hb_labels.specs.Texts.{is_name_byte, is_space, IsName, AreSpaces, Spaced, Joined}
use Rattle.hb_labels.specs.Selectors.{IsKey, SpellsValue}
use Rattle.hb_labels.specs.Reading.{inside_after}
use Rattle.hb_labels.proofs.Spans.{Each}
use Rattle.hb_labels.proofs.JoinedLemmas.{Closed}

-- no parenthesis
abbrev pub is_calm : ℕ → Bool
is_calm b = not (b == 40 || b == 41)

-- nor a comma
abbrev pub is_quiet : ℕ → Bool
is_quiet b = not (b == 44 || b == 40 || b == 41)

pub each_append : (p : ℕ → Bool) (a b : List ℕ) → Each p a → Each p b → Each p (a ++ b)
each_append p [] b h k = k
each_append p (x ∷ a) b h k = (h.0, each_append p a b h.1 k)

pub each_weaker : (p q : ℕ → Bool) → ((b : ℕ) → p b ≡ true → q b ≡ true) → (text : List ℕ) → Each p text → Each q text
each_weaker p q weaker [] h = tt
each_weaker p q weaker (b ∷ text) h = (weaker b h.0, each_weaker p q weaker text h.1)

name_quiet_byte : (b : ℕ) → is_name_byte b ≡ true → is_quiet b ≡ true
name_quiet_byte b h = grind (arith, nat_tests)

space_quiet_byte : (b : ℕ) → is_space b ≡ true → is_quiet b ≡ true
space_quiet_byte b h = grind (arith, nat_tests)

quiet_calm_byte : (b : ℕ) → is_quiet b ≡ true → is_calm b ≡ true
quiet_calm_byte b h = grind (arith, nat_tests)

pub name_quiet : (name : List ℕ) → IsName name → Each is_quiet name
name_quiet = each_weaker is_name_byte is_quiet name_quiet_byte

pub spaces_quiet : (gap : List ℕ) → AreSpaces gap → Each is_quiet gap
spaces_quiet = each_weaker is_space is_quiet space_quiet_byte

quiet_step : (inside : Bool) (b : ℕ) → is_quiet b ≡ true → ((b == 44 && not inside) ≡ false) × (inside_after inside b ≡ inside)
quiet_step inside b h = elim (cases_Bool (b == 44)) [
  | inl comma ↦ let f : is_quiet b ≡ false = rw comma refl in absurd cc
  | inr other ↦ elim (cases_Bool (b == 40)) [
    | inl opens ↦ let f : is_quiet b ≡ false = rw (other, opens) refl in absurd cc
    | inr stays ↦ elim (cases_Bool (b == 41)) [
      | inl closes ↦ let f : is_quiet b ≡ false = rw (other, stays, closes) refl in absurd cc
      | inr calm ↦ (rw other refl, rw (stays, calm) refl)
    ]
  ]
]

calm_step : (b : ℕ) → is_calm b ≡ true → inside_after true b ≡ true
calm_step b h = elim (cases_Bool (b == 40)) [
  | inl opens ↦ rw opens refl
  | inr stays ↦ elim (cases_Bool (b == 41)) [
    | inl closes ↦ let f : is_calm b ≡ false = rw (stays, closes) refl in absurd cc
    | inr calm ↦ rw (stays, calm) refl
  ]
]

-- what closes the text behind it closes it also behind quiet bytes
pub quiet_closed : (text rest : List ℕ) → Each is_quiet text → Closed false rest → Closed false (text ++ rest)
quiet_closed [] rest h k = k
quiet_closed (b ∷ text) rest h k =
    let step = quiet_step false b h.0 in
    (step.0, subst (λ (x : Bool). Closed x (text ++ rest)) (sym step.1) (quiet_closed text rest h.1 k))

quiet_alone : (text : List ℕ) → Each is_quiet text → Closed false text
quiet_alone text h = subst (λ (t : List ℕ). Closed false t) (append-nil text) (quiet_closed text [] h refl)

-- inside parentheses commas do not cut
inside_closed : (inner rest : List ℕ) → Each is_calm inner → Closed false rest → Closed true (inner ++ 41 ∷ rest)
inside_closed [] rest h k = (refl, k)
inside_closed (b ∷ inner) rest h k =
    let test : (b == 44 && false) ≡ false = elim (cases_Bool (b == 44)) [ inl e ↦ rw e refl | inr e ↦ rw e refl ] in
    (test, subst (λ (x : Bool). Closed x (inner ++ 41 ∷ rest)) (sym (calm_step b h.0)) (inside_closed inner rest h.1 k))

-- a piece of a text that closes what is behind it
abbrev pub Closes : List ℕ → Type 0
Closes piece = (rest : List ℕ) → Closed false rest → Closed false (piece ++ rest)

pub quiet_closes : (piece : List ℕ) → Each is_quiet piece → Closes piece
quiet_closes piece h rest k = quiet_closed piece rest h k

pub list_closes : (inner : List ℕ) → Each is_calm inner → Closes (40 ∷ (inner ++ 41 ∷ []))
list_closes inner h rest k = (refl, subst (λ (t : List ℕ). Closed true t) (sym (append_assoc inner (41 ∷ []) rest)) (inside_closed inner rest h k))

pub spaced_closed : (text : List ℕ) (ps : List (List ℕ)) → Spaced text ps → AllByRecursion Closes ps → Closed false text
spaced_closed text [] h all = quiet_alone text (spaces_quiet text h)
spaced_closed text (piece ∷ ps) (gap, rest, spaces, split, more) all =
    let behind = all.0 rest (spaced_closed rest ps more all.1) in
    subst (λ (t : List ℕ). Closed false t) (sym (split ∙ append_assoc gap piece rest)) (quiet_closed gap (piece ++ rest) (spaces_quiet gap spaces) behind)

-- values and the commas between them have no parentheses
pub value_quiet : (text value : List ℕ) → SpellsValue text value → Each is_quiet text
value_quiet text value (name, (gap, end, spaces, split, last)) =
    subst (λ (t : List ℕ). Each is_quiet t) (sym split)
    (each_append is_quiet (gap ++ value) end (each_append is_quiet gap value (spaces_quiet gap spaces) (name_quiet value name)) (spaces_quiet end last))

pub value_closed : (text value : List ℕ) → SpellsValue text value → Closed false text
value_closed text value h = quiet_alone text (value_quiet text value h)

value_calm : (text value : List ℕ) → SpellsValue text value → Each is_calm text
value_calm text value h = each_weaker is_quiet is_calm quiet_calm_byte text (value_quiet text value h)

pub values_calm : (text : List ℕ) (values : List (List ℕ)) → Joined SpellsValue text values → Each is_calm text
values_calm text [] h = absurd h
values_calm text (value ∷ []) h = value_calm text value h
values_calm text (value ∷ next ∷ values) (front, rest, split, first, more) =
    subst (λ (t : List ℕ). Each is_calm t) (sym split)
    (each_append is_calm (front ++ 44 ∷ []) rest (each_append is_calm front (44 ∷ []) (value_calm front value first) (refl, tt)) (values_calm rest (next ∷ values) more))

-- a key has neither
pub key_quiet : (key : List ℕ) (source : Option (List ℕ)) (name : List ℕ) → IsKey key source name → Each is_quiet key
key_quiet key None name h = subst (λ (t : List ℕ). Each is_quiet t) (sym h.1) (name_quiet name h.0.0)
key_quiet key (Some source) name h =
    subst (λ (t : List ℕ). Each is_quiet t) (sym h.2)
    (each_append is_quiet (source ++ 58 ∷ []) name (each_append is_quiet source (58 ∷ []) (name_quiet source h.0.0) (refl, tt)) (name_quiet name h.1.0))
