-- Of two members of a oneof one at most is read.
use Rattle.std.proofs.Common.{◌≡◌, ℕ, Bool, true, false, eqb, inl, inr, List, [], ◌∷◌, refl, sym, ap, ◌∙◌}
use Rattle.std.specs.List.{list_any}
use Rattle.std.proofs.lemmas.Bool.{cases_eq, cases_Bool, eq-eqb, ne_eqb, or_parts, or_right, true_from_ne_false}
use Rattle.hb_wire.specs.Field.{Content, Varint, Fixed64, Body, Fixed32}
use Rattle.hb_schema.specs.Fields.{Part, bodies_at, bodies_since, behind_last, is_among, is_body_of}
use Rattle.hb_schema.specs.Rows.{Row, Done, Number, Numbers, Text, Texts, Message, Messages, Raw, NamedBack}
use Rattle.hb_schema.specs.Reading.{values}
use Rattle.hb_schema.specs.Fits.{NoneOf}

-- one more part in front, which is no body of these numbers
none_step : (at k : ℕ) (numbers raw : List ℕ) (content : Content) (ps : List Part) → is_among numbers at ≡ true
    → is_body_of numbers (record { raw = raw; field = record { number = k; content = content } }) ≡ false → bodies_at at ps ≡ []
    → bodies_at at (record { raw = raw; field = record { number = k; content = content } } ∷ ps) ≡ []
none_step at k numbers raw (Varint value) ps among other none = none
none_step at k numbers raw (Fixed64 value) ps among other none = none
none_step at k numbers raw (Fixed32 value) ps among other none = none
none_step at k numbers raw (Body body) ps among other none =
    elim (cases_eq k at) [
      | inl e ↦ let same : is_among numbers k ≡ is_among numbers at = ap (is_among numbers) e in absurd cc
      | inr ne ↦ let f : eqb k at ≡ false = ne_eqb k at ne in rw f none
    ]

-- where there are no bodies of some numbers there is none of one of them
none_at : (at : ℕ) (numbers : List ℕ) (ps : List Part) → is_among numbers at ≡ true → list_any (is_body_of numbers) ps ≡ false → bodies_at at ps ≡ []
none_at at numbers [] among other = refl
none_at at numbers (p ∷ ps) among other =
    let both = or_parts (is_body_of numbers p) (list_any (is_body_of numbers) ps) other in
    none_step at p.field.number numbers p.raw p.field.content ps among both.0 (none_at at numbers ps among both.1)

-- where there is none after a part either
none_after : (at k : ℕ) (raw : List ℕ) (content : Content) (ps : List Part) → bodies_at at (record { raw = raw; field = record { number = k; content = content } } ∷ ps) ≡ [] → bodies_at at ps ≡ []
none_after at k raw (Varint value) ps none = none
none_after at k raw (Fixed64 value) ps none = none
none_after at k raw (Fixed32 value) ps none = none
none_after at k raw (Body body) ps none =
    elim (cases_eq k at) [
      | inl e ↦ let t : eqb k at ≡ true = eq-eqb k at e in let has = rw t at none in absurd cc
      | inr ne ↦ let f : eqb k at ≡ false = ne_eqb k at ne in rw f at none
    ]

-- where there are none at all there are none after some other body
none_behind : (at : ℕ) (test : Part → Bool) (ps : List Part) → bodies_at at ps ≡ [] → bodies_at at (behind_last test ps) ≡ []
none_behind at test [] none = refl
none_behind at test (p ∷ ps) none =
    elim (cases_Bool (list_any test (p ∷ ps))) [
      | inl e ↦ rw e (none_behind at test ps (none_after at p.field.number p.raw p.field.content ps none))
      | inr e ↦ rw e none
    ]

-- a member that is there, and another one: the other is not there, since it is not after the first
one_member : (at n : ℕ) (mine others : List ℕ) (ps : List Part) → is_among mine n ≡ true → is_among others at ≡ true → (bodies_since at mine ps ≡ [] → ⊥) → bodies_since n others ps ≡ []
one_member at n mine others [] named back there = refl
one_member at n mine others (p ∷ ps) named back there =
    elim (cases_Bool (list_any (is_body_of mine) (p ∷ ps))) [
      | inl e ↦
          let later : bodies_since at mine ps ≡ [] → ⊥ = λ none. there (rw e none) in
          let after : list_any (is_body_of others) ps ≡ true = true_from_ne_false (list_any (is_body_of others) ps) (λ f. later (none_behind at (is_body_of mine) ps (none_at at others ps back f))) in
          let now : list_any (is_body_of others) (p ∷ ps) ≡ true = or_right (is_body_of others p) (list_any (is_body_of others) ps) after in
          rw now (one_member at n mine others ps named back later)
      | inr e ↦ none_behind n (is_body_of others) (p ∷ ps) (none_at n mine (p ∷ ps) named e)
    ]

-- so, where a member is there, no other that is named by its row is
pub none_of : (row : Row) (at : ℕ) (mine : List ℕ) → NamedBack at mine row → (ps : List Part) → (bodies_since at mine ps ≡ [] → ⊥) → NoneOf mine row (values row ps)
unfolding values
none_of (Done keeps) at mine named ps there = tt
none_of (Number n kind rest) at mine named ps there = none_of rest at mine named.1 ps there
none_of (Numbers n kind rest) at mine named ps there = none_of rest at mine named.1 ps there
none_of (Text n rest) at mine named ps there = none_of rest at mine named.1 ps there
none_of (Texts n rest) at mine named ps there = none_of rest at mine named.1 ps there
none_of (Message n others row rest) at mine named ps there =
    (λ among. rw (one_member at n mine others ps among (sym named.0 ∙ among) there) refl, none_of rest at mine named.1 ps there)
none_of (Messages n row rest) at mine named ps there = none_of rest at mine named.1 ps there
none_of (Raw n others rest) at mine named ps there =
    (λ among. rw (one_member at n mine others ps among (sym named.0 ∙ among) there) refl, none_of rest at mine named.1 ps there)
