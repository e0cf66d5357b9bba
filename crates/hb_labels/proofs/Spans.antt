-- The front of a list that passes a test, and what stands behind it.
use Rattle.std.proofs.Common.{◌≡◌, ℕ, zero, suc, ◌+◌, ◌<◌, Bool, true, false, List, [], ◌∷◌, ◌++◌, take, drop, refl, sym, ap, subst, ◌∙◌, arith, inl, inr}
use Rattle.std.proofs.lemmas.Bool.{cases_Bool}
use Rattle.std.proofs.lemmas.Bool.Decides.{nat_tests}
use Rattle.std.specs.List.{prefix_len, AllByRecursion}
use Rattle.std.specs.Str.{IsAscii, IsUtf8}
use Rattle.std.proofs.lemmas.Str.{IsUtf8-from_ascii}
use Rattle.hb_labels.specs.Texts.{is_name_byte, IsName}

-- each passes the test
abbrev pub Each : (ℕ → Bool) → List ℕ → Type 0
Each p text = AllByRecursion (λ b. p b ≡ true) text

-- the text is empty, or its first byte does not pass the test
abbrev pub Stops : (ℕ → Bool) → List ℕ → Type 0
Stops p [] = Unit {0}
Stops p (b ∷ text) = p b ≡ false

module _ (p : ℕ → Bool) where
  abbrev pub front : List ℕ → List ℕ
  front text = take (prefix_len p text) text

  abbrev pub back : List ℕ → List ℕ
  back text = drop (prefix_len p text) text

  pub front_more : (b : ℕ) (text : List ℕ) → p b ≡ true → front (b ∷ text) ≡ b ∷ front text
  front_more b text h = let more : 1 + prefix_len p text ≡ suc (prefix_len p text) = omega arith in rw (h, more) refl

  pub back_more : (b : ℕ) (text : List ℕ) → p b ≡ true → back (b ∷ text) ≡ back text
  back_more b text h = let more : 1 + prefix_len p text ≡ suc (prefix_len p text) = omega arith in rw (h, more) refl

  pub front_none : (text : List ℕ) → Stops p text → front text ≡ []
  front_none [] h = refl
  front_none (b ∷ text) h = rw h refl

  pub back_none : (text : List ℕ) → Stops p text → back text ≡ text
  back_none [] h = refl
  back_none (b ∷ text) h = rw h refl

  -- the front passes, the rest stops, and both are the text
  pub front_each : (text : List ℕ) → Each p (front text)
  front_each [] = tt
  front_each (b ∷ text) = elim (cases_Bool (p b)) [
    | inl passes ↦ subst (λ (t : List ℕ). Each p t) (sym (front_more b text passes)) (passes, front_each text)
    | inr stop ↦ subst (λ (t : List ℕ). Each p t) (sym (front_none (b ∷ text) stop)) tt
  ]

  pub back_stops : (text : List ℕ) → Stops p (back text)
  back_stops [] = tt
  back_stops (b ∷ text) = elim (cases_Bool (p b)) [
    | inl passes ↦ subst (λ (t : List ℕ). Stops p t) (sym (back_more b text passes)) (back_stops text)
    | inr stop ↦ subst (λ (t : List ℕ). Stops p t) (sym (back_none (b ∷ text) stop)) stop
  ]

  -- what passes and then stops is cut there
  pub front_is : (a rest : List ℕ) → Each p a → Stops p rest → front (a ++ rest) ≡ a
  front_is [] rest h stop = front_none rest stop
  front_is (b ∷ a) rest h stop = front_more b (a ++ rest) h.0 ∙ ap (λ (t : List ℕ). b ∷ t) (front_is a rest h.1 stop)

  -- passing over what passes
  pub back_over : (a rest : List ℕ) → Each p a → back (a ++ rest) ≡ back rest
  back_over [] rest h = refl
  back_over (b ∷ a) rest h = back_more b (a ++ rest) h.0 ∙ back_over a rest h.1

  pub back_is : (a rest : List ℕ) → Each p a → Stops p rest → back (a ++ rest) ≡ rest
  back_is a rest h stop = back_over a rest h ∙ back_none rest stop

-- a name is text
name_ascii : (b : ℕ) → is_name_byte b ≡ true → b < 128
name_ascii b h = grind (arith, nat_tests)

ascii : (text : List ℕ) → IsName text → IsAscii text
ascii [] h i = omega arith
ascii (b ∷ text) h zero = name_ascii b h.0
ascii (b ∷ text) h (suc i) = ascii text h.1 i

pub name_utf8 : (text : List ℕ) → IsName text → IsUtf8 text
name_utf8 text h = IsUtf8-from_ascii text (ascii text h)
