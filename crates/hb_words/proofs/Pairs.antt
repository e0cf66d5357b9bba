-- A list of words by its first two, and whether these are options.
use Rattle.std.proofs.Common.{◌≡◌, ◌∙◌, sym, ap, ◌≤◌, ◌<◌, ◌-◌, ℕ, List, [], ◌∷◌, length, get_or, map, take, drop, arith, true, false, ◌&&◌, None, refl}
use Rattle.std.proofs.Math.Seq.{take-length}
use Rattle.hb_words.specs.Options.{are_options, is_new, value}

-- all but the first two
abbrev later : {A : Type 0} → List A → List A
later xs = take (length xs - 2) (drop 2 xs)

front_two : {A B : Type 0} (f : A → B) (xs : List A) (x y : A) → 2 ≤ length xs → map f xs ≡ f (get_or xs 0 x) ∷ f (get_or xs 1 y) ∷ map f (later xs)
front_two f [] x y two = absurd (omega arith)
front_two f (a ∷ []) x y two = absurd (omega arith)
front_two f (a ∷ b ∷ xs) x y two = let e : length (a ∷ b ∷ xs) - 2 ≡ length xs = omega arith in rw (e, take-length xs) refl

-- fewer than two words have no value
pub no_value : {A : Type 0} (f : A → List ℕ) (name : List ℕ) (xs : List A) → length xs < 2 → None ≡ value name (map f xs)
no_value f name [] few = refl
no_value f name (x ∷ []) few = refl
no_value f name (x ∷ y ∷ xs) few = absurd (omega arith)

-- one word alone is no pair
pub one_word : {A : Type 0} (f : A → List ℕ) (xs : List A) → 1 ≤ length xs → length xs < 2 → false ≡ are_options (map f xs)
one_word f [] least most = absurd (omega arith)
one_word f (x ∷ []) least most = refl
one_word f (x ∷ y ∷ xs) least most = absurd (omega arith)

module _ {A : Type 0} (f : A → List ℕ) (xs : List A) (x : A) (name : List ℕ) (two : 2 ≤ length xs) (is : x ≡ get_or xs 0 x) (named : name ≡ f x) where
  by_first : are_options (map f xs) ≡ (is_new name (map f (later xs)) && are_options (map f (later xs)))
  by_first = ap are_options (front_two f xs x x two) ∙ ap (λ n. is_new n (map f (later xs)) && are_options (map f (later xs))) (sym (named ∙ ap f is))

  -- behind a new name the rest decides
  pub new_first : true ≡ is_new name (map f (later xs)) → are_options (map f (later xs)) ≡ are_options (map f xs)
  new_first new = sym (by_first ∙ ap (λ b. b && are_options (map f (later xs))) (sym new))

  -- behind any other name it does not
  pub old_first : false ≡ is_new name (map f (later xs)) → false ≡ are_options (map f xs)
  old_first old = sym (by_first ∙ ap (λ b. b && are_options (map f (later xs))) (sym old))
