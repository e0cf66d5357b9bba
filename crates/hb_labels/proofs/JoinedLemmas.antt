-- Items with commas between them: what is read of the pieces is what spells them.
use Rattle.std.proofs.Common.{◌≡◌, ℕ, Bool, false, not, ◌&&◌, ◌==◌, List, [], ◌∷◌, ◌++◌, Option, Some, None, ◌⊎◌, refl, sym, ap, subst, ◌∙◌, inl, inr, append_assoc, eqb-true}
use Rattle.std.specs.Option.{option_map}
use Rattle.std.specs.List.{onto_first}
use Rattle.std.proofs.lemmas.Bool.{cases_Bool, and_parts}
use Rattle.hb_labels.specs.Texts.{Joined}
use Rattle.hb_labels.specs.Reading.{pieces, inside_after, each}
use Rattle.hb_labels.proofs.Pieces.{pieces_nil, pieces_comma, pieces_other, pieces_some, each_step, each_stop, each_nil}

-- the text has no comma outside parentheses, and ends outside them
abbrev pub Closed : Bool → List ℕ → Type 0
Closed inside [] = inside ≡ false
Closed inside (b ∷ text) = ((b == 44 && not inside) ≡ false) × Closed (inside_after inside b) text

closed_alone : (inside : Bool) (text : List ℕ) → Closed inside text → pieces inside text ≡ text ∷ []
closed_alone inside [] h = pieces_nil inside
closed_alone inside (b ∷ text) h = pieces_other inside b text h.0 ∙ ap (onto_first b) (closed_alone (inside_after inside b) text h.1)

closed_first : (inside : Bool) (text rest : List ℕ) → Closed inside text → pieces inside (text ++ 44 ∷ rest) ≡ text ∷ pieces false rest
closed_first inside [] rest h = ap (λ (x : Bool). pieces x (44 ∷ rest)) h ∙ pieces_comma false 44 rest refl
closed_first inside (b ∷ text) rest h = pieces_other inside b (text ++ 44 ∷ rest) h.0 ∙ ap (onto_first b) (closed_first (inside_after inside b) text rest h.1)

pieces_split : (inside : Bool) (text : List ℕ) → (pieces inside text ≡ text ∷ []) ⊎ ((front rest : List ℕ) × (text ≡ front ++ 44 ∷ rest) × (pieces inside text ≡ front ∷ pieces false rest))
pieces_split inside [] = inl (pieces_nil inside)
pieces_split inside (b ∷ text) = elim (cases_Bool (b == 44 && not inside)) [
  | inl comma ↦
      let is : b ≡ 44 = eqb-true b 44 (and_parts (b == 44) (not inside) comma).0 in
      inr ([], text, ap (λ (x : ℕ). x ∷ text) is, pieces_comma inside b text comma)
  | inr other ↦
      let step = pieces_other inside b text other in
      elim (pieces_split (inside_after inside b) text) [
        | inl alone ↦ inl (step ∙ ap (onto_first b) alone)
        | inr found ↦ inr (b ∷ found.0, found.1, ap (λ (t : List ℕ). b ∷ t) found.2, step ∙ ap (onto_first b) found.3)
      ]
]

module _ {A : Type 0} (Spells : List ℕ → A → Type 0) (one : List ℕ → Option A) where
  each_one : (text : List ℕ) (x : A) → one text ≡ Some x → each one (text ∷ []) ≡ Some (x ∷ [])
  each_one text x h = each_step one text [] x h ∙ ap (λ o. option_map (λ xs. x ∷ xs) o) (each_nil one)

  pub joined_complete : ((text : List ℕ) (x : A) → Spells text x → Closed false text) → ((text : List ℕ) (x : A) → Spells text x → one text ≡ Some x)
      → (text : List ℕ) (xs : List A) → Joined Spells text xs → each one (pieces false text) ≡ Some xs
  joined_complete closed complete text [] h = absurd h
  joined_complete closed complete text (x ∷ []) h = ap (each one) (closed_alone false text (closed text x h)) ∙ each_one text x (complete text x h)
  joined_complete closed complete text (x ∷ y ∷ xs) (front, rest, split, first, more) =
      let cut = ap (pieces false) (split ∙ append_assoc front (44 ∷ []) rest) ∙ closed_first false front rest (closed front x first) in
      ap (each one) cut ∙ each_step one front (pieces false rest) x (complete front x first)
      ∙ ap (λ o. option_map (λ zs. x ∷ zs) o) (joined_complete closed complete rest (y ∷ xs) more)

  each_some : (piece : List ℕ) (ps : List (List ℕ)) (ys : List A) → each one (piece ∷ ps) ≡ Some ys → (x : A) × (xs : List A) × (one piece ≡ Some x) × (each one ps ≡ Some xs) × (ys ≡ x ∷ xs)
  each_some piece ps ys h = go (one piece) refl where
    go : (o : Option A) → one piece ≡ o → (x : A) × (xs : List A) × (one piece ≡ Some x) × (each one ps ≡ Some xs) × (ys ≡ x ∷ xs)
    go None e = let none = each_stop one piece ps e in absurd cc
    go (Some x) e = more x e (each one ps) refl where
      more : (x : A) → one piece ≡ Some x → (o : Option (List A)) → each one ps ≡ o → (x : A) × (xs : List A) × (one piece ≡ Some x) × (each one ps ≡ Some xs) × (ys ≡ x ∷ xs)
      more x e None f = let step = each_step one piece ps x e ∙ ap (λ o. option_map (λ xs. x ∷ xs) o) f in absurd cc
      more x e (Some xs) f = let step = each_step one piece ps x e ∙ ap (λ o. option_map (λ zs. x ∷ zs) o) f in (x, xs, e, f, cc)

  pub joined_sound : ((text : List ℕ) (x : A) → one text ≡ Some x → Spells text x) → (xs : List A) (text : List ℕ) → each one (pieces false text) ≡ Some xs → Joined Spells text xs
  joined_sound sound [] text h =
      let (p, ps, cut) = pieces_some false text in
      let (x, xs, first, more, is) = each_some p ps [] (sym (ap (each one) cut) ∙ h) in absurd cc
  joined_sound sound (x ∷ []) text h = elim (pieces_split false text) [
    | inl alone ↦
        let (y, ys, first, more, is) = each_some text [] (x ∷ []) (sym (ap (each one) alone) ∙ h) in
        let same : y ≡ x = cc in subst (λ (z : A). Spells text z) same (sound text y first)
    | inr found ↦
        let (y, ys, first, more, is) = each_some found.0 (pieces false found.1) (x ∷ []) (sym (ap (each one) found.3) ∙ h) in
        let none : ys ≡ [] = cc in
        let (p, ps, cut) = pieces_some false found.1 in
        let (z, zs, second, others, is2) = each_some p ps ys (sym (ap (each one) cut) ∙ more) in absurd cc
  ]
  joined_sound sound (x ∷ next ∷ xs) text h = elim (pieces_split false text) [
    | inl alone ↦
        let (y, ys, first, more, is) = each_some text [] (x ∷ next ∷ xs) (sym (ap (each one) alone) ∙ h) in
        let nil = each_nil one in absurd cc
    | inr found ↦
        let (y, ys, first, more, is) = each_some found.0 (pieces false found.1) (x ∷ next ∷ xs) (sym (ap (each one) found.3) ∙ h) in
        let same : y ≡ x = cc in
        let others : ys ≡ next ∷ xs = cc in
        (found.0, found.1, found.2 ∙ sym (append_assoc found.0 (44 ∷ []) found.1), subst (λ (z : A). Spells found.0 z) same (sound found.0 y first), joined_sound sound (next ∷ xs) found.1 (more ∙ ap Some others))
  ]
