-- Messages that are in several fields, and the bodies of fields with no fault.
use Rattle.std.proofs.Common.{◌≡◌, ℕ, Bool, true, false, eqb, ◌&&◌, List, [], ◌∷◌, Option, Some, None, refl, sym, ap, subst, ◌∙◌, inl, inr}
use Rattle.std.specs.Prelude.{unwrap_or}
use Rattle.std.specs.Option.{option_map}
use Rattle.std.specs.List.{AllByRecursion, fold, flat_map}
use Rattle.std.proofs.lemmas.Bool.{cases_eq, eq-eqb, ne_eqb}
use Rattle.std.proofs.lemmas.List.Sums.{fold-append}
use Rattle.hb_wire.specs.Field.{Content, Varint, Fixed64, Body, Fixed32}
use Rattle.hb_flow.specs.Fields.{Part, parts, bodies, joined}
use Rattle.hb_flow.specs.Faults.{Check}
use Rattle.hb_flow.proofs.Joining.{Joins, Sound, SoundContent, SoundPart, Whole, parts_joined}
use Rattle.hb_flow.proofs.NotKnown.{part_of, no_body}

-- ---- a message that is in several fields

-- merged into what is there, one body after another
abbrev pub merged : {M : Type 0} → (M → Part → M) → M → Option M → List (List ℕ) → Option M
merged after none there [] = there
merged after none there (body ∷ others) = merged after none (Some (fold after (unwrap_or there none) (parts body))) others

-- with what is there, the fields of all of them
merged_some : {M : Type 0} (after : M → Part → M) (none m : M) (others : List (List ℕ)) → merged after none (Some m) others ≡ Some (fold after m (flat_map parts others))
merged_some after none m [] = refl
merged_some after none m (body ∷ others) =
    merged_some after none (fold after m (parts body)) others ∙ ap Some (sym (fold-append after m (parts body) (flat_map parts others)))

-- that is the bodies read as one
pub merged_joined : {M : Type 0} (after : M → Part → M) (none : M) (bs : List (List ℕ)) → AllByRecursion Joins bs
    → merged after none None bs ≡ option_map (λ b. fold after none (parts b)) (joined bs)
merged_joined after none [] join = refl
merged_joined after none (body ∷ others) join =
    merged_some after none (fold after none (parts body)) others
    ∙ ap Some (sym (fold-append after none (parts body) (flat_map parts others)) ∙ ap (fold after none) (sym (parts_joined (body ∷ others) join)))

-- what a row knows of a number with another wire type
pub and_false : (b : Bool) → (b && false) ≡ false
and_false true = refl
and_false false = refl

-- ---- what the bodies with a number are, where the bytes have no fault

-- with one more field in front, which has no fault
sound_step : (check : Check) (raw : List ℕ) (number k : ℕ) (content : Content) (ps : List Part) → SoundContent check k content → AllByRecursion (Sound check number) (bodies number ps)
    → AllByRecursion (Sound check number) (bodies number (part_of raw k content ∷ ps))
sound_step check raw number k (Body body) ps sound rest =
    elim (cases_eq k number) [
      | inl e ↦ let t : eqb k number ≡ true = eq-eqb k number e in rw t (subst (λ (n : ℕ). Sound check n body) e sound, rest)
      | inr ne ↦ let t : eqb k number ≡ false = ne_eqb k number ne in rw t rest
    ]
sound_step check raw number k (Varint value) ps sound rest = rw (no_body (eqb k number)) rest
sound_step check raw number k (Fixed64 value) ps sound rest = rw (no_body (eqb k number)) rest
sound_step check raw number k (Fixed32 value) ps sound rest = rw (no_body (eqb k number)) rest

-- each body with the number has no fault
pub all_sound : (check : Check) (number : ℕ) (ps : List Part) → AllByRecursion (SoundPart check) ps → AllByRecursion (Sound check number) (bodies number ps)
all_sound check number [] sound = tt
all_sound check number (p ∷ ps) sound = sound_step check p.raw number p.field.number p.field.content ps sound.0 (all_sound check number ps sound.1)

-- what holds of each follows where more holds
pub all_weaker : {X : Type 0} (P Q : X → Type 0) → ((x : X) → P x → Q x) → (xs : List X) → AllByRecursion P xs → AllByRecursion Q xs
all_weaker P Q weaker [] all = tt
all_weaker P Q weaker (x ∷ xs) all = (weaker x all.0, all_weaker P Q weaker xs all.1)

-- what holds of all the bodies with a number, where it holds of each that has no fault
pub bodies_are : (check : Check) (number : ℕ) (bytes : List ℕ) (P : List ℕ → Type 0) → ((body : List ℕ) → Sound check number body → P body) → Whole check bytes
    → AllByRecursion P (bodies number (parts bytes))
bodies_are check number bytes P each is = all_weaker (Sound check number) P each (bodies number (parts bytes)) (all_sound check number (parts bytes) is.sound)
