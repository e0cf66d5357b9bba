-- The occurrences of members among fields, and the last run of them.
use Rattle.std.proofs.Common.{◌≡◌, ◌⊎◌, ℕ, Bool, true, false, eqb, List, [], ◌∷◌, map, refl, subst, inl, inr}
use Rattle.std.specs.Prelude.{◌==◌, IfSome}
use Rattle.std.specs.List.{AllByRecursion, list_all}
use Rattle.std.proofs.lemmas.Bool.{cases_eq, eq-eqb, ne_eqb}
use Rattle.hb_wire.specs.Field.{Content, Varint, Fixed64, Body, Fixed32}
use Rattle.hb_flow.specs.Fields.{Part, members, last_run}
use Rattle.hb_flow.specs.Faults.{response_check}
use Rattle.hb_flow.proofs.Joining.{Sound, SoundContent, SoundPart}
use Rattle.hb_flow.proofs.NotKnown.{part_of, no_member}

-- ---- occurrences of one number

abbrev pub Alike : ℕ → List (ℕ × List ℕ) → Type 0
Alike n = AllByRecursion (λ m. m.0 ≡ n)

pub all_alike : (n : ℕ) (ms : List (ℕ × List ℕ)) → list_all (λ m. m.0 == n) ms ≡ true → Alike n ms
all_alike n [] e = tt
all_alike n (m ∷ ms) e =
    elim (cases_eq m.0 n) [
      | inl same ↦ let here : eqb m.0 n ≡ true = eq-eqb m.0 n same in (same, all_alike n ms (rw here at e))
      | inr ne ↦ let here : eqb m.0 n ≡ false = ne_eqb m.0 n ne in let never = rw here at e in absurd cc
    ]

-- what holds of each occurrence holds of those of the last run: of its number, and of each body
module _ (Q : ℕ → Type 0) (P : ℕ → List ℕ → Type 0) where
  of_number : (n : ℕ) (ms : List (ℕ × List ℕ)) → Alike n ms → AllByRecursion (λ m. Q m.0 × P m.0 m.1) ms → AllByRecursion (P n) (map (λ m. m.1) ms)
  of_number n [] same all = tt
  of_number n (m ∷ ms) same all = (subst (λ (k : ℕ). P k m.1) same.0 all.0.1, of_number n ms same.1 all.1)

  run_with : (m : ℕ × List ℕ) (ms : List (ℕ × List ℕ)) (b : Bool) → list_all (λ x. x.0 == m.0) ms ≡ b → AllByRecursion (λ x. Q x.0 × P x.0 x.1) (m ∷ ms)
      → IfSome (last_run ms) (λ r. Q r.0 × AllByRecursion (P r.0) r.1) → IfSome (last_run (m ∷ ms)) (λ r. Q r.0 × AllByRecursion (P r.0) r.1)
  run_with m ms true e all rest = rw e (all.0.0, of_number m.0 (m ∷ ms) (refl, all_alike m.0 ms e) all)
  run_with m ms false e all rest = rw e rest

  pub run_holds : (ms : List (ℕ × List ℕ)) → AllByRecursion (λ m. Q m.0 × P m.0 m.1) ms → IfSome (last_run ms) (λ r. Q r.0 × AllByRecursion (P r.0) r.1)
  run_holds [] all = tt
  run_holds (m ∷ ms) all = run_with m ms (list_all (λ x. x.0 == m.0) ms) refl all (run_holds ms all.1)

-- ---- the members among fields with no fault

abbrev pub IsMember : ℕ → Type 0
IsMember number = (number ≡ 1) ⊎ ((number ≡ 2) ⊎ (number ≡ 3))

abbrev pub MemberSound : ℕ → List ℕ → Type 0
MemberSound number body = IsMember number × Sound response_check number body

-- with one more field in front
member_step : (raw : List ℕ) (number : ℕ) (content : Content) (ps : List Part) → SoundContent response_check number content → AllByRecursion (λ m. MemberSound m.0 m.1) (members ps)
    → AllByRecursion (λ m. MemberSound m.0 m.1) (members (part_of raw number content ∷ ps))
member_step raw number (Varint value) ps sound rest = rw (no_member (eqb number 1) (eqb number 2) (eqb number 3)) rest
member_step raw number (Fixed64 value) ps sound rest = rw (no_member (eqb number 1) (eqb number 2) (eqb number 3)) rest
member_step raw number (Fixed32 value) ps sound rest = rw (no_member (eqb number 1) (eqb number 2) (eqb number 3)) rest
member_step raw number (Body body) ps sound rest =
    elim (cases_eq number 1) [
      | inl e ↦ let here : eqb number 1 ≡ true = eq-eqb number 1 e in rw here ((inl e, sound), rest)
      | inr ne ↦
          let not_1 : eqb number 1 ≡ false = ne_eqb number 1 ne in
          elim (cases_eq number 2) [
            | inl e ↦ let here : eqb number 2 ≡ true = eq-eqb number 2 e in rw (not_1, here) ((inr (inl e), sound), rest)
            | inr ne ↦
                let not_2 : eqb number 2 ≡ false = ne_eqb number 2 ne in
                elim (cases_eq number 3) [
                  | inl e ↦ let here : eqb number 3 ≡ true = eq-eqb number 3 e in rw (not_1, not_2, here) ((inr (inr e), sound), rest)
                  | inr ne ↦ let not_3 : eqb number 3 ≡ false = ne_eqb number 3 ne in rw (not_1, not_2, not_3) rest
                ]
          ]
    ]

pub members_sound : (ps : List Part) → AllByRecursion (SoundPart response_check) ps → AllByRecursion (λ m. MemberSound m.0 m.1) (members ps)
members_sound [] sound = tt
members_sound (p ∷ ps) sound = member_step p.raw p.field.number p.field.content ps sound.0 (members_sound ps sound.1)
