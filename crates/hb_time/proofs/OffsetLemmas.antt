-- Offsets, and the hours and minutes in them.
use Rattle.std.proofs.Common.{◌≡◌, ℕ, ◌+◌, ◌*◌, ◌^◌, ◌<◌, ◌≤◌, inl, inr, List, [], ◌∷◌, ◌++◌, length, get_or, Option, Some, None, option_map, ◌↔◌, refl, sym, ap, ◌∙◌, subst, arith}
use Rattle.std.specs.Int.{IsInRange}
use Rattle.std.proofs.lemmas.List.{append-nil}
use Rattle.hb_time.specs.declared.offset.Offset.{Offset}
use Rattle.hb_time.specs.declared.offset.Offset.TheVariants.{Ahead, Behind}
use Rattle.hb_time.specs.Texts.{padded, SpellsMinutes, SpellsOffset}
use Rattle.hb_time.proofs.Exact.{parts_of}

-- what `number_before` and `number_at` answer
abbrev pub Before : List ℕ → ℕ → ℕ → Option (ℕ × List ℕ) → Type 0
Before text width sign found = (n : ℕ) (rest : List ℕ) → (found ≡ Some (n, rest)) ↔ ((n < 10 ^ width) × (text ≡ padded width n ++ sign ∷ rest))

abbrev pub At : List ℕ → ℕ → Option (ℕ × List ℕ) → Type 0
At text width found = (n : ℕ) (rest : List ℕ) → (found ≡ Some (n, rest)) ↔ ((n < 10 ^ width) × (text ≡ padded width n ++ rest))

hour_part : (text rest : List ℕ) (hour minutes : ℕ) → Before text 2 58 (Some (hour, rest)) → (h : SpellsMinutes text minutes) → (hour ≡ h.hour) × (rest ≡ padded 2 h.minute ++ [])
unfolding padded
hour_part text rest hour minutes exact h =
    let below = h.hours in
    let same = parts_of hour h.hour rest (padded 2 h.minute) ((exact h.hour (padded 2 h.minute)).1 (omega arith, h.spelled)) in
    (same.0, same.1 ∙ sym (append-nil (padded 2 h.minute)))

pub no_minute : (text rest : List ℕ) (hour minutes : ℕ) → Before text 2 58 (Some (hour, rest)) → At rest 2 None → SpellsMinutes text minutes → ⊥
no_minute text rest hour minutes exact none h =
    let below = h.below in
    let same = hour_part text rest hour minutes exact h in
    let found = (none h.minute []).1 (omega arith, same.1) in
    absurd cc

pub both_parts : (text rest behind : List ℕ) (hour minute minutes : ℕ) → Before text 2 58 (Some (hour, rest)) → At rest 2 (Some (minute, behind)) → (h : SpellsMinutes text minutes) → (hour ≡ h.hour) × (minute ≡ h.minute) × (behind ≡ [])
both_parts text rest behind hour minute minutes exact next h =
    let below = h.below in
    let same = hour_part text rest hour minutes exact h in
    let two = parts_of minute h.minute behind [] ((next h.minute []).1 (omega arith, same.1)) in
    (same.0, two.0, two.1)

pub one_minutes : (text rest behind : List ℕ) (hour minute : ℕ) → Before text 2 58 (Some (hour, rest)) → At rest 2 (Some (minute, behind)) → hour ≤ 23 → minute ≤ 59 → length behind ≡ 0 → (minutes : ℕ) → (◌≡◌ {A = Option ℕ} (Some (60 * hour + minute)) (Some minutes)) ↔ SpellsMinutes text minutes
unfolding padded
one_minutes text rest [] hour minute exact next low small none minutes = (
  λ e.
      let value : minutes ≡ 60 * hour + minute = cc in
      let one = (exact hour rest).0 refl in
      let two = (next minute []).0 refl in
      let end = two.1 ∙ append-nil (padded 2 minute) in
      record { hour = hour; minute = minute; hours = omega arith; below = omega arith; spelled = one.1 ∙ ap (λ l. padded 2 hour ++ 58 ∷ l) end; value = value },
  λ h.
      let same = both_parts text rest [] hour minute minutes exact next h in
      let value = h.value in
      ap Some (omega (arith, same.0, same.1)),
)
one_minutes text rest (b ∷ behind) hour minute exact next low small none minutes = absurd (omega arith)

ahead_of : (found : Option ℕ) (m : ℕ) → option_map Ahead found ≡ Some (Ahead m) → found ≡ Some m
ahead_of None m e = absurd cc
ahead_of (Some x) m e = let same : x ≡ m = cc in ap Some same

not_behind : (found : Option ℕ) (m : ℕ) → option_map Ahead found ≡ Some (Behind m) → ⊥
not_behind None m e = absurd cc
not_behind (Some x) m e = absurd cc

behind_of : (found : Option ℕ) (m : ℕ) → option_map Behind found ≡ Some (Behind m) → found ≡ Some m
behind_of None m e = absurd cc
behind_of (Some x) m e = let same : x ≡ m = cc in ap Some same

not_ahead : (found : Option ℕ) (m : ℕ) → option_map Behind found ≡ Some (Ahead m) → ⊥
not_ahead None m e = absurd cc
not_ahead (Some x) m e = absurd cc

abbrev pub Minutes : List ℕ → Option ℕ → Type 0
Minutes text found = (m : ℕ) → (found ≡ Some m) ↔ SpellsMinutes text m

pub plus : (text rest : List ℕ) (found : Option ℕ) → text ≡ 43 ∷ rest → Minutes rest found → (offset : Offset) → (option_map Ahead found ≡ Some offset) ↔ SpellsOffset text offset
plus text rest found e exact (Ahead m) = (
  λ f. inr (rest, (exact m).0 (ahead_of found m f), e),
  λ h. elim h [
    | inl z ↦ let both = sym e ∙ z.0 in let head : ◌≡◌ {A = ℕ} 43 90 = cc in absurd (omega arith)
    | inr s ↦ let both = sym e ∙ s.2 in let same : s.0 ≡ rest = cc in ap (option_map Ahead) ((exact m).1 (subst (λ (l : List ℕ). SpellsMinutes l m) same s.1))
  ],
)
plus text rest found e exact (Behind m) = (
  λ f. absurd (not_behind found m f),
  λ s. let both = sym e ∙ s.2 in let head : ◌≡◌ {A = ℕ} 43 45 = cc in absurd (omega arith),
)

pub minus : (text rest : List ℕ) (found : Option ℕ) → text ≡ 45 ∷ rest → Minutes rest found → (offset : Offset) → (option_map Behind found ≡ Some offset) ↔ SpellsOffset text offset
minus text rest found e exact (Behind m) = (
  λ f. (rest, (exact m).0 (behind_of found m f), e),
  λ s. let both = sym e ∙ s.2 in let same : s.0 ≡ rest = cc in ap (option_map Behind) ((exact m).1 (subst (λ (l : List ℕ). SpellsMinutes l m) same s.1)),
)
minus text rest found e exact (Ahead m) = (
  λ f. absurd (not_ahead found m f),
  λ h. elim h [
    | inl z ↦ let both = sym e ∙ z.0 in let head : ◌≡◌ {A = ℕ} 45 90 = cc in absurd (omega arith)
    | inr s ↦ let both = sym e ∙ s.2 in let head : ◌≡◌ {A = ℕ} 45 43 = cc in absurd (omega arith)
  ],
)

-- an offset begins with no digit, and with no point
pub offset_head : (zone : List ℕ) (offset : Offset) → SpellsOffset zone offset → (IsInRange 48 57 (get_or zone 0 0) → ⊥) × (get_or zone 0 0 ≡ 46 → ⊥)
offset_head zone (Ahead m) h =
    elim h [
      | inl z ↦ rw z.0 (λ d. absurd (omega (arith, d)), λ d. absurd (omega (arith, d)))
      | inr s ↦ rw s.2 (λ d. absurd (omega (arith, d)), λ d. absurd (omega (arith, d)))
    ]
offset_head zone (Behind m) s = rw s.2 (λ d. absurd (omega (arith, d)), λ d. absurd (omega (arith, d)))
