-- What there is to find at a position is one thing.
use Rattle.std.proofs.Common.{◌≡◌, ℕ, List, length, inl, inr, refl, sym, ap, ◌∙◌, arith}
use Rattle.std.proofs.lemmas.Bool.{cases_lt}
use Rattle.std.proofs.lemmas.Option.{get_or_from_slice_get, slice_get_within, slice_get_cases}
use Rattle.hb_look.specs.Looks.{Found, Got, Gone, NotYet, oldest}
use Rattle.hb_look.specs.Answers.{IsFoundAt}

pub some_finding : (log : List (List ℕ)) (cap position : ℕ) → (found : Found) × IsFoundAt log cap position found
some_finding log cap position = elim (slice_get_cases log position).1 [
  | inl there ↦ elim (cases_lt position (oldest cap (length log))) [
    | inl over ↦ (Gone (oldest cap (length log)), (over, refl))
    | inr held ↦ (Got there.0, (held, there.2))
  ]
  | inr past ↦ (NotYet, past.0)
]

pub same_finding : (log : List (List ℕ)) (cap position : ℕ) (a b : Found) → IsFoundAt log cap position a → IsFoundAt log cap position b → a ≡ b
same_finding log cap position (Got x) (Got y) p q = ap Got (sym (get_or_from_slice_get log position x x p.1) ∙ get_or_from_slice_get log position y x q.1)
same_finding log cap position (Got x) (Gone n) p q = absurd (omega (arith, p.0, q.0, q.1))
same_finding log cap position (Got x) NotYet p q = absurd (omega (arith, q, slice_get_within log position x p.1))
same_finding log cap position (Gone n) (Got y) p q = absurd (omega (arith, p.0, p.1, q.0))
same_finding log cap position (Gone n) (Gone m) p q = ap Gone (p.1 ∙ sym q.1)
same_finding log cap position (Gone n) NotYet p q = absurd (omega (arith, p.0, p.1, q))
same_finding log cap position NotYet (Got y) p q = absurd (omega (arith, p, slice_get_within log position y q.1))
same_finding log cap position NotYet (Gone m) p q = absurd (omega (arith, p, q.0, q.1))
same_finding log cap position NotYet NotYet p q = refl
