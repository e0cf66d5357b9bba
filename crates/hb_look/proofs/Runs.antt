-- The places of a run: none is before one where it was.
use Rattle.std.proofs.Common.{ℕ, ◌≤◌, List, [], ◌∷◌, arith}
use Rattle.std.specs.List.{All, AllPairs}
use Rattle.std.proofs.lemmas.List.Elements.{All-nil, All-cons, All-head, All-tail, All-weaker}
use Rattle.std.proofs.lemmas.List.Kept.{AllPairs-cons}
use Rattle.hb_look.specs.Looks.{Found, Got, Gone, NotYet, LookMade, IsRun, place_after, after, reach}
use Rattle.hb_look.specs.Stands.{IsSo, IsTrueOf}

-- a look lies between two places
abbrev pub LiesIn : ℕ → ℕ → LookMade → Type 0
LiesIn from to look = (from ≤ look.position) × (after look ≤ to)

-- the place after a look is not before it
moves : (log : List (List ℕ)) (cap position : ℕ) (found : Found) → IsSo log cap position found → position ≤ place_after position found
moves log cap position (Got bytes) so = omega arith
moves log cap position (Gone next) so = omega (arith, so.0)
moves log cap position NotYet so = omega arith

-- the reach of a run is not before its start
reaches : (log : List (List ℕ)) (start : ℕ) (looks : List LookMade) → IsRun start looks → All (IsTrueOf log) looks → start ≤ reach start looks
reaches log start [] run so = omega arith
reaches log start (look ∷ looks) run so =
    let tail = reaches log (after look) looks run.1 (All-tail (IsTrueOf log) look looks so) in
    omega (arith, run.0, moves log look.capacity look.position look.found (All-head (IsTrueOf log) look looks so), tail)

-- each look of a run lies between its start and its reach
pub run_within : (log : List (List ℕ)) (start : ℕ) (looks : List LookMade) → IsRun start looks → All (IsTrueOf log) looks
    → All (LiesIn start (reach start looks)) looks
run_within log start [] run so = All-nil (LiesIn start start)
run_within log start (look ∷ looks) run so =
    let end : ℕ = reach (after look) looks in
    let moved : look.position ≤ after look = moves log look.capacity look.position look.found (All-head (IsTrueOf log) look looks so) in
    let tail = All-tail (IsTrueOf log) look looks so in
    let rest = run_within log (after look) looks run.1 tail in
    let from : start ≤ look.position = omega (arith, run.0) in
    let to : after look ≤ end = reaches log (after look) looks run.1 tail in
    All-cons (LiesIn start end) look looks (from, to)
    (All-weaker (LiesIn (after look) end) (LiesIn start end) (λ l h. (omega (arith, h.0, moved, from), h.1)) looks rest)

-- and none is before the place after an earlier one
pub run_on : (log : List (List ℕ)) (start : ℕ) (looks : List LookMade) → IsRun start looks → All (IsTrueOf log) looks
    → AllPairs (λ earlier later. after earlier ≤ later.position) looks
run_on log start [] run so = λ i j d below within. absurd (omega (arith, within))
run_on log start (look ∷ looks) run so =
    let tail = All-tail (IsTrueOf log) look looks so in
    let rest = run_within log (after look) looks run.1 tail in
    let past : All (λ l. after look ≤ l.position) looks =
    All-weaker (LiesIn (after look) (reach (after look) looks)) (λ l. after look ≤ l.position) (λ l h. h.0) looks rest in
    AllPairs-cons (λ earlier later. after earlier ≤ later.position) look looks past (run_on log (after look) looks run.1 tail)
