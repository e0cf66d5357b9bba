-- One look more: a look that has its cause goes on from those before it, and stands for the log that it tells.
use Rattle.std.proofs.Common.{◌≡◌, ℕ, ◌+◌, ◌≤◌, List, [], ◌∷◌, ◌++◌, length, Some, sym, ◌∙◌, subst, arith}
use Rattle.std.specs.Prelude.{get_or}
use Rattle.std.specs.List.{All, AllPairs}
use Rattle.std.proofs.lemmas.List.Elements.{All-push, All-weaker}
use Rattle.std.proofs.lemmas.List.Quantifiers.{all_pairs_push}
use Rattle.hb_look.specs.Looks.{Found, Got, Gone, NotYet, LookMade}
use Rattle.hb_look.specs.Stands.{IsSo, IsTrueOf, MayFollow, GoesOn}
use Rattle.hb_look.specs.Reader.{Reader, IsLater, HasCause, IsBounded, IsWithin, IsInOrder, ReaderStandsFor}
use Rattle.hb_look.specs.Answers.{with_look, IsFoundAt}

-- what a reader has seen goes on bounding what it found
still_bounded : (cap : ℕ) (old new : Reader) (position : ℕ) (found : Found) → IsLater old new → IsBounded cap old position found → IsBounded cap new position found
still_bounded cap old new position (Got bytes) later bounded = omega (arith, bounded, later.finished.count)
still_bounded cap old new position (Gone next) later bounded = (bounded.0, omega (arith, bounded.1, later.begun.count))
still_bounded cap old new position NotYet later bounded = tt

still_within : (old new : Reader) (look : LookMade) → IsLater old new → IsWithin old look → IsWithin new look
still_within old new look later within =
    (within.0 ∙ sym later.capacity, still_bounded look.capacity old new look.position look.found later within.1)

-- and bounds what this look finds
now_bounded : (cap : ℕ) (old new : Reader) (position : ℕ) (found : Found) → HasCause cap position old new found → IsBounded cap new position found
now_bounded cap old new position (Got bytes) cause = cause.1
now_bounded cap old new position (Gone next) cause = (cause.2, omega (arith, cause.1))
now_bounded cap old new position NotYet cause = tt

-- what has its cause may follow what is bounded
follows : (cap : ℕ) (old new : Reader) (position : ℕ) (found : Found) (later : ℕ) (further : Found) → IsLater old new
    → IsBounded cap old position found → HasCause cap later old new further → MayFollow cap position found later further
follows cap old new position (Got bytes) later (Got more) grows bounded cause = tt
follows cap old new position (Got bytes) later (Gone next) grows bounded cause = tt
follows cap old new position (Got bytes) later NotYet grows bounded cause = omega (arith, bounded, grows.finished.count, cause.1)
follows cap old new position (Gone next) later (Got bytes) grows bounded cause = omega (arith, bounded.1, grows.begun.count, cause.3)
follows cap old new position (Gone next) later (Gone further) grows bounded cause = omega (arith, bounded.1, grows.begun.count, cause.1)
follows cap old new position (Gone next) later NotYet grows bounded cause = omega (arith, bounded.0, bounded.1, grows.begun.count, cause.1, cause.2)
follows cap old new position NotYet later further grows bounded cause = tt

goes_on : (old new : Reader) (earlier : LookMade) (position moment : ℕ) (found : Found) → IsLater old new → IsWithin old earlier → HasCause old.capacity position old new found
    → GoesOn earlier (record { position = position; found = found; moment = moment; capacity = old.capacity })
goes_on old new earlier position moment found later within cause =
    follows old.capacity old new earlier.position earlier.found position found later (subst (λ (cap : ℕ). IsBounded cap old earlier.position earlier.found) within.0 within.1) cause

-- with a look that has its cause a reader stays in order
pub in_order_with : (position moment : ℕ) (old new : Reader) (found : Found) → IsInOrder old → IsLater old new → HasCause old.capacity position old new found
    → new.looks ≡ with_look old.looks old.capacity position moment (Some found) → IsInOrder new
in_order_with position moment old new found order later cause listed =
    let made : LookMade = record { position = position; found = found; moment = moment; capacity = old.capacity } in
    let before : All (IsWithin new) old.looks =
    All-weaker (IsWithin old) (IsWithin new) (λ look. still_within old new look later) old.looks order.within in
    let pairs : AllPairs GoesOn (old.looks ++ made ∷ []) =
    all_pairs_push GoesOn old.looks made order.go_on (λ k d below. goes_on old new (get_or old.looks k d) position moment found later (order.within k d below) cause) in record {
      within = subst (All (IsWithin new)) (sym listed)
          (All-push (IsWithin new) old.looks made before (sym later.capacity, now_bounded old.capacity old new position found cause));
      go_on = subst (AllPairs GoesOn) (sym listed) pairs;
    }

-- and so it does where it made none
pub in_order_still : (old new : Reader) → IsInOrder old → IsLater old new → new.looks ≡ old.looks → IsInOrder new
in_order_still old new order later same = record {
  within = subst (All (IsWithin new)) (sym same) (All-weaker (IsWithin old) (IsWithin new) (λ look. still_within old new look later) old.looks order.within);
  go_on = subst (AllPairs GoesOn) (sym same) order.go_on;
}

-- what is found, and has its cause, is so
is_so : (log : List (List ℕ)) (cap : ℕ) (old new : Reader) (position : ℕ) (found : Found) → HasCause cap position old new found → IsFoundAt log cap position found → IsSo log cap position found
is_so log cap old new position (Got bytes) cause here = here.1
is_so log cap old new position (Gone next) cause here = (here.0, omega (arith, here.1))
is_so log cap old new position NotYet cause here = tt

-- with a look that finds what the log has a reader stands for the log
pub stands_with : (log : List (List ℕ)) (position moment : ℕ) (old new : Reader) (found : Found) → ReaderStandsFor log old → IsLater old new
    → HasCause old.capacity position old new found → IsFoundAt log old.capacity position found → new.looks ≡ with_look old.looks old.capacity position moment (Some found)
    → new.finished.count ≤ length log → new.begun.count ≤ length log + 1 → ReaderStandsFor log new
stands_with log position moment old new found stands later cause here listed finished begun =
    let made : LookMade = record { position = position; found = found; moment = moment; capacity = old.capacity } in
    let order = in_order_with position moment old new found (record { within = stands.within; go_on = stands.looks.go_on }) later cause listed in
    let all : All (IsTrueOf log) (old.looks ++ made ∷ []) =
    All-push (IsTrueOf log) old.looks made stands.looks.are_true (is_so log old.capacity old new position found cause here) in record {
      looks = record { are_true = subst (All (IsTrueOf log)) (sym listed) all; go_on = order.go_on };
      within = order.within;
      finished = finished;
      begun = begun;
    }

-- and so it does where it made none
pub stands_still : (log : List (List ℕ)) (old new : Reader) → ReaderStandsFor log old → IsLater old new → new.looks ≡ old.looks
    → new.finished.count ≤ length log → new.begun.count ≤ length log + 1 → ReaderStandsFor log new
stands_still log old new stands later same finished begun =
    let order = in_order_still old new (record { within = stands.within; go_on = stands.looks.go_on }) later same in record {
      looks = record { are_true = subst (All (IsTrueOf log)) (sym same) stands.looks.are_true; go_on = order.go_on };
      within = order.within;
      finished = finished;
      begun = begun;
    }
