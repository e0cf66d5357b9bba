-- What looks and loads leave of a reader: none, one, and some after others; and what records that are put leave of a writer.
use Rattle.std.proofs.Common.{◌≡◌, ◌⊎◌, inl, inr, ℕ, ◌+◌, ◌≤◌, List, [], ◌∷◌, ◌++◌, length, Some, refl, sym, ◌∙◌, subst, arith, append_assoc}
use Rattle.std.specs.List.{All}
use Rattle.std.proofs.lemmas.List.{append-nil, length-append}
use Rattle.hb_look.specs.Looks.{Found, LookMade, added}
use Rattle.hb_look.specs.Reader.{Seen, Reader, Loaded, IsLaterSeen, IsLater, HasCause}
use Rattle.hb_look.specs.Answers.{with_look, IsFoundAt, IsExact}
use Rattle.hb_look.specs.Progress.{HasLooked, HasPut}
use Rattle.hb_look.proofs.Added.{listed_none, listed_these, listed_both, all_none, all_one, all_both}
use Rattle.hb_look.proofs.Orders.{in_order_with, in_order_still, stands_with, stands_still}

-- ---- what was seen

pub later_same : (a : Reader) → IsLater a a
later_same a = record {
  finished = record { count = omega arith; loads = omega arith; loaded = inl refl };
  begun = record { count = omega arith; loads = omega arith; loaded = inl refl };
  capacity = refl;
  longest = refl;
}

later_seen : (a b c : Seen) → IsLaterSeen a b → IsLaterSeen b c → IsLaterSeen a c
later_seen a b c first second = record {
  count = omega (arith, first.count, second.count);
  loads = omega (arith, first.loads, second.loads);
  loaded = elim second.loaded [
    | inl same ↦ subst (λ (x : Seen). (x ≡ a) ⊎ Loaded a x) (sym same) first.loaded
    | inr rose ↦ inr (omega (arith, first.loads, rose))
  ];
}

later_both : (a b c : Reader) → IsLater a b → IsLater b c → IsLater a c
later_both a b c first second = record {
  finished = later_seen a.finished b.finished c.finished first.finished second.finished;
  begun = later_seen a.begun b.begun c.begun first.begun second.begun;
  capacity = second.capacity ∙ first.capacity;
  longest = second.longest ∙ first.longest;
}

-- ---- what a reader has made of it

-- a ring's log that a reader tells bounds what it has seen
abbrev pub HasSeenLog : {A : Type 0} → (A → Reader) → (A → List (List ℕ) → Type 0) → A → A → Type 0
HasSeenLog reader tells old new = (log : List (List ℕ)) → tells old log
    → ((reader new).finished.count ≤ length log) × ((reader new).begun.count ≤ length log + 1)

-- no look
pub looked_none : {A Fixed : Type 0} (reader : A → Reader) (tells : A → List (List ℕ) → Type 0) (fixed : A → Fixed) (old new : A)
    → (reader new).looks ≡ (reader old).looks → IsLater (reader old) (reader new) → HasSeenLog reader tells old new
    → ((log : List (List ℕ)) → tells old log → tells new log) → fixed new ≡ fixed old → HasLooked reader tells fixed old new
looked_none reader tells fixed old new same later seen told stays = record {
  listed = listed_none (reader old).looks (reader new).looks same;
  at_ring = all_none (λ look. look.capacity ≡ (reader old).capacity) (reader old).looks (reader new).looks same;
  later = later;
  in_order = λ order. in_order_still (reader old) (reader new) order later same;
  found = λ log is. all_none (IsExact log) (reader old).looks (reader new).looks same;
  stands = λ log is stands. stands_still log (reader old) (reader new) stands later same (seen log is).0 (seen log is).1;
  told = told;
  stays = stays;
}

-- nothing at all
pub looked_nothing : {A Fixed : Type 0} (reader : A → Reader) (tells : A → List (List ℕ) → Type 0) (fixed : A → Fixed) (r : A) → HasLooked reader tells fixed r r
looked_nothing reader tells fixed r = record {
  listed = listed_none (reader r).looks (reader r).looks refl;
  at_ring = all_none (λ look. look.capacity ≡ (reader r).capacity) (reader r).looks (reader r).looks refl;
  later = later_same (reader r);
  in_order = λ order. order;
  found = λ log is. all_none (IsExact log) (reader r).looks (reader r).looks refl;
  stands = λ log is stands. stands;
  told = λ log is. is;
  stays = refl;
}

-- one look
pub looked_one : {A Fixed : Type 0} (reader : A → Reader) (tells : A → List (List ℕ) → Type 0) (fixed : A → Fixed) (old new : A) (position moment : ℕ) (found : Found)
    → (reader new).looks ≡ with_look (reader old).looks (reader old).capacity position moment (Some found) → IsLater (reader old) (reader new)
    → HasCause (reader old).capacity position (reader old) (reader new) found
    → ((log : List (List ℕ)) → tells old log → IsFoundAt log (reader old).capacity position found) → HasSeenLog reader tells old new
    → ((log : List (List ℕ)) → tells old log → tells new log) → fixed new ≡ fixed old → HasLooked reader tells fixed old new
looked_one reader tells fixed old new position moment found listed later cause exact seen told stays =
    let made : LookMade = record { position = position; found = found; moment = moment; capacity = (reader old).capacity } in record {
      listed = listed_these (reader old).looks (reader new).looks (made ∷ []) listed;
      at_ring = all_one (λ look. look.capacity ≡ (reader old).capacity) (reader old).looks (reader new).looks made listed refl;
      later = later;
      in_order = λ order. in_order_with position moment (reader old) (reader new) found order later cause listed;
      found = λ log is. all_one (IsExact log) (reader old).looks (reader new).looks made listed (exact log is);
      stands = λ log is stands. stands_with log position moment (reader old) (reader new) found stands later cause (exact log is) listed (seen log is).0 (seen log is).1;
      told = told;
      stays = stays;
    }

-- some looks after others
pub looked_both : {A Fixed : Type 0} (reader : A → Reader) (tells : A → List (List ℕ) → Type 0) (fixed : A → Fixed) (a b c : A)
    → HasLooked reader tells fixed a b → HasLooked reader tells fixed b c → HasLooked reader tells fixed a c
looked_both reader tells fixed a b c first second =
    let la : List LookMade = (reader a).looks in
    let lb : List LookMade = (reader b).looks in
    let lc : List LookMade = (reader c).looks in record {
      listed = listed_both la lb lc first.listed second.listed;
      at_ring = all_both (λ look. look.capacity ≡ (reader a).capacity) la lb lc first.listed second.listed first.at_ring
          (subst (λ (cap : ℕ). All (λ look. look.capacity ≡ cap) (added lb lc)) first.later.capacity second.at_ring);
      later = later_both (reader a) (reader b) (reader c) first.later second.later;
      in_order = λ order. second.in_order (first.in_order order);
      found = λ log is. all_both (IsExact log) la lb lc first.listed second.listed (first.found log is) (second.found log (first.told log is));
      stands = λ log is stands. second.stands log (first.told log is) (first.stands log is stands);
      told = λ log is. second.told log (first.told log is);
      stays = second.stays ∙ first.stays;
    }

-- ---- what a writer has put

pub put_none : {A Fixed : Type 0} (stands_for : A → List (List ℕ) → Type 0) (written longest : A → ℕ) (fixed : A → Fixed) (w : A)
    → HasPut stands_for written longest fixed w w []
put_none stands_for written longest fixed w = record {
  log = λ log is. subst (stands_for w) (sym (append-nil log)) is;
  counted = omega arith;
  limit = refl;
  stays = refl;
}

pub put_both : {A Fixed : Type 0} (stands_for : A → List (List ℕ) → Type 0) (written longest : A → ℕ) (fixed : A → Fixed) (a b c : A) (records more : List (List ℕ))
    → HasPut stands_for written longest fixed a b records → HasPut stands_for written longest fixed b c more
    → HasPut stands_for written longest fixed a c (records ++ more)
put_both stands_for written longest fixed a b c records more first second = record {
  log = λ log is. subst (stands_for c) (append_assoc log records more) (second.log (log ++ records) (first.log log is));
  counted = let longer = length-append records more in omega (arith, longer, first.counted, second.counted);
  limit = second.limit ∙ first.limit;
  stays = second.stays ∙ first.stays;
}
