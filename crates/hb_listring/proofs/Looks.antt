-- A look that is noted has its cause, and finds what the ring's log has.
use Rattle.std.proofs.Common.{◌≡◌, inr, ℕ, ◌≤◌, List, Some, refl, sym, ap, ◌∙◌, subst, arith}
use Rattle.hb_look.specs.Looks.{Found, Got, Gone, NotYet}
use Rattle.hb_look.specs.Reader.{Reader, IsLater, HasCause}
use Rattle.hb_look.specs.Answers.{with_look, IsFoundAt}
use Rattle.hb_look.specs.Progress.{HasLooked}
use Rattle.hb_look.proofs.Progress.{looked_none, looked_one}
use Rattle.hb_listring.specs.Log.{Kept, StandsFor}
use Rattle.hb_listring.specs.Places.{IsCounted, IsFoundIn, Noted, reader_at, after_load, after_look}

-- the ring's count is the cause of what is found
look_caused : (ring : Kept) (old : Noted) (position moment : ℕ) (found : Found) → IsCounted ring position found
    → HasCause ring.capacity position (reader_at ring old) (reader_at ring (after_look old ring.capacity ring.written position moment found)) found
look_caused ring old position moment (Got bytes) counted = (omega arith, counted.0, omega arith, counted.1)
look_caused ring old position moment (Gone next) counted = (omega arith, counted.1, counted.0)
look_caused ring old position moment NotYet counted = (omega arith, counted, omega arith)

-- the count that is loaded is not below what was seen
load_later : (ring : Kept) (old : Noted) → old.seen ≤ ring.written → old.loads ≤ (after_load old ring.written).loads
    → IsLater (reader_at ring old) (reader_at ring (after_load old ring.written))
load_later ring old within more = record {
  finished = record { count = within; loads = more; loaded = inr (omega arith) };
  begun = record { count = within; loads = more; loaded = inr (omega arith) };
  capacity = refl;
  longest = refl;
}

-- the reader that loaded the count of its ring
pub load_looked : {A Fixed : Type 0} (reader : A → Reader) (tells : A → List (List ℕ) → Type 0) (fixed : A → Fixed) (old new : A) (ring : Kept) (before after : Noted)
    → reader old ≡ reader_at ring before → reader new ≡ reader_at ring after → after ≡ after_load before ring.written → before.seen ≤ ring.written
    → before.loads ≤ after.loads → ((log : List (List ℕ)) → tells old log → StandsFor ring log) → ((log : List (List ℕ)) → tells old log → tells new log) → fixed new ≡ fixed old
    → HasLooked reader tells fixed old new
load_looked reader tells fixed old new ring before after was is loaded within more stands told stays =
    let now : reader new ≡ reader_at ring (after_load before ring.written) = is ∙ ap (reader_at ring) loaded in
    looked_none reader tells fixed old new
    (ap (λ (r : Reader). r.looks) now ∙ sym (ap (λ (r : Reader). r.looks) was))
    (subst (λ (r : Reader). IsLater r (reader new)) (sym was) (subst (IsLater (reader_at ring before)) (sym now) (load_later ring before within (omega (arith, more, ap (λ (n : Noted). n.loads) loaded)))))
    (λ log tell. (
      omega (arith, ap (λ (r : Reader). r.finished.count) now, (stands log tell).0),
      omega (arith, ap (λ (r : Reader). r.begun.count) now, (stands log tell).0),
    ))
    told stays

-- and that made a look there
pub look_looked : {A Fixed : Type 0} (reader : A → Reader) (tells : A → List (List ℕ) → Type 0) (fixed : A → Fixed) (old new : A) (ring : Kept) (before after : Noted)
    (position moment : ℕ) (found : Found)
    → reader old ≡ reader_at ring before → reader new ≡ reader_at ring after → after ≡ after_look before ring.capacity ring.written position moment found
    → before.seen ≤ ring.written → before.loads ≤ after.loads → IsFoundIn ring position found
    → ((log : List (List ℕ)) → tells old log → StandsFor ring log) → ((log : List (List ℕ)) → tells old log → tells new log) → fixed new ≡ fixed old
    → HasLooked reader tells fixed old new
look_looked reader tells fixed old new ring before after position moment found was is made within loads here stands told stays =
    let then : Reader = reader_at ring before in
    let more : Reader = reader_at ring (after_look before ring.capacity ring.written position moment found) in
    let now : reader new ≡ more = is ∙ ap (reader_at ring) made in
    let later = load_later ring before within (omega (arith, loads, ap (λ (n : Noted). n.loads) made)) in
    looked_one reader tells fixed old new position moment found
    (ap (λ (r : Reader). r.looks) now ∙ sym (ap (λ (r : Reader). with_look r.looks r.capacity position moment (Some found)) was))
    (subst (λ (r : Reader). IsLater r (reader new)) (sym was) (subst (IsLater then) (sym now)
    (record { finished = later.finished; begun = later.begun; capacity = refl; longest = refl })))
    (subst (λ (r : Reader). HasCause r.capacity position r (reader new) found) (sym was)
    (subst (λ (r : Reader). HasCause ring.capacity position then r found) (sym now) (look_caused ring before position moment found here.counted)))
    (λ log tell. subst (λ (r : Reader). IsFoundAt log r.capacity position found) (sym was) (here.told log (stands log tell)))
    (λ log tell. (
      omega (arith, ap (λ (r : Reader). r.finished.count) now, (stands log tell).0),
      omega (arith, ap (λ (r : Reader). r.begun.count) now, (stands log tell).0),
    ))
    told stays
