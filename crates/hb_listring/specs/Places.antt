-- What a ring has at a position, and what a reader has noted after a look or a load.
use Rattle.std.specs.Prelude.{◌≡◌, ℕ, ◌+◌, ◌-◌, ◌^◌, ◌<◌, ◌≤◌, List, [], length, Some, min}
use Rattle.hb_look.specs.Looks.{Found, Got, Gone, NotYet, LookMade, oldest}
use Rattle.hb_look.specs.Reader.{Reader}
use Rattle.hb_look.specs.Answers.{IsFoundAt, with_look}
use Rattle.hb_listring.specs.Log.{Kept, StandsFor}

-- how many bytes were found
abbrev pub found_size : Found → ℕ
found_size (Got bytes) = length bytes
found_size (Gone next) = 0
found_size NotYet = 0

-- what the count of records shows of what is found at a position
abbrev pub IsCounted : Kept → ℕ → Found → Type 0
IsCounted ring position (Got bytes) = (position < ring.written)
    × (oldest ring.capacity ring.written ≤ position)
IsCounted ring position (Gone next) = (position < next) × (next ≡ oldest ring.capacity ring.written)
IsCounted ring position NotYet = ring.written ≤ position

-- the ring has this at the position
pub record IsFoundIn (ring : Kept) (position : ℕ) (found : Found) : Type 0 where
  pub counted : IsCounted ring position found
  pub told : (log : List (List ℕ)) → StandsFor ring log → IsFoundAt log ring.capacity position found
  pub size : found_size found ≤ ring.slot

-- what a reader has noted: its looks, the greatest count of records that it loaded, and how often
-- it loaded it
pub record Noted : Type 0 where
  pub looks : List LookMade
  pub seen : ℕ
  pub loads : ℕ

-- nothing yet
abbrev pub fresh : Noted
fresh = record { looks = []; seen = 0; loads = 0 }

-- The reader at its ring. The count of records is both of the ring's counts: none is being
-- written when it is looked at.
abbrev pub reader_at : Kept → Noted → Reader
reader_at ring noted = record {
  looks = noted.looks;
  finished = record { count = noted.seen; loads = noted.loads };
  begun = record { count = noted.seen; loads = noted.loads };
  capacity = ring.capacity;
  longest = ring.slot;
}

-- with the count of records loaded once more
abbrev pub after_load : Noted → ℕ → Noted
after_load noted count = record noted { seen = count; loads = min (noted.loads + 1) (2 ^ 64 - 1) }

-- and with one more look, at a ring of this capacity
abbrev pub after_look : Noted → ℕ → ℕ → ℕ → ℕ → Found → Noted
after_look noted cap count position moment found =
    let looks = with_look noted.looks cap position moment (Some found) in
    record (after_load noted count) { looks = looks }
