-- What looks and loads, however many, leave of a reader; and what records that are put, however
-- many, leave of a writer.
use Rattle.std.specs.Prelude.{◌≡◌, ℕ, ◌+◌, List, ◌++◌, length}
use Rattle.std.specs.List.{All}
use Rattle.hb_look.specs.Looks.{added}
use Rattle.hb_look.specs.Reader.{Reader, IsLater, IsInOrder, ReaderStandsFor}
use Rattle.hb_look.specs.Answers.{IsExact}

-- Looks were added to those of the reader, each at a ring of its capacity, and what it has seen
-- did not fall. No look went back. Of a reader that tells the log of its ring: each look found
-- what the log has, and it stands for the log and tells it as before.
pub record HasLooked {A Fixed : Type 0} (reader : A → Reader)
    (tells : A → List (List ℕ) → Type 0) (fixed : A → Fixed) (old new : A) : Type 0 where
  pub listed : (reader new).looks
      ≡ (reader old).looks ++ added (reader old).looks (reader new).looks
  pub at_ring : All (λ look. look.capacity ≡ (reader old).capacity)
      (added (reader old).looks (reader new).looks)
  pub later : IsLater (reader old) (reader new)
  pub in_order : IsInOrder (reader old) → IsInOrder (reader new)
  pub found : (log : List (List ℕ)) → tells old log
      → All (IsExact log) (added (reader old).looks (reader new).looks)
  pub stands : (log : List (List ℕ)) → tells old log → ReaderStandsFor log (reader old)
      → ReaderStandsFor log (reader new)
  pub told : (log : List (List ℕ)) → tells old log → tells new log
  pub stays : fixed new ≡ fixed old

-- Records were put behind those of the writer's log.
pub record HasPut {A Fixed : Type 0} (stands_for : A → List (List ℕ) → Type 0)
    (written longest : A → ℕ) (fixed : A → Fixed)
    (old new : A) (records : List (List ℕ)) : Type 0 where
  pub log : (log : List (List ℕ)) → stands_for old log → stands_for new (log ++ records)
  pub counted : written new ≡ written old + length records
  pub limit : longest new ≡ longest old
  pub stays : fixed new ≡ fixed old
