-- A shelf in memory: what it is, and what a read answers and leaves.
use Rattle.std.specs.Prelude.{ℕ, String, Vec, ◌-◌, List, [], ◌∷◌, length, min, Option, Some, None, nat_le, if◌then◌else◌}
use Rattle.std.specs.Map.{lookup}
use Rattle.std.specs.Str.{bytes_eq}
use Rattle.std.specs.String.{string_bytes}
use Rattle.hb_edge.specs.declared.shelf.Shelved.{Shelved}
use Rattle.hb_edge.specs.declared.shelf.Shelved.TheVariants.{Took, End, Failed}
use Rattle.hb_edge.specs.Plan.{one_more, is_planned}

-- each file's name and bytes, the numbers of the calls to fail, how many calls there were, and
-- how many failed
pub record ShelfState : Type 0 where
  pub stored : List (List ℕ × List ℕ)
  pub fails : List ℕ
  pub calls : ℕ
  pub faults : ℕ

-- a map's names and files as plain lists
abbrev pub plain : {A B : Type 0} → List (String A × Vec ℕ B) → List (List ℕ × List ℕ)
plain [] = []
plain (e ∷ es) = (string_bytes e.0, e.1.items) ∷ plain es

-- the bytes of the file of this name
abbrev pub file_of : List (List ℕ × List ℕ) → List ℕ → Option (List ℕ)
file_of stored name = lookup (bytes_eq name) stored

-- a read of a file: as many bytes as the buffer and the file allow
abbrev pub file_answer : Option (List ℕ) → ℕ → ℕ → Shelved
file_answer None at room = Failed
file_answer (Some file) at room = if nat_le (length file) at then End
    else Took (min (length file - at) room)

-- a read fails where the plan says so or there is no such file
abbrev pub shelf_answer : ShelfState → List ℕ → ℕ → ℕ → Shelved
shelf_answer s name at room = if is_planned s.fails (one_more s.calls) then Failed
    else file_answer (file_of s.stored name) at room

-- a count of faults after this answer
abbrev pub counted : Shelved → ℕ → ℕ
counted (Took n) faults = faults
counted End faults = faults
counted Failed faults = one_more faults

-- the shelf after a read
abbrev pub shelf_after : ShelfState → List ℕ → ℕ → ℕ → ShelfState
shelf_after s name at room =
    record s { calls = one_more s.calls; faults = counted (shelf_answer s name at room) s.faults }
