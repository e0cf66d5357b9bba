-- When each fault of a file comes.
use Rattle.std.specs.Prelude.{ℕ, ◌<◌, ◌≤◌, List, length, Option}
use Rattle.std.specs.Option.{ForSome}
use Rattle.hb_edge.specs.Shelf.{Files}
use Rattle.hb_files.specs.declared.fault.FileFault.{FileFault}
use Rattle.hb_files.specs.declared.fault.FileFault.TheVariants.{ReadFailed, TooLarge, BadRecord, NoMemory}
use Rattle.hb_files.specs.Files.{Has, largest_file}

-- What is wrong with the file of this name: by which bytes are bad at which place, by the files
-- that the shelf tells of, and by whether a read failed. Of a shelf that does not tell, nothing
-- is said that it would have to tell.
abbrev pub IsFaultOf : (List ℕ → ℕ → Type 0) → Option Files → List ℕ → Type 0 → FileFault → Type 0
-- a read failed
IsFaultOf is_bad told name read_failed ReadFailed = read_failed
-- it is told to be too large
IsFaultOf is_bad told name read_failed TooLarge =
    ForSome told (λ files. (bytes : List ℕ) × Has files name bytes × (largest_file < length bytes))
-- its told bytes, no more than a file may have, are bad at the place
IsFaultOf is_bad told name read_failed (BadRecord at) =
    ForSome told (λ files. (bytes : List ℕ) × Has files name bytes
    × (length bytes ≤ largest_file) × is_bad bytes at)
-- memory was refused
IsFaultOf is_bad told name read_failed NoMemory = Unit {0}
