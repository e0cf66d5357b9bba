-- What passes are to a contract, and what a look, a write and a read make of them.
use Rattle.std.specs.Prelude.{◌≡◌, ℕ, ◌+◌, ◌≤◌, List, length, Some, slice_index}
use Rattle.atomic_table.specs.Seated.{TableId}
use Rattle.hb_look.specs.Limits.{longest_record, largest_capacity, most_records}
use Rattle.hb_look.specs.Looks.{Found}
use Rattle.hb_look.specs.Reader.{Reader, IsLater, HasCause}
use Rattle.hb_look.specs.Answers.{with_look}
use Rattle.hb_ring_rule.specs.declared.shape.Shape.{Shape}
use Rattle.hb_ring_rule.specs.Layout.{longest_of}
use Rattle.hb_ring_rule.specs.Records.{words_for, record_of, IsWhole}
use Rattle.hb_ring_rule.specs.Views.{Busy, WriterView, ReaderView, Seated, Laid}

-- a writer's pass: its ring's table and shape, and the log of all records that were written
pub record WriterAt : Type 0 where
  pub table : TableId
  pub shape : Shape
  pub log : List (List ℕ)

-- a reader's pass: its ring's table, and the reader
pub record ReaderAt : Type 0 where
  pub table : TableId
  pub reader : Reader

-- the pass is of the ring
abbrev pub IsWriterOf : Laid → WriterAt → Type 0
IsWriterOf ring pass = (pass.table ≡ ring.table)
    × (pass.shape.capacity ≡ ring.shape.capacity)
    × (pass.shape.slot_words ≡ ring.shape.slot_words)

-- the pass is of the ring, whose limits are within those of every ring
abbrev pub IsReaderOf : Laid → ReaderAt → Type 0
IsReaderOf ring pass = (pass.table ≡ ring.table)
    × (pass.reader.capacity ≡ ring.shape.capacity)
    × (pass.reader.longest ≡ longest_of ring.shape)
    × (pass.reader.capacity ≤ largest_capacity)
    × (pass.reader.longest ≤ longest_record)

-- A look at a position, at a moment, found this: it is the reader's next, and has its cause in
-- the counts that it loaded itself; what was seen of a count does not fall, and is at most 2 ^ 62.
pub record HasMade (old new : Reader) (position moment : ℕ) (found : Found) : Type 0 where
  pub listed : new.looks ≡ with_look old.looks old.capacity position moment (Some found)
  pub cause : HasCause old.capacity position old new found
  pub later : IsLater old new
  pub finished : new.finished.count ≤ most_records
  pub begun : new.begun.count ≤ most_records

-- A writer in the midst of a record has stored all its words, which spell these bytes.
pub record HasStored (ring : Laid) (old new : Seated WriterView) (bytes : List ℕ) : Type 0 where
  pub words : List ℕ
  pub stored : new
      ≡ record old { view = record old.view { stage = Busy (length old.view.log) words } }
  pub whole : IsWhole ring.shape.slot_words words
  pub spells : record_of words ≡ bytes

-- A reader in the midst of a look has read the words of a record, which spell these bytes.
pub record HasRead (old new : Seated ReaderView) (position : ℕ) (bytes : List ℕ) : Type 0 where
  pub words : List ℕ
  pub read : new ≡ record old { view = record old.view { stage = Busy position words } }
  pub count : length words ≡ 1 + words_for (slice_index words 0)
  pub spells : record_of words ≡ bytes
