-- What each seat at a ring knows.
use Rattle.std.specs.Prelude.{ℕ, ◌+◌, List, [], length}
use Rattle.atomic_table.specs.Seated.{TableId}
use Rattle.hb_look.specs.Reader.{Reader, unseen}
use Rattle.hb_ring_rule.specs.declared.shape.Shape.{Shape}

-- Between two writes, or two looks; or in the midst of one at a position, with these words of the
-- record stored, or read.
pub data Stage : Type 0 where
  Idle : Stage
  Busy : (position : ℕ) → (words : List ℕ) → Stage

abbrev pub place_of : Stage → ℕ
place_of Idle = 0
place_of (Busy position words) = position

abbrev pub words_of : Stage → List ℕ
words_of Idle = []
words_of (Busy position words) = words

-- The writer knows the log, each record as the words that spell it, and the readers that were
-- joined to it.
pub record WriterView : Type 0 where
  pub shape : Shape
  pub log : List (List ℕ)
  pub joined : List Reader
  pub stage : Stage

-- a reader knows its looks and the counts that it has seen
pub record ReaderView : Type 0 where
  pub reader : Reader
  pub stage : Stage

-- of a seat; that of a reader that was joined is spent
pub data Knowledge : Type 0 where
  Writes : (view : WriterView) → Knowledge
  Reads : (view : ReaderView) → Knowledge
  Spent : Knowledge

-- a ring that nothing was written to
abbrev pub first_writer : Shape → WriterView
first_writer shape = record { shape = shape; log = []; joined = []; stage = Idle }

-- the views of a seat that is not the writer's, and not a reader's
abbrev pub no_writer : WriterView
no_writer = first_writer (record { capacity = 0; slot_words = 0 })

abbrev pub no_reader : ReaderView
no_reader = record {
  reader = record { looks = []; finished = unseen; begun = unseen; capacity = 0; longest = 0 };
  stage = Idle;
}

abbrev pub writer_of : Knowledge → WriterView
writer_of (Writes view) = view
writer_of (Reads view) = no_writer
writer_of Spent = no_writer

abbrev pub reader_of : Knowledge → ReaderView
reader_of (Reads view) = view
reader_of (Writes view) = no_reader
reader_of Spent = no_reader

-- how many records were begun
abbrev pub begun_in : ℕ → Stage → ℕ
begun_in finished Idle = finished
begun_in finished (Busy position words) = finished + 1

abbrev pub begun_of : WriterView → ℕ
begun_of writer = begun_in (length writer.log) writer.stage

-- a seat: its table, and what it knows
pub record Seated (A : Type 0) : Type 0 where
  pub table : TableId
  pub view : A

-- a table, and its shape
pub record Laid : Type 0 where
  pub table : TableId
  pub shape : Shape
