-- The rule of a ring: what holds of its words and of all seats, between any two steps.
use Rattle.std.specs.Prelude.{◌≡◌, ℕ, ◌+◌, ◌*◌, ◌<◌, ◌≤◌, List, length, map, slice_get, slice_index, Some}
use Rattle.std.specs.List.{All}
use mathlib.Core.Option.{some}
use lib.ListN.{get_elem?}
use Rattle.atomic_table.specs.Table.{State}
use Rattle.hb_look.specs.Limits.{most_records}
use Rattle.hb_look.specs.Reader.{Reader, ReaderStandsFor}
use Rattle.hb_ring_rule.specs.declared.shape.Shape.{Shape}
use Rattle.hb_ring_rule.specs.Layout.{longest_of, word_count, slot_at, Begins}
use Rattle.hb_ring_rule.specs.Records.{record_of, IsPart, IsWhole, IsFront}
use Rattle.hb_ring_rule.specs.Views.{Stage, Idle, Busy, WriterView, Knowledge, Writes, Reads, Spent, begun_of}

-- A reader's looks stand for the writer's log, and it has seen no more than was finished and
-- begun, of this ring.
pub record IsReader (writer : WriterView) (reader : Reader) : Type 0 where
  pub stands : ReaderStandsFor (map record_of writer.log) reader
  pub begun : reader.begun.count ≤ begun_of writer
  pub capacity : reader.capacity ≡ writer.shape.capacity
  pub longest : reader.longest ≡ longest_of writer.shape

-- In the midst of a look: the count that it loaded is above the position, and the words read are
-- the first ones of the record there, unless its slot was begun anew.
pub record IsLooking (writer : WriterView) (reader : Reader) (position : ℕ)
    (words : List ℕ) : Type 0 where
  pub below : position < reader.finished.count
  pub loaded : 1 ≤ reader.finished.loads
  pub part : IsPart writer.shape.slot_words words
  pub front : begun_of writer ≤ position + writer.shape.capacity + 1 → (spelled : List ℕ)
      → slice_get writer.log position ≡ Some spelled → IsFront words spelled

abbrev pub IsAtStage : WriterView → Reader → Stage → Type 0
IsAtStage writer reader Idle = Unit {0}
IsAtStage writer reader (Busy position words) = IsLooking writer reader position words

-- one seat is the writer's; each other is a reader's, or spent
abbrev pub IsKnown : ℕ → WriterView → ℕ → Knowledge → Type 0
IsKnown seat writer other (Writes view) = (other ≡ seat) × (view ≡ writer)
IsKnown seat writer other (Reads view) = IsReader writer view.reader
    × IsAtStage writer view.reader view.stage
IsKnown seat writer other Spent = Unit {0}

-- each record whose slot was not begun anew stands in its slot
abbrev pub IsStored : List ℕ → WriterView → Type 0
IsStored ring writer = (position : ℕ) (spelled : List ℕ)
    → slice_get writer.log position ≡ Some spelled
    → begun_of writer ≤ position + writer.shape.capacity + 1
    → Begins ring (slot_at writer.shape position) spelled

-- in the midst of a write: the slot of the next position has the words that were stored
abbrev pub IsWriting : List ℕ → WriterView → Stage → Type 0
IsWriting ring writer Idle = Unit {0}
IsWriting ring writer (Busy position words) = (position ≡ length writer.log)
    × IsPart writer.shape.slot_words words
    × Begins ring (slot_at writer.shape position) words

-- The rule, where the writer has this seat and this view. The first word is the count of finished
-- records, and the second that of those begun. Each slot's length word fits the slot.
pub record RuleOf (shape : Shape) (state : State ℕ Knowledge) (seat : ℕ)
    (writer : WriterView) : Type 0 where
  pub shape_of : writer.shape ≡ shape
  pub wide : length state.words ≡ word_count shape
  pub finished : slice_index state.words 0 ≡ length writer.log
  pub begun : slice_index state.words 1 ≡ begun_of writer
  pub most : begun_of writer ≤ most_records
  pub whole : All (IsWhole writer.shape.slot_words) writer.log
  pub stored : IsStored state.words writer
  pub writing : IsWriting state.words writer writer.stage
  pub lengths : (position : ℕ)
      → slice_index state.words (slot_at writer.shape position) ≤ longest_of writer.shape
  pub joined : All (IsReader writer) writer.joined
  pub one : get_elem? state.views seat ≡ some (Writes writer)
  pub known : (other : ℕ) (view : Knowledge) → get_elem? state.views other ≡ some view
      → IsKnown seat writer other view

-- there is one writer, and the rule
abbrev pub Holds : Shape → State ℕ Knowledge → Type 0
Holds shape state = (seat : ℕ) × (writer : WriterView) × RuleOf shape state seat writer
