-- What each kind of step tells the seat that makes it.
use Rattle.std.specs.Prelude.{◌≡◌, ℕ, ◌≤◌, length}
use Rattle.atomic_table.specs.Table.{Me}
use Rattle.hb_ring_rule.specs.Views.{WriterView, ReaderView, Knowledge, Writes, Reads, writer_of, reader_of, words_of}
use Rattle.hb_ring_rule.specs.Steps.{begins, stores, finishes, tops, looks_up, reads, ends_look, new_reader, twin, joins, AllStand, IsFinishedCount, IsBegunCount}

abbrev Sat : Type 0
Sat = Me ℕ Knowledge

-- the seat's view has become this
abbrev pub Wrote : WriterView → Sat → Sat → Type 0
Wrote view before after = after ≡ (Writes view, before.1)

abbrev pub Read : ReaderView → Sat → Sat → Type 0
Read view before after = after ≡ (Reads view, before.1)

abbrev pub begun_play : Sat → ℕ → Sat → Type 0
begun_play before found after = Wrote (begins (writer_of before.0)) before after

abbrev pub stored_play : Sat → ℕ → Sat → Type 0
stored_play before found after = Wrote (stores found (writer_of before.0)) before after

abbrev pub finished_play : Sat → ℕ → Sat → Type 0
finished_play before found after = Wrote (finishes (writer_of before.0)) before after

abbrev pub confirmed_play : Sat → ℕ → Sat → Type 0
confirmed_play before found after = Wrote (writer_of before.0) before after
    × AllStand (writer_of before.0)

abbrev pub topped_play : Sat → ℕ → Sat → Type 0
topped_play before found after = Read (tops found (reader_of before.0)) before after
    × IsFinishedCount (reader_of before.0).reader found

abbrev pub looked_up_play : ℕ → ℕ → Sat → ℕ → Sat → Type 0
looked_up_play position moment before found after =
    Read (looks_up position moment found (reader_of before.0)) before after
    × IsFinishedCount (reader_of before.0).reader found

abbrev pub word_play : Sat → ℕ → Sat → Type 0
word_play before found after = Read (reads found (reader_of before.0)) before after
    × (length (words_of (reader_of before.0).stage) ≡ 0
    → found ≤ (reader_of before.0).reader.longest)

abbrev pub ended_play : ℕ → Sat → ℕ → Sat → Type 0
ended_play moment before found after =
    Read (ends_look moment found (reader_of before.0)) before after
    × IsBegunCount (reader_of before.0).reader found

-- what a reader is left with, and the writer, at a split and a join
abbrev pub stays : Knowledge → Knowledge
stays knowledge = knowledge

abbrev pub read_by_new : Knowledge → Knowledge
read_by_new knowledge = Reads (new_reader (writer_of knowledge))

abbrev pub read_by_twin : Knowledge → Knowledge
read_by_twin knowledge = Reads (twin (reader_of knowledge))

abbrev pub with_joined : Knowledge → Knowledge → Knowledge
with_joined writer reader = Writes (joins (writer_of writer) (reader_of reader))
