-- What each kind of step makes of the view of the seat that makes it, and what it may rest on.
use Rattle.std.specs.Prelude.{◌≡◌, ℕ, ◌+◌, ◌*◌, ◌≤◌, List, [], ◌∷◌, ◌++◌, length, Some, nat_le, if◌then◌else◌}
use Rattle.std.specs.List.{All}
use Rattle.hb_look.specs.Limits.{most_records}
use Rattle.hb_look.specs.Looks.{Found, Got, Gone, NotYet, oldest}
use Rattle.hb_look.specs.Reader.{Seen, Reader}
use Rattle.hb_look.specs.Answers.{with_look}
use Rattle.hb_ring_rule.specs.declared.shape.Shape.{Shape}
use Rattle.hb_ring_rule.specs.Layout.{longest_of, slot_at}
use Rattle.hb_ring_rule.specs.Records.{record_of}
use Rattle.hb_ring_rule.specs.Rule.{IsReader}
use Rattle.hb_ring_rule.specs.Views.{Stage, Idle, Busy, place_of, words_of, WriterView, ReaderView}

-- the writer begins a record, at the next position
abbrev pub begins : WriterView → WriterView
begins writer = record writer { stage = Busy (length writer.log) [] }

-- stores one more word of it
abbrev pub stores : ℕ → WriterView → WriterView
stores word writer =
    record writer { stage = Busy (length writer.log) (words_of writer.stage ++ word ∷ []) }

-- and has finished it
abbrev pub finishes : WriterView → WriterView
finishes writer = record writer { log = writer.log ++ words_of writer.stage ∷ []; stage = Idle }

-- a count was loaded once more
abbrev pub loaded : ℕ → Seen → Seen
loaded count seen = record { count = count; loads = seen.loads + 1 }

-- a reader has loaded how many records are finished
abbrev pub tops : ℕ → ReaderView → ReaderView
tops count view =
    record view { reader = record view.reader { finished = loaded count view.reader.finished } }

-- with one look more
abbrev pub looks_at : ℕ → ℕ → Found → Reader → Reader
looks_at position moment found reader =
    let looks = with_look reader.looks reader.capacity position moment (Some found) in
    record reader { looks = looks }

-- it looked at a position that had no record yet
abbrev pub looks_in_vain : ℕ → ℕ → ReaderView → ReaderView
looks_in_vain position moment view =
    record view { reader = looks_at position moment NotYet view.reader }

-- or begins to read the record there
abbrev pub begins_look : ℕ → ReaderView → ReaderView
begins_look position view = record view { stage = Busy position [] }

-- a look at a position begins with a load of how many records are finished
abbrev pub looks_up : ℕ → ℕ → ℕ → ReaderView → ReaderView
looks_up position moment count view = if nat_le count position
    then looks_in_vain position moment (tops count view)
    else begins_look position (tops count view)

-- it has read one more word
abbrev pub reads : ℕ → ReaderView → ReaderView
reads word view =
    record view { stage = Busy (place_of view.stage) (words_of view.stage ++ word ∷ []) }

-- what is found of a record that was read, once so many were begun
abbrev pub found_after : ℕ → ℕ → ℕ → List ℕ → Found
found_after cap begun position words = if nat_le (oldest cap begun) position
    then Got (record_of words) else Gone (oldest cap begun)

-- and ends with a load of how many were begun
abbrev pub ends_look : ℕ → ℕ → ReaderView → ReaderView
ends_look moment begun view =
    let reader = record view.reader { begun = loaded begun view.reader.begun } in
    let position = place_of view.stage in
    let found = found_after reader.capacity begun position (words_of view.stage) in
    record { reader = looks_at position moment found reader; stage = Idle }

-- counts that were seen, and not loaded
abbrev pub seen_as : ℕ → Seen
seen_as count = record { count = count; loads = 0 }

-- a reader that the writer makes, where so many records are finished
abbrev pub new_reader_of : Shape → ℕ → Reader
new_reader_of shape finished = record {
  looks = [];
  finished = seen_as finished;
  begun = seen_as finished;
  capacity = shape.capacity;
  longest = longest_of shape;
}

abbrev pub new_reader : WriterView → ReaderView
new_reader writer =
    record { reader = new_reader_of writer.shape (length writer.log); stage = Idle }

-- a reader that another makes, which has seen the same counts
abbrev pub twin_of : Reader → Reader
twin_of reader = record reader {
  looks = [];
  finished = seen_as reader.finished.count;
  begun = seen_as reader.begun.count;
}

abbrev pub twin : ReaderView → ReaderView
twin view = record { reader = twin_of view.reader; stage = Idle }

-- the writer takes a reader in
abbrev pub joins : WriterView → ReaderView → WriterView
joins writer view = record writer { joined = writer.joined ++ view.reader ∷ [] }

-- the looks of the readers that were taken in stand for the log
abbrev pub AllStand : WriterView → Type 0
AllStand writer = All (IsReader writer) writer.joined

-- a step is about the next word of a slot
pub record IsNextWord (shape : Shape) (stage : Stage) (word : ℕ) : Type 0 where
  pub busy : stage ≡ Busy (place_of stage) (words_of stage)
  pub next : word ≡ slot_at shape (place_of stage) + length (words_of stage)

-- a count of finished records that a reader may load
pub record IsFinishedCount (reader : Reader) (count : ℕ) : Type 0 where
  pub most : count ≤ most_records
  pub seen : reader.finished.count ≤ count
  pub begun : reader.begun.count ≤ count + 1

-- a count of begun records that a reader may load
pub record IsBegunCount (reader : Reader) (count : ℕ) : Type 0 where
  pub most : count ≤ most_records
  pub seen : reader.begun.count ≤ count
