-- Each step of a reader keeps the rule.
use Rattle.std.proofs.Common.{◌≡◌, ◌≢◌, ℕ, ◌+◌, ◌*◌, ◌<◌, ◌≤◌, List, [], ◌∷◌, ◌++◌, Bool, true, false, map, length, set, get_or, Some, inl, inr, refl, sym, ap, ◌∙◌, subst, subst₂, arith}
use Rattle.std.specs.Prelude.{slice_get, nat_le, if◌then◌else◌}
use mathlib.Core.Option.{some}
use lib.ListN.{get_elem?}
use Rattle.std.proofs.Math.ListN.{get_or-append}
use Rattle.std.proofs.Math.Seq.{get_or-append_seam}
use Rattle.std.proofs.lemmas.Bool.{cases_lt, leb-true, leb-false}
use Rattle.std.proofs.lemmas.List.{length-append, length-map, set-get_or}
use Rattle.std.proofs.lemmas.List.Elements.{All-push, All-weaker}
use Rattle.std.proofs.lemmas.Option.{get_or_from_slice_get, slice_get-get_or}
use Rattle.atomic_table.specs.Table.{keeps, stepped, Allows}
use Rattle.atomic_table.proofs.Lists.{set_else}
use Rattle.hb_look.specs.Limits.{most_records}
use Rattle.hb_look.specs.Looks.{Found, Got, Gone, NotYet, LookMade, oldest}
use Rattle.hb_look.specs.Stands.{IsSo, IsTrueOf}
use Rattle.hb_look.specs.Reader.{Reader, IsLater, HasCause, IsBounded, IsWithin, IsInOrder, ReaderStandsFor}
use Rattle.hb_look.proofs.Orders.{in_order_with, stands_with, stands_still}
use Rattle.hb_ring_rule.specs.declared.shape.Shape.{Shape}
use Rattle.hb_ring_rule.specs.Layout.{word_count, slot_at, Begins}
use Rattle.hb_ring_rule.specs.Records.{words_for, record_of, IsPart, IsWhole, IsFront}
use Rattle.hb_ring_rule.specs.Views.{Stage, Idle, Busy, place_of, words_of, WriterView, ReaderView, Knowledge, Writes, Reads, begun_of}
use Rattle.hb_ring_rule.specs.Rule.{IsReader, IsLooking, IsAtStage, IsKnown, RuleOf, Holds}
use Rattle.hb_ring_rule.specs.Steps.{loaded, tops, looks_at, looks_in_vain, begins_look, looks_up, reads, ends_look, IsNextWord, IsFinishedCount}
use Rattle.hb_ring_rule.specs.Plays.{topped_play, looked_up_play, word_play, ended_play}
use Rattle.hb_ring_rule.proofs.Slots.{slot_within, words_fit}
use Rattle.hb_ring_rule.proofs.Logs.{seen_within, begun_at_least, begun_at_most, front_is_all, record_at}
use Rattle.hb_ring_rule.proofs.WriterSteps.{Sat, St, known_set}

-- a reader's seat is not the writer's
reader_apart : (views : List Knowledge) (seat me : ℕ) (writer : WriterView) (view : ReaderView) → get_elem? views seat ≡ some (Writes writer) → get_elem? views me ≡ some (Reads view) → seat ≢ me
reader_apart views seat me writer view writes reads same =
    let both : some (Writes writer) ≡ some (Reads view) = sym writes ∙ ap (get_elem? views) same ∙ reads in
    absurd (cc)

-- a load of a reader's changes no word and no other seat
pub unmoved : (shape : Shape) (s : St) (seat me : ℕ) (writer : WriterView) (at : ℕ) (cs : List (ℕ × ℕ)) (old new : ReaderView) → RuleOf shape s seat writer → get_elem? s.views me ≡ some (Reads old)
    → IsKnown seat writer me (Reads new) → Holds shape (stepped s at (get_or s.words at 0) me cs (Reads new) keeps)
unmoved shape s seat me writer at cs old new rule seated mine =
    let apart = reader_apart s.views seat me writer old rule.one seated in (
      seat,
      writer,
      subst (λ (ws : List ℕ). RuleOf shape (record { words = ws; homes = s.homes; views = set s.views me (Reads new) }) seat writer) (sym (set-get_or s.words at 0)) (record {
        shape_of = rule.shape_of;
        wide = rule.wide;
        finished = rule.finished;
        begun = rule.begun;
        most = rule.most;
        whole = rule.whole;
        stored = rule.stored;
        writing = rule.writing;
        lengths = rule.lengths;
        joined = rule.joined;
        one = set_else s.views me seat (Reads new) apart ∙ rule.one;
        known = known_set seat writer s.views me (Reads new) (λ other was _ is. rule.known other was is) mine;
      }),
    )

-- ---- the finished count is loaded

later_topped : (reader : Reader) (count : ℕ) → reader.finished.count ≤ count → IsLater reader (record reader { finished = loaded count reader.finished })
later_topped reader count seen = record {
  finished = record { count = seen; loads = omega arith; loaded = inr (omega arith) };
  begun = record { count = omega arith; loads = omega arith; loaded = inl refl };
  capacity = refl;
  longest = refl;
}

topped : (writer : WriterView) (view : ReaderView) (count : ℕ) → IsReader writer view.reader → count ≡ length writer.log → IsReader writer (tops count view).reader
topped writer view count is now =
    let long = length-map writer.log record_of in
    let seen = is.stands.finished in record {
      stands = stands_still (map record_of writer.log) view.reader (tops count view).reader is.stands (later_topped view.reader count (omega (arith, seen, long, now))) refl
          (omega (arith, now, long)) is.stands.begun;
      begun = is.begun;
      capacity = is.capacity;
      longest = is.longest;
    }

finished_count : (writer : WriterView) (reader : Reader) (count : ℕ) → IsReader writer reader → count ≡ length writer.log → begun_of writer ≤ most_records → length writer.log ≤ begun_of writer
    → IsFinishedCount reader count
finished_count writer reader count is now most least =
    let seen = seen_within writer reader is in
    let begun = begun_at_most (length writer.log) writer.stage in
    let mine = is.begun in record {
      most = omega (arith, now, most, least);
      seen = omega (arith, now, seen);
      begun = omega (arith, now, begun, mine);
    }

pub top_allowed : (shape : Shape) (slots id : ℕ) (view : ReaderView) (cs : List (ℕ × ℕ)) → view.stage ≡ Idle
    → Allows (Holds shape) slots id (Reads view, cs) 0 (λ n. n) (topped_play (Reads view, cs))
top_allowed shape slots id view cs idle s holds here seated below =
    let rule = holds.2 in
    let writer : WriterView = holds.1 in
    let count : ℕ = get_or s.words 0 0 in
    let known = rule.known id (Reads view) seated in
    let is = topped writer view count known.0 rule.finished in (
      Reads (tops count view),
      keeps,
      tt,
      unmoved shape s holds.0 id writer 0 cs view (tops count view) rule seated (is, subst (IsAtStage writer (tops count view).reader) (sym idle) tt),
      (refl, finished_count writer view.reader count known.0 rule.finished rule.most (begun_at_least (length writer.log) writer.stage)),
    )

-- ---- for a look

-- it finds no record yet
missed : (writer : WriterView) (view : ReaderView) (position moment count : ℕ) → IsReader writer view.reader → count ≡ length writer.log → count ≤ position
    → IsReader writer (looks_in_vain position moment (tops count view)).reader
missed writer view position moment count is now above =
    let long = length-map writer.log record_of in
    let seen = is.stands.finished in
    let mine = is.begun in
    let begun = begun_at_most (length writer.log) writer.stage in record {
      stands = stands_with (map record_of writer.log) position moment view.reader (looks_in_vain position moment (tops count view)).reader NotYet is.stands
          (let later = later_topped view.reader count (omega (arith, seen, long, now)) in record { finished = later.finished; begun = later.begun; capacity = refl; longest = refl })
          (omega arith, above, omega (arith, now, begun, mine)) (omega (arith, long, now, above)) refl (omega (arith, now, long)) is.stands.begun;
      begun = is.begun;
      capacity = is.capacity;
      longest = is.longest;
    }

-- or begins to read it
begun_to_look : (writer : WriterView) (view : ReaderView) (position count : ℕ) → position < count → IsLooking writer (tops count view).reader position []
begun_to_look writer view position count below = record {
  below = below;
  loaded = omega arith;
  part = record { fits = omega arith; count = omega arith };
  front = λ kept spelled at k inside. absurd (omega (arith, inside));
}

looked_up : (seat me : ℕ) (writer : WriterView) (view : ReaderView) (position moment count : ℕ) → IsReader writer view.reader → count ≡ length writer.log → view.stage ≡ Idle
    → (is_past : Bool) → is_past ≡ nat_le count position
    → IsKnown seat writer me (Reads (if is_past then looks_in_vain position moment (tops count view) else begins_look position (tops count view)))
looked_up seat me writer view position moment count is now idle true past =
    (missed writer view position moment count is now (leb-true count position (sym past)), subst (IsAtStage writer (looks_in_vain position moment (tops count view)).reader) (sym idle) tt)
looked_up seat me writer view position moment count is now idle false past =
    (topped writer view count is now, begun_to_look writer view position count (leb-false count position (sym past)))

pub look_up_allowed : (shape : Shape) (slots id : ℕ) (view : ReaderView) (cs : List (ℕ × ℕ)) (position moment : ℕ) → view.stage ≡ Idle
    → Allows (Holds shape) slots id (Reads view, cs) 0 (λ n. n) (looked_up_play position moment (Reads view, cs))
look_up_allowed shape slots id view cs position moment idle s holds here seated below =
    let rule = holds.2 in
    let writer : WriterView = holds.1 in
    let count : ℕ = get_or s.words 0 0 in
    let known = rule.known id (Reads view) seated in (
      Reads (looks_up position moment count view),
      keeps,
      tt,
      unmoved shape s holds.0 id writer 0 cs view (looks_up position moment count view) rule seated
          (looked_up holds.0 id writer view position moment count known.0 rule.finished idle (nat_le count position) refl),
      (refl, finished_count writer view.reader count known.0 rule.finished rule.most (begun_at_least (length writer.log) writer.stage)),
    )

-- ---- one word of a slot is loaded

-- the number of words read is that of the record's, or less
next_part : (slot_words : ℕ) (words : List ℕ) (found : ℕ) → IsPart slot_words words → length words ≤ words_for (get_or words 0 0) → (length words ≡ 0 → found ≤ 8 * slot_words)
    → IsPart slot_words (words ++ found ∷ [])
next_part slot_words [] found part count fits = record { fits = fits refl; count = omega arith }
next_part slot_words (word ∷ words) found part count fits = let longer = length-append words (found ∷ []) in record {
  fits = part.fits;
  count = omega (arith, count, longer);
}

-- the record has a further word
further_word : (slot_words : ℕ) (words spelled : List ℕ) → IsWhole slot_words spelled → length words ≤ words_for (get_or words 0 0) → IsFront words spelled → length words < length spelled
further_word slot_words [] spelled whole count front = let long = whole.count in omega (arith, long)
further_word slot_words (word ∷ words) spelled whole count front =
    let head : word ≡ get_or spelled 0 0 = front 0 (omega arith) in
    let long = whole.count in
    let same = ap words_for head in omega (arith, long, count, same)

whole_at : (shape : Shape) (s : St) (seat : ℕ) (writer : WriterView) (position : ℕ) (spelled : List ℕ) → RuleOf shape s seat writer → position < length writer.log
    → slice_get writer.log position ≡ Some spelled → IsWhole writer.shape.slot_words spelled
whole_at shape s seat writer position spelled rule inside at =
    subst (IsWhole writer.shape.slot_words) (get_or_from_slice_get writer.log position spelled [] at) (rule.whole position [] inside)

next_front : (words spelled ring : List ℕ) (start : ℕ) → IsFront words spelled → Begins ring start spelled → length words < length spelled
    → IsFront (words ++ get_or ring (start + length words) 0 ∷ []) spelled
next_front words spelled ring start front begin further k inside = elim (cases_lt k (length words)) [
  | inl below ↦ get_or-append words (get_or ring (start + length words) 0 ∷ []) 0 k below ∙ front k below
  | inr above ↦
      let longer = length-append words (get_or ring (start + length words) 0 ∷ []) in
      let last : k ≡ length words = omega (arith, above, inside, longer) in
      ap (λ (n : ℕ). get_or (words ++ get_or ring (start + length words) 0 ∷ []) n 0) last ∙ get_or-append_seam words (get_or ring (start + length words) 0) [] 0
      ∙ begin (length words) further ∙ ap (λ (n : ℕ). get_or spelled n 0) (sym last)
]

word_read : (shape : Shape) (s : St) (seat : ℕ) (writer : WriterView) (reader : Reader) (position : ℕ) (words : List ℕ) → RuleOf shape s seat writer → IsReader writer reader
    → IsLooking writer reader position words → length words ≤ words_for (get_or words 0 0)
    → (length words ≡ 0 → get_or s.words (slot_at writer.shape position + length words) 0 ≤ 8 * writer.shape.slot_words)
    → IsLooking writer reader position (words ++ get_or s.words (slot_at writer.shape position + length words) 0 ∷ [])
word_read shape s seat writer reader position words rule is looking count fits = record {
  below = looking.below;
  loaded = looking.loaded;
  part = next_part writer.shape.slot_words words (get_or s.words (slot_at writer.shape position + length words) 0) looking.part count fits;
  front = λ kept spelled at.
      let seen = seen_within writer reader is in
      let below = looking.below in
      let whole = whole_at shape s seat writer position spelled rule (omega (arith, below, seen)) at in
      let front = looking.front kept spelled at in
      next_front words spelled s.words (slot_at writer.shape position) front (rule.stored position spelled at kept) (further_word writer.shape.slot_words words spelled whole count front);
}

first_fits : (shape : Shape) (s : St) (seat : ℕ) (writer : WriterView) (position : ℕ) (words : List ℕ) → RuleOf shape s seat writer → length words ≡ 0
    → get_or s.words (slot_at writer.shape position + length words) 0 ≤ 8 * writer.shape.slot_words
first_fits shape s seat writer position words rule none =
    let fits = rule.lengths position in
    let same : slot_at writer.shape position + length words ≡ slot_at writer.shape position = omega (arith, none) in
    let found = ap (λ (i : ℕ). get_or s.words i 0) same in omega (arith, fits, found)

pub word_allowed : (shape : Shape) (slots id : ℕ) (view : ReaderView) (cs : List (ℕ × ℕ)) (at : ℕ) → IsNextWord shape view.stage at
    → length (words_of view.stage) ≤ words_for (get_or (words_of view.stage) 0 0)
    → Allows (Holds shape) slots id (Reads view, cs) at (λ n. n) (word_play (Reads view, cs))
word_allowed shape slots id view cs at next count s holds here seated below =
    let rule = holds.2 in
    let writer : WriterView = holds.1 in
    let position : ℕ = place_of view.stage in
    let words : List ℕ = words_of view.stage in
    let known = rule.known id (Reads view) seated in
    let looking : IsLooking writer view.reader position words = subst (IsAtStage writer view.reader) next.busy known.1 in
    let place : slot_at writer.shape position + length words ≡ at = ap (λ (k : Shape). slot_at k position + length words) rule.shape_of ∙ sym next.next in
    let first = first_fits shape s holds.0 writer position words rule in
    let read = word_read shape s holds.0 writer view.reader position words rule known.0 looking count first in
    let longest = known.0.longest in (
      Reads (reads (get_or s.words at 0) view),
      keeps,
      tt,
      unmoved shape s holds.0 id writer at cs view (reads (get_or s.words at 0) view) rule seated
          (known.0, subst (λ (i : ℕ). IsLooking writer view.reader position (words ++ get_or s.words i 0 ∷ [])) place read),
      (refl, λ none. let fits = first none in let found = ap (λ (i : ℕ). get_or s.words i 0) place in omega (arith, fits, found, longest)),
    )

-- ---- the begun count is loaded, which ends a look

-- the reader as it was before it loaded the count of finished records, since a look's cause is in both
-- counts
bounded_before : (cap : ℕ) (reader : Reader) (position : ℕ) (found : Found) → IsBounded cap reader position found → IsBounded cap (record reader { finished = record { count = reader.finished.count; loads = 0 } }) position found
bounded_before cap reader position (Got bytes) bounded = bounded
bounded_before cap reader position (Gone next) bounded = bounded
bounded_before cap reader position NotYet bounded = bounded

found_stands : (log : List (List ℕ)) (reader : Reader) (position moment begun : ℕ) (found : Found) → ReaderStandsFor log reader → 1 ≤ reader.finished.loads → reader.begun.count ≤ begun
    → begun ≤ length log + 1
    → HasCause reader.capacity position (record reader { finished = record { count = reader.finished.count; loads = 0 } }) (looks_at position moment found (record reader { begun = loaded begun reader.begun })) found
    → IsSo log reader.capacity position found
    → ReaderStandsFor log (looks_at position moment found (record reader { begun = loaded begun reader.begun }))
found_stands log reader position moment begun found stands loads seen most cause so =
    let old : Reader = record reader { finished = record { count = reader.finished.count; loads = 0 } } in
    let new : Reader = looks_at position moment found (record reader { begun = loaded begun reader.begun }) in
    let later : IsLater old new = record {
      finished = record { count = omega arith; loads = omega arith; loaded = inr (omega (arith, loads)) };
      begun = record { count = seen; loads = omega arith; loaded = inr (omega arith) };
      capacity = refl;
      longest = refl;
    } in
    let order : IsInOrder old = record {
      within = All-weaker (IsWithin reader) (IsWithin old) (λ look within. (within.0, bounded_before look.capacity reader look.position look.found within.1)) reader.looks stands.within;
      go_on = stands.looks.go_on;
    } in
    let after = in_order_with position moment old new found order later cause refl in
    let made : LookMade = record { position = position; found = found; moment = moment; capacity = reader.capacity } in record {
      looks = record { are_true = All-push (IsTrueOf log) reader.looks made stands.looks.are_true so; go_on = after.go_on };
      within = after.within;
      finished = stands.finished;
      begun = most;
    }

-- the words read are the record's, where its slot was not begun anew
got_so : (shape : Shape) (s : St) (seat : ℕ) (writer : WriterView) (reader : Reader) (position : ℕ) (words : List ℕ) → RuleOf shape s seat writer → IsReader writer reader
    → IsLooking writer reader position words → length words ≡ 1 + words_for (get_or words 0 0) → begun_of writer ≤ position + writer.shape.capacity + 1
    → slice_get (map record_of writer.log) position ≡ Some (record_of words)
got_so shape s seat writer reader position words rule is looking all kept =
    let seen = seen_within writer reader is in
    let below = looking.below in
    let inside : position < length writer.log = omega (arith, below, seen) in
    let spelled : List ℕ = get_or writer.log position [] in
    let at : slice_get writer.log position ≡ Some spelled = slice_get-get_or writer.log position [] inside in
    let whole = whole_at shape s seat writer position spelled rule inside at in
    let front = looking.front kept spelled at in
    let head : get_or words 0 0 ≡ get_or spelled 0 0 = front 0 (omega (arith, all)) in
    let long : length words ≡ length spelled = all ∙ ap (λ (n : ℕ). 1 + words_for n) head ∙ sym whole.count in
    record_at writer.log position words (at ∙ ap Some (sym (front_is_all words spelled long front)))

ended_known : (shape : Shape) (s : St) (seat : ℕ) (writer : WriterView) (reader : Reader) (position moment begun : ℕ) (words : List ℕ) → RuleOf shape s seat writer → IsReader writer reader
    → IsLooking writer reader position words → length words ≡ 1 + words_for (get_or words 0 0) → begun ≡ begun_of writer
    → (is_kept : Bool) → is_kept ≡ nat_le (oldest reader.capacity begun) position
    → IsReader writer (looks_at position moment (if is_kept then Got (record_of words) else Gone (oldest reader.capacity begun)) (record reader { begun = loaded begun reader.begun }))
ended_known shape s seat writer reader position moment begun words rule is looking all now true kept =
    let held = leb-true (oldest reader.capacity begun) position (sym kept) in
    let cap = is.capacity in
    let long = length-map writer.log record_of in
    let most = begun_at_most (length writer.log) writer.stage in
    let seen = is.begun in
    let loads = looking.loaded in record {
      stands = found_stands (map record_of writer.log) reader position moment begun (Got (record_of words)) is.stands loads (omega (arith, seen, now)) (omega (arith, most, now, long))
          (omega (arith, loads), looking.below, omega arith, held) (got_so shape s seat writer reader position words rule is looking all (omega (arith, held, cap, now)));
      begun = omega (arith, now);
      capacity = is.capacity;
      longest = is.longest;
    }
ended_known shape s seat writer reader position moment begun words rule is looking all now false kept =
    let over = leb-false (oldest reader.capacity begun) position (sym kept) in
    let long = length-map writer.log record_of in
    let most = begun_at_most (length writer.log) writer.stage in
    let seen = is.begun in
    let loads = looking.loaded in record {
      stands = found_stands (map record_of writer.log) reader position moment begun (Gone (oldest reader.capacity begun)) is.stands loads (omega (arith, seen, now)) (omega (arith, most, now, long))
          (omega arith, refl, over) (over, omega (arith, most, now, long));
      begun = omega (arith, now);
      capacity = is.capacity;
      longest = is.longest;
    }

pub end_allowed : (shape : Shape) (slots id : ℕ) (view : ReaderView) (cs : List (ℕ × ℕ)) (moment : ℕ) → view.stage ≡ Busy (place_of view.stage) (words_of view.stage)
    → length (words_of view.stage) ≡ 1 + words_for (get_or (words_of view.stage) 0 0)
    → Allows (Holds shape) slots id (Reads view, cs) 1 (λ n. n) (ended_play moment (Reads view, cs))
end_allowed shape slots id view cs moment busy all s holds here seated below =
    let rule = holds.2 in
    let writer : WriterView = holds.1 in
    let position : ℕ = place_of view.stage in
    let words : List ℕ = words_of view.stage in
    let begun : ℕ = get_or s.words 1 0 in
    let known = rule.known id (Reads view) seated in
    let looking : IsLooking writer view.reader position words = subst (IsAtStage writer view.reader) busy known.1 in
    let now = rule.begun in
    let most = rule.most in
    let seen = known.0.begun in (
      Reads (ends_look moment begun view),
      keeps,
      tt,
      unmoved shape s holds.0 id writer 1 cs view (ends_look moment begun view) rule seated
          (ended_known shape s holds.0 writer view.reader position moment begun words rule known.0 looking all now (nat_le (oldest view.reader.capacity begun) position) refl, tt),
      (refl, record { most = omega (arith, now, most); seen = omega (arith, now, seen) }),
    )

-- ---- at a seat that is a reader's

pub at_reader : (key shape : Shape) (slots id : ℕ) (me : Sat) (view : ReaderView) (i : ℕ) (f : ℕ → ℕ) (play : Sat → ℕ → Sat → Type 0) → key ≡ shape → me ≡ (Reads view, [])
    → Allows (Holds shape) slots id (Reads view, []) i f (play (Reads view, [])) → Allows (Holds key) slots id me i f (play me)
at_reader key shape slots id me view i f play same mine allowed =
    subst₂ (λ (k : Shape) (m : Sat). Allows (Holds k) slots id m i f (play m)) (sym same) (sym mine) allowed

-- the word that is loaded is within the ring
pub read_within : (shape : Shape) (stage : Stage) (at : ℕ) → IsNextWord shape stage at → get_or (words_of stage) 0 0 ≤ 8 * shape.slot_words
    → length (words_of stage) ≤ words_for (get_or (words_of stage) 0 0) → at < word_count shape
read_within shape stage at next room count =
    let fits = words_fit shape.slot_words (get_or (words_of stage) 0 0) room in
    let inside = slot_within shape (place_of stage) (length (words_of stage)) (omega (arith, fits, count)) in
    let here = next.next in omega (arith, inside, here)
