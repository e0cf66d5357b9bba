-- Each step of the writer keeps the rule.
use Rattle.std.proofs.Common.{◌≡◌, ◌≢◌, ℕ, zero, suc, ◌+◌, ◌*◌, ◌<◌, ◌≤◌, List, [], ◌∷◌, ◌++◌, map, length, set, get_or, Some, inl, inr, refl, sym, ap, ◌∙◌, subst, subst₂, arith, length-set, get_or-set_other, get_or-set_same}
use Rattle.std.specs.Prelude.{slice_get}
use Rattle.std.specs.List.{All}
use mathlib.Core.Option.{some}
use lib.ListN.{get_elem?}
use Rattle.std.proofs.Math.ListN.{get_or-append}
use Rattle.std.proofs.Math.Seq.{get_or-append_seam}
use Rattle.std.proofs.lemmas.Bool.{cases_lt, cases_eq}
use Rattle.std.proofs.lemmas.List.{length-append, append-nil, set-get_or}
use Rattle.std.proofs.lemmas.List.Elements.{All-push, All-weaker}
use Rattle.std.proofs.lemmas.Option.{slice_get_within, get_or_from_slice_get}
use Rattle.atomic_table.specs.Table.{State, Me, keeps, stepped, Allows}
use Rattle.atomic_table.proofs.Lists.{at_set, set_here, set_again}
use Rattle.hb_look.specs.Limits.{most_records}
use Rattle.hb_look.specs.Reader.{Reader, ReaderStandsFor}
use Rattle.hb_ring_rule.specs.declared.shape.Shape.{Shape}
use Rattle.hb_ring_rule.specs.Layout.{word_count, slot_at, Begins}
use Rattle.hb_ring_rule.specs.Records.{record_of, IsPart, IsWhole}
use Rattle.hb_ring_rule.specs.Views.{Stage, Idle, Busy, place_of, words_of, WriterView, Knowledge, Writes, begun_in, begun_of}
use Rattle.hb_ring_rule.specs.Rule.{IsReader, IsKnown, IsStored, IsWriting, RuleOf, Holds}
use Rattle.hb_ring_rule.specs.Steps.{begins, stores, finishes, IsNextWord}
use Rattle.hb_ring_rule.specs.Plays.{begun_play, stored_play, finished_play, confirmed_play}
use Rattle.hb_ring_rule.proofs.Slots.{slot_within, one_place, other_slot, begins_still, part_fits, whole_fits}
use Rattle.hb_ring_rule.proofs.Logs.{HasGrown, get_back, get_last, reader_stays, known_stays}

abbrev pub Sat : Type 0
Sat = Me ℕ Knowledge

abbrev pub St : Type 0
St = State ℕ Knowledge

-- what is known of each seat, once one has another view
pub known_set : (seat : ℕ) (writer : WriterView) (views : List Knowledge) (by : ℕ) (view : Knowledge)
    → ((other : ℕ) (was : Knowledge) → other ≢ by → get_elem? views other ≡ some was → IsKnown seat writer other was) → IsKnown seat writer by view
    → (other : ℕ) (is : Knowledge) → get_elem? (set views by view) other ≡ some is → IsKnown seat writer other is
known_set seat writer views by view others mine other is at = elim (at_set views by other view is at) [
  | inl here ↦ subst (λ (x : ℕ × Knowledge). IsKnown seat writer x.0 x.1) (λ i. (sym here.0 i, here.1 i)) mine
  | inr there ↦ others other is there.0 there.1
]

-- the rule, where the writer is seen to have this seat and this view
pub rebased : (shape : Shape) (s : St) (id : ℕ) (view : WriterView) → Holds shape s → get_elem? s.views id ≡ some (Writes view) → RuleOf shape s id view
rebased shape s id view holds at =
    let known = holds.2.known id (Writes view) at in
    subst₂ (RuleOf shape s) (sym known.0) (sym known.1) holds.2

-- the index of the last view's seat is within them
pub seat_within : (views : List Knowledge) (id : ℕ) (view : Knowledge) → get_elem? views id ≡ some view → id < length views
seat_within [] id view at = absurd (cc)
seat_within (x ∷ xs) zero view at = omega arith
seat_within (x ∷ xs) (suc id) view at = let rest = seat_within xs id view at in omega (arith, rest)

-- what the writer's step leaves of the seats
pub others_known : (shape : Shape) (s : St) (id : ℕ) (old new : WriterView) (more : List (List ℕ)) → RuleOf shape s id old → HasGrown old new more
    → (other : ℕ) (view : Knowledge) → get_elem? (set s.views id (Writes new)) other ≡ some view → IsKnown id new other view
others_known shape s id old new more rule grown =
    known_set id new s.views id (Writes new) (λ other was apart at. known_stays id other old new more was grown apart (rule.known other was at)) (refl, refl)

pub joined_stay : (old new : WriterView) (more : List (List ℕ)) (joined : List Reader) → HasGrown old new more → All (IsReader old) joined → All (IsReader new) joined
joined_stay old new more joined grown all = All-weaker (IsReader old) (IsReader new) (λ reader. reader_stays old new more reader grown) joined all

grown_begins : (view : WriterView) → view.stage ≡ Idle → HasGrown view (begins view) []
grown_begins view idle = record {
  shape = refl;
  log = sym (append-nil view.log);
  begun = let before = ap (begun_in (length view.log)) idle in omega (arith, before);
}

grown_stores : (word : ℕ) (view : WriterView) (position : ℕ) (words : List ℕ) → view.stage ≡ Busy position words → HasGrown view (stores word view) []
grown_stores word view position words busy = record {
  shape = refl;
  log = sym (append-nil view.log);
  begun = let before = ap (begun_in (length view.log)) busy in omega (arith, before);
}

grown_finishes : (view : WriterView) (position : ℕ) (words : List ℕ) → view.stage ≡ Busy position words → HasGrown view (finishes view) (words_of view.stage ∷ [])
grown_finishes view position words busy = record {
  shape = refl;
  log = refl;
  begun = let before = ap (begun_in (length view.log)) busy in let longer = length-append view.log (words_of view.stage ∷ []) in omega (arith, before, longer);
}

-- ---- the begun count is stored

begun_rule : (shape : Shape) (s : St) (id : ℕ) (view : WriterView) (cs : List (ℕ × ℕ)) (count : ℕ) → RuleOf shape s id view → view.stage ≡ Idle
    → count ≤ most_records → count ≡ length view.log + 1
    → RuleOf shape (stepped s 1 count id cs (Writes (begins view)) keeps) id (begins view)
begun_rule shape s id view cs count rule idle most next =
    let wide = rule.wide in
    let before : begun_of view ≡ length view.log = ap (begun_in (length view.log)) idle in
    let grown = grown_begins view idle in record {
      shape_of = rule.shape_of;
      wide = length-set s.words 1 count ∙ wide;
      finished = get_or-set_other s.words 1 0 count 0 (λ e. omega arith) ∙ rule.finished;
      begun = get_or-set_same s.words 1 count 0 (omega (arith, wide)) ∙ next;
      most = omega (arith, most, next);
      whole = rule.whole;
      stored = λ position spelled at kept. begins_still s.words 1 count (slot_at view.shape position) spelled (λ k inside e. omega (arith, e))
          (rule.stored position spelled at (omega (arith, kept, before)));
      writing = (refl, record { fits = omega arith; count = omega arith }, λ k inside. absurd (omega (arith, inside)));
      lengths = λ position. let same = get_or-set_other s.words 1 (slot_at view.shape position) count 0 (λ e. omega (arith, e)) in let fits = rule.lengths position in omega (arith, same, fits);
      joined = joined_stay view (begins view) [] view.joined grown rule.joined;
      one = set_here s.views id (Writes (begins view)) (seat_within s.views id (Writes view) rule.one);
      known = others_known shape s id view (begins view) [] rule grown;
    }

pub begin_allowed : (shape : Shape) (slots id : ℕ) (view : WriterView) (cs : List (ℕ × ℕ)) (count : ℕ) → view.stage ≡ Idle → count ≤ most_records → count ≡ length view.log + 1
    → Allows (Holds shape) slots id (Writes view, cs) 1 (λ _. count) (λ _. begun_play (Writes view, cs) count)
begin_allowed shape slots id view cs count idle most next s holds here at below =
    (Writes (begins view), keeps, tt, (id, begins view, begun_rule shape s id view cs count (rebased shape s id view holds at) idle most next), refl)

-- ---- one word of a slot is stored

module _ (shape : Shape) (s : St) (id : ℕ) (view : WriterView) (rule : RuleOf shape s id view) (words : List ℕ) (writing : IsWriting s.words view (Busy (length view.log) words)) (word : ℕ)
    (part : IsPart view.shape.slot_words (words ++ word ∷ [])) where
  abbrev place : ℕ
  place = slot_at view.shape (length view.log) + length words

  within_slot : length words ≤ view.shape.slot_words
  within_slot = let longer = length-append words (word ∷ []) in let fits = part_fits view.shape.slot_words (words ++ word ∷ []) part in omega (arith, longer, fits)

  within_ring : place < length s.words
  within_ring = let inside = slot_within view.shape (length view.log) (length words) within_slot in
      let wide : length s.words ≡ word_count view.shape = rule.wide ∙ sym (ap word_count rule.shape_of) in omega (arith, inside, wide)

  -- a record that is still in its slot has another slot
  stored_still : (position : ℕ) (spelled : List ℕ) → slice_get view.log position ≡ Some spelled → length view.log + 1 ≤ position + view.shape.capacity + 1
      → Begins s.words (slot_at view.shape position) spelled → Begins (set s.words place word) (slot_at view.shape position) spelled
  stored_still position spelled at kept begin =
      let inside = slice_get_within view.log position spelled at in
      let whole = whole_fits view.shape.slot_words spelled (subst (IsWhole view.shape.slot_words) (get_or_from_slice_get view.log position spelled [] at) (rule.whole position [] inside)) in
      begins_still s.words place word (slot_at view.shape position) spelled
      (λ k below e. other_slot view.shape position (length view.log) k (length words) (omega (arith, whole, below)) within_slot inside (omega (arith, kept)) e) begin

  -- the words of the record so far, and this one
  written_words : Begins (set s.words place word) (slot_at view.shape (length view.log)) (words ++ word ∷ [])
  written_words k inside = elim (cases_lt k (length words)) [
    | inl below ↦ get_or-set_other s.words place (slot_at view.shape (length view.log) + k) word 0 (λ e. omega (arith, e, below)) ∙ writing.2 k below ∙ sym (get_or-append words (word ∷ []) 0 k below)
    | inr above ↦
        let longer = length-append words (word ∷ []) in
        let last : k ≡ length words = omega (arith, above, inside, longer) in
        ap (λ (n : ℕ). get_or (set s.words place word) (slot_at view.shape (length view.log) + n) 0) last ∙ get_or-set_same s.words place word 0 within_ring
        ∙ sym (get_or-append_seam words word [] 0) ∙ ap (λ (n : ℕ). get_or (words ++ word ∷ []) n 0) (sym last)
  ]

  lengths_still : (position : ℕ) → get_or (set s.words place word) (slot_at view.shape position) 0 ≤ 8 * view.shape.slot_words
  lengths_still position = elim (cases_eq (slot_at view.shape position) place) [
    | inl same ↦
        let first = (one_place view.shape position (length view.log) 0 (length words) (omega arith) within_slot (omega (arith, same))).1 in
        let now = ap (λ (i : ℕ). get_or (set s.words place word) i 0) same ∙ get_or-set_same s.words place word 0 within_ring in
        let head = ap (λ (n : ℕ). get_or (words ++ word ∷ []) n 0) first ∙ get_or-append_seam words word [] 0 in
        let fits = part.fits in omega (arith, now, head, fits)
    | inr other ↦ let same = get_or-set_other s.words place (slot_at view.shape position) word 0 other in let fits = rule.lengths position in omega (arith, same, fits)
  ]

stored_rule : (shape : Shape) (s : St) (id : ℕ) (view : WriterView) (cs : List (ℕ × ℕ)) (at word : ℕ) → RuleOf shape s id view → IsNextWord view.shape view.stage at
    → IsPart view.shape.slot_words (words_of view.stage ++ word ∷ [])
    → RuleOf shape (stepped s at word id cs (Writes (stores word view)) keeps) id (stores word view)
stored_rule shape s id view cs at word rule next part =
    let words : List ℕ = words_of view.stage in
    let old : IsWriting s.words view (Busy (place_of view.stage) words) = subst (IsWriting s.words view) next.busy rule.writing in
    let writing : IsWriting s.words view (Busy (length view.log) words) = subst (λ (p : ℕ). IsWriting s.words view (Busy p words)) old.0 (old.0, old.1, old.2) in
    let grown = grown_stores word view (place_of view.stage) words next.busy in
    let before : begun_of view ≡ length view.log + 1 = ap (begun_in (length view.log)) next.busy in
    let here : slot_at view.shape (length view.log) + length words ≡ at = ap (λ (p : ℕ). slot_at view.shape p + length words) (sym old.0) ∙ sym next.next in
    subst (λ (i : ℕ). RuleOf shape (record { words = set s.words i word; homes = s.homes; views = set s.views id (Writes (stores word view)) }) id (stores word view)) here (record {
      shape_of = rule.shape_of;
      wide = length-set s.words (slot_at view.shape (length view.log) + length words) word ∙ rule.wide;
      finished = get_or-set_other s.words (slot_at view.shape (length view.log) + length words) 0 word 0 (λ e. omega (arith, e)) ∙ rule.finished;
      begun = get_or-set_other s.words (slot_at view.shape (length view.log) + length words) 1 word 0 (λ e. omega (arith, e)) ∙ rule.begun ∙ before;
      most = let most = rule.most in omega (arith, most, before);
      whole = rule.whole;
      stored = λ position spelled there kept. stored_still shape s id view rule words writing word part position spelled there kept (rule.stored position spelled there (omega (arith, kept, before)));
      writing = (refl, part, written_words shape s id view rule words writing word part);
      lengths = lengths_still shape s id view rule words writing word part;
      joined = joined_stay view (stores word view) [] view.joined grown rule.joined;
      one = set_here s.views id (Writes (stores word view)) (seat_within s.views id (Writes view) rule.one);
      known = others_known shape s id view (stores word view) [] rule grown;
    })

pub store_allowed : (shape : Shape) (slots id : ℕ) (view : WriterView) (cs : List (ℕ × ℕ)) (at word : ℕ) → IsNextWord shape view.stage at
    → IsPart shape.slot_words (words_of view.stage ++ word ∷ [])
    → Allows (Holds shape) slots id (Writes view, cs) at (λ _. word) (λ _. stored_play (Writes view, cs) word)
store_allowed shape slots id view cs at word next part s holds here seated below =
    let rule = rebased shape s id view holds seated in (
      Writes (stores word view),
      keeps,
      tt,
      (
        id,
        stores word view,
        stored_rule shape s id view cs at word rule (subst (λ (k : Shape). IsNextWord k view.stage at) (sym rule.shape_of) next)
            (subst (λ (k : Shape). IsPart k.slot_words (words_of view.stage ++ word ∷ [])) (sym rule.shape_of) part),
      ),
      refl,
    )

-- ---- the finished count is stored

-- each record that is still in its slot, the one just finished among them
finished_stored : (shape : Shape) (s : St) (id : ℕ) (view : WriterView) (words : List ℕ) (count : ℕ) → RuleOf shape s id view → begun_of view ≡ length view.log + 1
    → Begins s.words (slot_at view.shape (length view.log)) words → IsStored (set s.words 0 count) (record view { log = view.log ++ words ∷ []; stage = Idle })
finished_stored shape s id view words count rule before begin position spelled at kept =
    let longer = length-append view.log (words ∷ []) in
    let inside = slice_get_within (view.log ++ words ∷ []) position spelled at in
    begins_still s.words 0 count (slot_at view.shape position) spelled (λ k within e. omega (arith, e)) (elim (cases_lt position (length view.log)) [
      | inl below ↦ rule.stored position spelled (get_back view.log (words ∷ []) position spelled below at) (omega (arith, kept, before, longer))
      | inr above ↦
          let last : position ≡ length view.log = omega (arith, above, inside, longer) in
          subst₂ (λ (p : ℕ) (ws : List ℕ). Begins s.words (slot_at view.shape p) ws) (sym last) (get_last view.log words position spelled last at) begin
    ])

finished_rule : (shape : Shape) (s : St) (id : ℕ) (view : WriterView) (cs : List (ℕ × ℕ)) (count : ℕ) → RuleOf shape s id view → view.stage ≡ Busy (place_of view.stage) (words_of view.stage)
    → IsWhole view.shape.slot_words (words_of view.stage) → count ≡ length view.log + 1
    → RuleOf shape (stepped s 0 count id cs (Writes (finishes view)) keeps) id (finishes view)
finished_rule shape s id view cs count rule busy whole next =
    let words : List ℕ = words_of view.stage in
    let old : IsWriting s.words view (Busy (place_of view.stage) words) = subst (IsWriting s.words view) busy rule.writing in
    let begin : Begins s.words (slot_at view.shape (length view.log)) words = subst (λ (p : ℕ). Begins s.words (slot_at view.shape p) words) old.0 old.2 in
    let grown = grown_finishes view (place_of view.stage) words busy in
    let before : begun_of view ≡ length view.log + 1 = ap (begun_in (length view.log)) busy in
    let longer : length (view.log ++ words ∷ []) ≡ length view.log + 1 = length-append view.log (words ∷ []) in
    let wide = rule.wide in record {
      shape_of = rule.shape_of;
      wide = length-set s.words 0 count ∙ wide;
      finished = get_or-set_same s.words 0 count 0 (omega (arith, wide)) ∙ next ∙ sym longer;
      begun = get_or-set_other s.words 0 1 count 0 (λ e. omega arith) ∙ rule.begun ∙ before ∙ sym longer;
      most = let most = rule.most in omega (arith, most, before, longer);
      whole = All-push (IsWhole view.shape.slot_words) view.log words rule.whole whole;
      stored = finished_stored shape s id view words count rule before begin;
      writing = tt;
      lengths = λ position. let same = get_or-set_other s.words 0 (slot_at view.shape position) count 0 (λ e. omega (arith, e)) in let fits = rule.lengths position in omega (arith, same, fits);
      joined = joined_stay view (finishes view) (words ∷ []) view.joined grown rule.joined;
      one = set_here s.views id (Writes (finishes view)) (seat_within s.views id (Writes view) rule.one);
      known = others_known shape s id view (finishes view) (words ∷ []) rule grown;
    }

pub finish_allowed : (shape : Shape) (slots id : ℕ) (view : WriterView) (cs : List (ℕ × ℕ)) (count : ℕ) → view.stage ≡ Busy (place_of view.stage) (words_of view.stage)
    → IsWhole shape.slot_words (words_of view.stage) → count ≡ length view.log + 1
    → Allows (Holds shape) slots id (Writes view, cs) 0 (λ _. count) (λ _. finished_play (Writes view, cs) count)
finish_allowed shape slots id view cs count busy whole next s holds here seated below =
    let rule = rebased shape s id view holds seated in (
      Writes (finishes view),
      keeps,
      tt,
      (id, finishes view, finished_rule shape s id view cs count rule busy (subst (λ (k : Shape). IsWhole k.slot_words (words_of view.stage)) (sym rule.shape_of) whole) next),
      refl,
    )

-- ---- the writer loads a count

pub confirm_allowed : (shape : Shape) (slots id : ℕ) (view : WriterView) (cs : List (ℕ × ℕ)) (at : ℕ)
    → Allows (Holds shape) slots id (Writes view, cs) at (λ n. n) (confirmed_play (Writes view, cs))
confirm_allowed shape slots id view cs at s holds here seated below =
    let rule = rebased shape s id view holds seated in
    let same : RuleOf shape (record { words = set s.words at (get_or s.words at 0); homes = s.homes; views = set s.views id (Writes view) }) id view =
    subst₂ (λ (ws : List ℕ) (vs : List Knowledge). RuleOf shape (record { words = ws; homes = s.homes; views = vs }) id view)
    (sym (set-get_or s.words at 0)) (sym (set_again s.views id (Writes view) seated)) rule in
    (Writes view, keeps, tt, (id, view, same), (refl, rule.joined))

-- ---- at a seat that is the writer's

pub at_writer : (key shape : Shape) (slots id : ℕ) (me : Sat) (view : WriterView) (i : ℕ) (f : ℕ → ℕ) (play : Sat → ℕ → Sat → Type 0) → key ≡ shape → me ≡ (Writes view, [])
    → Allows (Holds shape) slots id (Writes view, []) i f (play (Writes view, [])) → Allows (Holds key) slots id me i f (play me)
at_writer key shape slots id me view i f play same mine allowed =
    subst₂ (λ (k : Shape) (m : Sat). Allows (Holds k) slots id m i f (play m)) (sym same) (sym mine) allowed

-- the word that is stored is within the ring
pub word_within : (shape : Shape) (stage : Stage) (at word : ℕ) → IsNextWord shape stage at → IsPart shape.slot_words (words_of stage ++ word ∷ []) → at < word_count shape
word_within shape stage at word next part =
    let longer = length-append (words_of stage) (word ∷ []) in
    let fits = part_fits shape.slot_words (words_of stage ++ word ∷ []) part in
    let inside = slot_within shape (place_of stage) (length (words_of stage)) (omega (arith, longer, fits)) in
    let here = next.next in omega (arith, inside, here)
