-- A ring begins with the rule; and a seat that is split off, or taken in, keeps it.
use Rattle.std.proofs.Common.{◌≡◌, ℕ, zero, suc, ◌+◌, ◌≤◌, List, [], ◌∷◌, ◌++◌, map, length, set, get_or, inl, inr, refl, sym, ap, ◌∙◌, subst, subst₂, arith}
use Rattle.std.specs.Prelude.{replicate}
use Rattle.std.specs.List.{All, AllPairs}
use mathlib.Core.Option.{some, some-ne-none, some-injective}
use lib.ListN.{get_elem?}
use Rattle.std.proofs.lemmas.Bool.{cases_lt}
use Rattle.std.proofs.lemmas.List.{append-nil, length-map, length-replicate, get_or-replicate, get_or_past}
use Rattle.std.proofs.lemmas.List.Elements.{All-nil, All-push}
use Rattle.std.proofs.lemmas.Option.{slice_get_within}
use Rattle.atomic_table.specs.Table.{Splits, Joins, opening}
use Rattle.atomic_table.proofs.Lists.{at_snoc, at_longer, set_again, set_else, set_here}
use Rattle.hb_look.specs.Stands.{IsTrueOf, GoesOn}
use Rattle.hb_look.specs.Reader.{Reader, IsWithin, ReaderStandsFor}
use Rattle.hb_ring_rule.specs.declared.shape.Shape.{Shape}
use Rattle.hb_ring_rule.specs.Layout.{word_count, slot_at}
use Rattle.hb_ring_rule.specs.Records.{record_of, IsWhole}
use Rattle.hb_ring_rule.specs.Views.{Stage, Idle, Busy, WriterView, ReaderView, Knowledge, Writes, Reads, Spent, first_writer}
use Rattle.hb_ring_rule.specs.Rule.{IsReader, IsKnown, IsWriting, RuleOf, Holds}
use Rattle.hb_ring_rule.specs.Steps.{new_reader_of, new_reader, twin_of, twin, joins}
use Rattle.hb_ring_rule.specs.Plays.{stays, read_by_new, read_by_twin, with_joined}
use Rattle.hb_ring_rule.proofs.Logs.{HasGrown, reader_stays, begun_at_least}
use Rattle.hb_ring_rule.proofs.WriterSteps.{St, known_set, rebased, others_known, seat_within, joined_stay}

-- ---- a new ring

abbrev zeros_of : ℕ → List ℕ
zeros_of count = replicate count 0

all_zero : (count i : ℕ) → get_or (zeros_of count) i 0 ≡ 0
all_zero count i = elim (cases_lt i count) [
  | inl below ↦ get_or-replicate count i 0 0 below
  | inr above ↦ get_or_past (zeros_of count) i 0 (let long : length (zeros_of count) ≡ count = length-replicate count _ in omega (arith, above, long))
]

first_known : (shape : Shape) (other : ℕ) (view : Knowledge) → get_elem? (Writes (first_writer shape) ∷ []) other ≡ some view → IsKnown 0 (first_writer shape) other view
first_known shape zero view at = subst (IsKnown 0 (first_writer shape) 0) (some-injective (Writes (first_writer shape)) view at) (refl, refl)
first_known shape (suc other) view at = absurd (some-ne-none view (sym at))

pub opens : (shape : Shape) (words : List ℕ) (slots : List ℕ) → words ≡ replicate (word_count shape) 0 → slots ≡ [] → Holds shape (opening words slots (Writes (first_writer shape)))
opens shape words slots zeros none =
    let zero_at : (i : ℕ) → get_or words i 0 ≡ 0 = λ i. ap (λ (ws : List ℕ). get_or ws i 0) zeros ∙ all_zero (word_count shape) i in (
      0,
      first_writer shape,
      record {
        shape_of = refl;
        wide = ap length zeros ∙ length-replicate (word_count shape) 0;
        finished = zero_at 0;
        begun = zero_at 1;
        most = omega arith;
        whole = All-nil (IsWhole shape.slot_words);
        stored = λ position spelled at. let inside = slice_get_within [] position spelled at in absurd (omega (arith, inside));
        writing = tt;
        lengths = λ position. let none = zero_at (slot_at shape position) in omega (arith, none);
        joined = All-nil (IsReader (first_writer shape));
        one = refl;
        known = first_known shape;
      },
    )

-- ---- a seat is split off

one_more : (shape : Shape) (s : St) (seat : ℕ) (writer : WriterView) (id : ℕ) (view new : Knowledge) → RuleOf shape s seat writer → get_elem? s.views id ≡ some view
    → ((other : ℕ) → IsKnown seat writer other new) → Holds shape (record { words = s.words; homes = s.homes; views = set s.views id view ++ new ∷ [] })
one_more shape s seat writer id view new rule at mine =
    subst (λ (vs : List Knowledge). Holds shape (record { words = s.words; homes = s.homes; views = vs ++ new ∷ [] })) (sym (set_again s.views id view at)) (
      seat,
      writer,
      record {
        shape_of = rule.shape_of;
        wide = rule.wide;
        finished = rule.finished;
        begun = rule.begun;
        most = rule.most;
        whole = rule.whole;
        stored = rule.stored;
        writing = rule.writing;
        lengths = rule.lengths;
        joined = rule.joined;
        one = at_longer s.views (new ∷ []) seat (Writes writer) rule.one;
        known = λ other is there. elim (at_snoc s.views new is other there) [
          | inl was ↦ rule.known other is was
          | inr same ↦ subst (IsKnown seat writer other) same (mine other)
        ];
      },
    )

no_pairs : {A : Type 0} (R : A → A → Type 0) → AllPairs R []
no_pairs R = λ i j d below within. absurd (omega (arith, within))

-- a reader that made no look, and has seen no more than was finished and begun
fresh_stands : (log : List (List ℕ)) (reader : Reader) → reader.looks ≡ [] → reader.finished.count ≤ length log → reader.begun.count ≤ length log + 1 → ReaderStandsFor log reader
fresh_stands log reader none finished begun = record {
  looks = record { are_true = subst (All (IsTrueOf log)) (sym none) (All-nil (IsTrueOf log)); go_on = subst (AllPairs GoesOn) (sym none) (no_pairs GoesOn) };
  within = subst (All (IsWithin reader)) (sym none) (All-nil (IsWithin reader));
  finished = finished;
  begun = begun;
}

pub new_reader_splits : (shape : Shape) (id : ℕ) (view : WriterView) → Splits (Holds shape) id (Writes view) (stays (Writes view)) (read_by_new (Writes view))
new_reader_splits shape id view s holds at =
    let rule = rebased shape s id view holds at in
    let long = length-map view.log record_of in
    let is : IsReader view (new_reader_of view.shape (length view.log)) = record {
      stands = fresh_stands (map record_of view.log) (new_reader_of view.shape (length view.log)) refl (omega (arith, long)) (omega (arith, long));
      begun = begun_at_least (length view.log) view.stage;
      capacity = refl;
      longest = refl;
    } in
    one_more shape s id view id (Writes view) (Reads (new_reader view)) rule at (λ other. (is, tt))

pub twin_splits : (shape : Shape) (id : ℕ) (view : ReaderView) → Splits (Holds shape) id (Reads view) (stays (Reads view)) (read_by_twin (Reads view))
twin_splits shape id view s holds at =
    let rule = holds.2 in
    let writer : WriterView = holds.1 in
    let known = (rule.known id (Reads view) at).0 in
    let is : IsReader writer (twin_of view.reader) = record {
      stands = fresh_stands (map record_of writer.log) (twin_of view.reader) refl known.stands.finished known.stands.begun;
      begun = known.begun;
      capacity = known.capacity;
      longest = known.longest;
    } in
    one_more shape s holds.0 writer id (Reads view) (Reads (twin view)) rule at (λ other. (is, tt))

-- ---- a reader is taken in

writing_same : (ring : List ℕ) (writer : WriterView) (view : ReaderView) (stage : Stage) → IsWriting ring writer stage → IsWriting ring (joins writer view) stage
writing_same ring writer view Idle writing = tt
writing_same ring writer view (Busy position words) writing = writing

pub retire_joins : (shape : Shape) (id : ℕ) (view : WriterView) (other : ℕ) (reader : ReaderView)
    → Joins (Holds shape) id (Writes view) other (Reads reader) (with_joined (Writes view) (Reads reader)) Spent
retire_joins shape id view other reader s holds at apart there =
    let rule = rebased shape s id view holds at in
    let both : WriterView = joins view reader in
    let known = (rule.known other (Reads reader) (sym (set_else s.views id other (Writes both) apart) ∙ there)).0 in
    let grown : HasGrown view both [] = record { shape = refl; log = sym (append-nil view.log); begun = omega arith } in (
      id,
      both,
      record {
        shape_of = rule.shape_of;
        wide = rule.wide;
        finished = rule.finished;
        begun = rule.begun;
        most = rule.most;
        whole = rule.whole;
        stored = rule.stored;
        writing = writing_same s.words view reader view.stage rule.writing;
        lengths = rule.lengths;
        joined = All-push (IsReader both) view.joined reader.reader (joined_stay view both [] view.joined grown rule.joined) (reader_stays view both [] reader.reader grown known);
        one = set_else (set s.views id (Writes both)) other id Spent (λ e. apart (sym e)) ∙ set_here s.views id (Writes both) (seat_within s.views id (Writes view) rule.one);
        known = known_set id both (set s.views id (Writes both)) other Spent (λ further was _ is. others_known shape s id view both [] rule grown further was is) tt;
      },
    )

-- ---- at seats that are these

pub split_at_writer : (key shape : Shape) (id : ℕ) (knows : Knowledge) (view : WriterView) → key ≡ shape → knows ≡ Writes view → Splits (Holds key) id knows (stays knows) (read_by_new knows)
split_at_writer key shape id knows view same mine =
    subst₂ (λ (k : Shape) (v : Knowledge). Splits (Holds k) id v (stays v) (read_by_new v)) (sym same) (sym mine) (new_reader_splits shape id view)

pub split_at_reader : (key shape : Shape) (id : ℕ) (knows : Knowledge) (view : ReaderView) → key ≡ shape → knows ≡ Reads view → Splits (Holds key) id knows (stays knows) (read_by_twin knows)
split_at_reader key shape id knows view same mine =
    subst₂ (λ (k : Shape) (v : Knowledge). Splits (Holds k) id v (stays v) (read_by_twin v)) (sym same) (sym mine) (twin_splits shape id view)

pub join_at : (key : Shape) (id other : ℕ) (knows others : Knowledge) (view : WriterView) (reader : ReaderView) → knows ≡ Writes view → others ≡ Reads reader
    → Joins (Holds key) id knows other others (with_joined knows others) Spent
join_at key id other knows others view reader mine its =
    subst₂ (λ (v w : Knowledge). Joins (Holds key) id v other w (with_joined v w) Spent) (sym mine) (sym its) (retire_joins key id view other reader)
