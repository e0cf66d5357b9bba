-- Logs that grow, and readers that stand for them.
use Rattle.std.proofs.Common.{◌≡◌, ◌≢◌, ℕ, ◌+◌, ◌*◌, ◌<◌, ◌≤◌, List, [], ◌∷◌, ◌++◌, map, length, get_or, Some, sym, ap, ◌∙◌, subst, arith}
use Rattle.std.specs.Prelude.{slice_get}
use Rattle.std.specs.List.{All, AllPairs}
use Rattle.std.proofs.Math.ListN.{get_or-append}
use Rattle.std.proofs.Math.Seq.{get_or-append_seam}
use Rattle.std.proofs.lemmas.List.{length-append, length-map, map-append, ext_get_or}
use Rattle.std.proofs.lemmas.List.Elements.{All-weaker}
use Rattle.std.proofs.lemmas.Option.{get_or_from_slice_get, slice_get_within, slice_get-get_or, slice_get-map}
use Rattle.hb_look.specs.Looks.{Found, Got, Gone, NotYet}
use Rattle.hb_look.specs.Stands.{IsSo, IsTrueOf}
use Rattle.hb_look.specs.Reader.{Reader, ReaderStandsFor}
use Rattle.hb_ring_rule.specs.Records.{record_of, IsPart, IsFront}
use Rattle.hb_ring_rule.specs.Views.{Stage, Idle, Busy, WriterView, Knowledge, Writes, Reads, Spent, begun_in, begun_of}
use Rattle.hb_ring_rule.specs.Rule.{IsReader, IsLooking, IsAtStage, IsKnown}

module _ {A : Type 0} where
  -- an element of the front of a list is the list's
  pub get_front : (xs more : List A) (i : ℕ) (x : A) → slice_get xs i ≡ Some x → slice_get (xs ++ more) i ≡ Some x
  get_front xs more i x at =
      let inside = slice_get_within xs i x at in
      let longer = length-append xs more in
      slice_get-get_or (xs ++ more) i x (omega (arith, inside, longer)) ∙ ap Some (get_or-append xs more x i inside ∙ get_or_from_slice_get xs i x x at)

  -- and the other way round
  pub get_back : (xs more : List A) (i : ℕ) (x : A) → i < length xs → slice_get (xs ++ more) i ≡ Some x → slice_get xs i ≡ Some x
  get_back xs more i x inside at =
      slice_get-get_or xs i x inside ∙ ap Some (sym (get_or-append xs more x i inside) ∙ get_or_from_slice_get (xs ++ more) i x x at)

  pub get_last : (xs : List A) (y : A) (i : ℕ) (x : A) → i ≡ length xs → slice_get (xs ++ y ∷ []) i ≡ Some x → y ≡ x
  get_last xs y i x last at =
      sym (get_or-append_seam xs y [] x) ∙ ap (λ (k : ℕ). get_or (xs ++ y ∷ []) k x) (sym last) ∙ get_or_from_slice_get (xs ++ y ∷ []) i x x at

so_more : (log more : List (List ℕ)) (cap position : ℕ) (found : Found) → IsSo log cap position found → IsSo (log ++ more) cap position found
so_more log more cap position (Got bytes) so = get_front log more position bytes so
so_more log more cap position (Gone next) so = let longer = length-append log more in (so.0, omega (arith, so.1, longer))
so_more log more cap position NotYet so = tt

stands_more : (log more : List (List ℕ)) (reader : Reader) → ReaderStandsFor log reader → ReaderStandsFor (log ++ more) reader
stands_more log more reader stands = let longer = length-append log more in record {
  looks = record {
    are_true = All-weaker (IsTrueOf log) (IsTrueOf (log ++ more)) (λ look. so_more log more look.capacity look.position look.found) reader.looks stands.looks.are_true;
    go_on = stands.looks.go_on;
  };
  within = stands.within;
  finished = omega (arith, stands.finished, longer);
  begun = omega (arith, stands.begun, longer);
}

-- a writer's log has grown, and no fewer records were begun
pub record HasGrown (old new : WriterView) (more : List (List ℕ)) : Type 0 where
  pub shape : new.shape ≡ old.shape
  pub log : new.log ≡ old.log ++ more
  pub begun : begun_of old ≤ begun_of new

pub reader_stays : (old new : WriterView) (more : List (List ℕ)) (reader : Reader) → HasGrown old new more → IsReader old reader → IsReader new reader
reader_stays old new more reader grown is = record {
  stands = subst (λ (log : List (List ℕ)). ReaderStandsFor log reader) (sym (ap (map record_of) grown.log ∙ map-append record_of old.log more)) (stands_more (map record_of old.log) (map record_of more) reader is.stands);
  begun = omega (arith, is.begun, grown.begun);
  capacity = is.capacity ∙ sym (ap (λ s. s.capacity) grown.shape);
  longest = is.longest ∙ sym (ap (λ s. 8 * s.slot_words) grown.shape);
}

-- what a reader has seen finished is in the log
pub seen_within : (writer : WriterView) (reader : Reader) → IsReader writer reader → reader.finished.count ≤ length writer.log
seen_within writer reader is = let long = length-map writer.log record_of in omega (arith, is.stands.finished, long)

looking_stays : (old new : WriterView) (more : List (List ℕ)) (reader : Reader) (position : ℕ) (words : List ℕ) → HasGrown old new more → IsReader old reader
    → IsLooking old reader position words → IsLooking new reader position words
looking_stays old new more reader position words grown is looking =
    let seen = seen_within old reader is in
    let cap : new.shape.capacity ≡ old.shape.capacity = ap (λ s. s.capacity) grown.shape in record {
      below = looking.below;
      loaded = looking.loaded;
      part = subst (λ (n : ℕ). IsPart n words) (sym (ap (λ s. s.slot_words) grown.shape)) looking.part;
      front = λ kept spelled at. looking.front (omega (arith, kept, grown.begun, cap)) spelled
          (get_back old.log more position spelled (omega (arith, looking.below, seen)) (subst (λ (log : List (List ℕ)). slice_get log position ≡ Some spelled) grown.log at));
    }

stage_stays : (old new : WriterView) (more : List (List ℕ)) (reader : Reader) (stage : Stage) → HasGrown old new more → IsReader old reader
    → IsAtStage old reader stage → IsAtStage new reader stage
stage_stays old new more reader Idle grown is at = tt
stage_stays old new more reader (Busy position words) grown is at = looking_stays old new more reader position words grown is at

-- what another seat than the writer's knows stays so
pub known_stays : (seat other : ℕ) (old new : WriterView) (more : List (List ℕ)) (view : Knowledge) → HasGrown old new more → other ≢ seat → IsKnown seat old other view → IsKnown seat new other view
known_stays seat other old new more (Writes view) grown apart known = absurd (apart known.0)
known_stays seat other old new more (Reads view) grown apart known = (reader_stays old new more view.reader grown known.0, stage_stays old new more view.reader view.stage grown known.0 known.1)
known_stays seat other old new more Spent grown apart known = tt

-- no fewer records were begun than finished
pub begun_at_least : (finished : ℕ) (stage : Stage) → finished ≤ begun_in finished stage
begun_at_least finished Idle = omega arith
begun_at_least finished (Busy position words) = omega arith

pub begun_at_most : (finished : ℕ) (stage : Stage) → begun_in finished stage ≤ finished + 1
begun_at_most finished Idle = omega arith
begun_at_most finished (Busy position words) = omega arith

-- two lists of words are one where the first is the front of the other and both are as long
pub front_is_all : (words others : List ℕ) → length words ≡ length others → IsFront words others → words ≡ others
front_is_all words others long front = ext_get_or 0 words others long front

-- the record of the words at a position
pub record_at : (log : List (List ℕ)) (position : ℕ) (words : List ℕ) → slice_get log position ≡ Some words → slice_get (map record_of log) position ≡ Some (record_of words)
record_at log position words at =
    let inside = slice_get_within log position words at in
    slice_get-map record_of log position ∙ ap (Rattle.std.specs.Option.option_map record_of) at
