-- Read one field after another, an Int32Value and a LostEvent are what they read as number by number.
use Rattle.std.proofs.Common.{◌≡◌, ℕ, false, eqb, List, [], ◌∷◌, ◌++◌, Option, Some, None, refl, sym, ap, subst, ◌∙◌, append_assoc, inl, inr}
use Rattle.std.specs.Option.{option_map}
use Rattle.std.specs.List.{AllByRecursion, fold, flat_map}
use Rattle.std.proofs.lemmas.Bool.{cases_eq, ne_eqb}
use Rattle.std.proofs.lemmas.List.{append-nil}
use Rattle.std.proofs.lemmas.List.Elements.{filter_map-append}
use Rattle.hb_wire.specs.Varint.{AreBytes}
use Rattle.hb_wire.specs.Field.{Content, Varint, Fixed64, Body, Fixed32}
use Rattle.hb_flow.specs.Fields.{Part, parts, numbers, bodies, last_or, joined, unknown}
use Rattle.hb_flow.specs.Faults.{int32_value_check, lost_event_check, lost_event_fault, response_check}
use Rattle.hb_flow.specs.Messages.{int32, read_int32_value, read_lost_event, lost_event_row}
use Rattle.hb_flow.specs.Steps.{no_int32_value, no_lost_event, int32_value_after, int32_value_merged, lost_event_after}
use Rattle.hb_flow.specs.declared.lost_event.Int32Value.{Int32Value}
use Rattle.hb_flow.proofs.Joining.{Joins, Sound, whole, parts_joined}
use Rattle.hb_flow.proofs.Pieces.{all_append}
use Rattle.hb_flow.proofs.NotKnown.{part_of, no_body, no_number}
use Rattle.hb_flow.proofs.Merging.{merged, merged_joined, and_false, all_weaker, bodies_are}
use Rattle.hb_flow.proofs.Records.{int32_value_of, lost_event_of}

-- ---- field after field, whatever was there: of each number what counts

-- a wrapper keeps the last number
abbrev ValueFold : List Part → Type 0
ValueFold ps = (v : ℕ) → fold int32_value_after (int32_value_of (int32 v)) ps ≡ int32_value_of (int32 (last_or v (numbers 1 ps)))

-- with one more field in front
value_step : (raw : List ℕ) (number : ℕ) (content : Content) (ps : List Part) → ValueFold ps → ValueFold (part_of raw number content ∷ ps)
value_step raw number (Varint value) ps fold_rest v =
    elim (cases_eq number 1) [
      | inl e ↦ rw e (fold_rest value)
      | inr ne ↦ let other : eqb number 1 ≡ false = ne_eqb number 1 ne in rw other (fold_rest v)
    ]
value_step raw number (Fixed64 value) ps fold_rest v = rw (no_number (eqb number 1)) (fold_rest v)
value_step raw number (Body body) ps fold_rest v = rw (no_number (eqb number 1)) (fold_rest v)
value_step raw number (Fixed32 value) ps fold_rest v = rw (no_number (eqb number 1)) (fold_rest v)

value_fold : (ps : List Part) → ValueFold ps
value_fold [] v = refl
value_fold (p ∷ ps) v = value_step p.raw p.field.number p.field.content ps (value_fold ps) v

-- lost events keep the last numbers, merge their wrappers, and keep the bytes of what they do not know
abbrev LostFold : List Part → Type 0
LostFold ps = (s n : ℕ) (c : Option Int32Value) (k : List ℕ) → fold lost_event_after (lost_event_of (int32 s) n c k) ps
    ≡ lost_event_of (int32 (last_or s (numbers 1 ps))) (last_or n (numbers 2 ps)) (merged int32_value_after no_int32_value c (bodies 3 ps)) (k ++ unknown lost_event_row ps)

-- with the bytes of one more
lost_keeps : (raw : List ℕ) (ps : List Part) → LostFold ps → (s n : ℕ) (c : Option Int32Value) (k : List ℕ) → fold lost_event_after (lost_event_of (int32 s) n c (k ++ raw)) ps
    ≡ lost_event_of (int32 (last_or s (numbers 1 ps))) (last_or n (numbers 2 ps)) (merged int32_value_after no_int32_value c (bodies 3 ps)) (k ++ (raw ++ unknown lost_event_row ps))
lost_keeps raw ps fold_rest s n c k =
    fold_rest s n c (k ++ raw)
    ∙ ap (lost_event_of (int32 (last_or s (numbers 1 ps))) (last_or n (numbers 2 ps)) (merged int32_value_after no_int32_value c (bodies 3 ps))) (append_assoc k raw (unknown lost_event_row ps))

-- with one more field in front
lost_step : (raw : List ℕ) (number : ℕ) (content : Content) (ps : List Part) → LostFold ps → LostFold (part_of raw number content ∷ ps)
lost_step raw number (Varint value) ps fold_rest s n c k =
    elim (cases_eq number 1) [
      | inl e ↦ rw e (fold_rest value n c k)
      | inr ne ↦
          let not_1 : eqb number 1 ≡ false = ne_eqb number 1 ne in
          elim (cases_eq number 2) [
            | inl e ↦ rw e (fold_rest s value c k)
            | inr ne ↦ let not_2 : eqb number 2 ≡ false = ne_eqb number 2 ne in rw (not_1, not_2, no_body (eqb number 3), and_false (eqb number 3)) (lost_keeps raw ps fold_rest s n c k)
          ]
    ]
lost_step raw number (Fixed64 value) ps fold_rest s n c k =
    rw (no_number (eqb number 1), no_number (eqb number 2), no_body (eqb number 3), and_false (eqb number 1), and_false (eqb number 2), and_false (eqb number 3)) (lost_keeps raw ps fold_rest s n c k)
lost_step raw number (Body body) ps fold_rest s n c k =
    elim (cases_eq number 3) [
      | inl e ↦ rw e (fold_rest s n (Some (int32_value_merged c body)) k)
      | inr ne ↦ let not_3 : eqb number 3 ≡ false = ne_eqb number 3 ne in
          rw (not_3, no_number (eqb number 1), no_number (eqb number 2), and_false (eqb number 1), and_false (eqb number 2)) (lost_keeps raw ps fold_rest s n c k)
    ]
lost_step raw number (Fixed32 value) ps fold_rest s n c k =
    rw (no_number (eqb number 1), no_number (eqb number 2), no_body (eqb number 3), and_false (eqb number 1), and_false (eqb number 2), and_false (eqb number 3)) (lost_keeps raw ps fold_rest s n c k)

lost_fold : (ps : List Part) → LostFold ps
lost_fold [] s n c k = ap (lost_event_of (int32 s) n c) (sym (append-nil k))
lost_fold (p ∷ ps) s n c k = lost_step p.raw p.field.number p.field.content ps (lost_fold ps) s n c k

-- ---- what joins

-- a wrapper in lost events
cpu_joins : (body : List ℕ) → Sound lost_event_check 3 body → Joins body
unfolding lost_event_check
cpu_joins body sound = (whole int32_value_check sound.0 body sound.2 sound.1).joins

-- the bytes of lost events, and the wrappers in them
abbrev pub LostJoins : List ℕ → Type 0
LostJoins body = Joins body × AllByRecursion Joins (bodies 3 (parts body))

-- lost events in an answer
pub lost_joins : (body : List ℕ) → Sound response_check 3 body → LostJoins body
unfolding response_check
lost_joins body sound = let is = whole lost_event_check sound.0 body sound.2 sound.1 in (is.joins, bodies_are lost_event_check 3 body Joins cpu_joins is)

-- the wrappers in all of them
cpus_joined : (events : List (List ℕ)) → AllByRecursion LostJoins events → AllByRecursion Joins (bodies 3 (flat_map parts events))
cpus_joined [] join = tt
cpus_joined (event ∷ events) join =
    subst (AllByRecursion Joins) (sym (filter_map-append _ (parts event) (flat_map parts events))) (all_append Joins (bodies 3 (parts event)) (bodies 3 (flat_map parts events)) join.0.1 (cpus_joined events join.1))

-- ---- what is read

-- of a wrapper, whatever its bytes
value_is : (bytes : List ℕ) → fold int32_value_after no_int32_value (parts bytes) ≡ read_int32_value bytes
unfolding read_int32_value
value_is bytes = value_fold (parts bytes) 0

-- of a wrapper that is in several fields
values_are : (bs : List (List ℕ)) → AllByRecursion Joins bs → merged int32_value_after no_int32_value None bs ≡ option_map read_int32_value (joined bs)
values_are [] join = refl
values_are (b ∷ bs) join = merged_joined int32_value_after no_int32_value (b ∷ bs) join ∙ ap Some (value_is (b ++ flat_map (λ x. x) bs))

-- of lost events, where their wrappers join
lost_event_is : (bytes : List ℕ) → AllByRecursion Joins (bodies 3 (parts bytes)) → fold lost_event_after no_lost_event (parts bytes) ≡ read_lost_event bytes
unfolding read_lost_event
lost_event_is bytes join =
    let ps = parts bytes in
    lost_fold ps 0 0 None []
    ∙ ap (λ (c : Option Int32Value). lost_event_of (int32 (last_or 0 (numbers 1 ps))) (last_or 0 (numbers 2 ps)) c (unknown lost_event_row ps)) (values_are (bodies 3 ps) join)

-- of lost events that are in several fields
pub lost_events_are : (bs : List (List ℕ)) → AllByRecursion LostJoins bs → merged lost_event_after no_lost_event None bs ≡ option_map read_lost_event (joined bs)
lost_events_are [] join = refl
lost_events_are (b ∷ bs) join =
    let each : AllByRecursion Joins (b ∷ bs) = all_weaker LostJoins Joins (λ x both. both.0) (b ∷ bs) join in
    let cpus : AllByRecursion Joins (bodies 3 (parts (b ++ flat_map (λ x. x) bs))) =
    subst (λ (ps : List Part). AllByRecursion Joins (bodies 3 ps)) (sym (parts_joined (b ∷ bs) each)) (cpus_joined (b ∷ bs) join) in
    merged_joined lost_event_after no_lost_event (b ∷ bs) each ∙ ap Some (lost_event_is (b ++ flat_map (λ x. x) bs) cpus)

-- of lost events with no fault
pub lost_read_is : (bytes : List ℕ) → AreBytes bytes → lost_event_fault bytes ≡ None → fold lost_event_after no_lost_event (parts bytes) ≡ read_lost_event bytes
lost_read_is bytes are none = lost_event_is bytes (bodies_are lost_event_check 3 bytes Joins cpu_joins (whole lost_event_check 0 bytes are none))
