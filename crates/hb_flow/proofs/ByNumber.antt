-- Read one field after another, moments and flows are what they read as number by number.
use Rattle.std.proofs.Common.{◌≡◌, ℕ, false, eqb, List, [], ◌∷◌, ◌++◌, Option, Some, None, refl, sym, ap, subst, ◌∙◌, append_assoc, arith, inl, inr}
use Rattle.std.specs.Option.{option_map}
use Rattle.std.specs.List.{AllByRecursion, fold, flat_map}
use Rattle.std.proofs.lemmas.Bool.{cases_eq, ne_eqb}
use Rattle.std.proofs.lemmas.List.{append-nil}
use Rattle.std.proofs.lemmas.List.Elements.{filter_map-append}
use Rattle.hb_wire.specs.Field.{Content, Varint, Fixed64, Body, Fixed32}
use Rattle.hb_flow.specs.Fields.{Part, parts, numbers, bodies, last_or, joined, unknown}
use Rattle.hb_flow.specs.Faults.{stamp_check, flow_check, response_check}
use Rattle.hb_flow.specs.Messages.{int64, int32, read_stamp, read_flow, flow_row}
use Rattle.hb_flow.specs.Steps.{no_stamp, no_flow, stamp_after, stamp_merged, flow_after}
use Rattle.hb_time.specs.declared.stamp.Stamp.{Stamp}
use Rattle.hb_flow.proofs.Joining.{Joins, Sound, whole, parts_joined}
use Rattle.hb_flow.proofs.Pieces.{all_append}
use Rattle.hb_flow.proofs.NotKnown.{part_of, no_body, no_number}
use Rattle.hb_flow.proofs.Merging.{merged, merged_joined, and_false, all_weaker, bodies_are}
use Rattle.hb_flow.proofs.Records.{stamp_of, flow_of}

-- ---- field after field, whatever was there: of each number what counts

-- a moment keeps the last number of each field
abbrev StampFold : List Part → Type 0
StampFold ps = (s n : ℕ) → fold stamp_after (stamp_of (int64 s) (int32 n)) ps ≡ stamp_of (int64 (last_or s (numbers 1 ps))) (int32 (last_or n (numbers 2 ps)))

-- with one more field in front
stamp_step : (raw : List ℕ) (number : ℕ) (content : Content) (ps : List Part) → StampFold ps → StampFold (part_of raw number content ∷ ps)
stamp_step raw number (Varint value) ps fold_rest s n = grind arith
stamp_step raw number (Fixed64 value) ps fold_rest s n = grind arith
stamp_step raw number (Body body) ps fold_rest s n = grind arith
stamp_step raw number (Fixed32 value) ps fold_rest s n = grind arith

stamp_fold : (ps : List Part) → StampFold ps
stamp_fold [] s n = refl
stamp_fold (p ∷ ps) s n = stamp_step p.raw p.field.number p.field.content ps (stamp_fold ps) s n

-- a flow merges its moments, keeps the last number and the last text, and the bytes of what it does not know
abbrev FlowFold : List Part → Type 0
FlowFold ps = (t : Option Stamp) (v : ℕ) (u k : List ℕ) → fold flow_after (flow_of t (int32 v) u k) ps
    ≡ flow_of (merged stamp_after no_stamp t (bodies 1 ps)) (int32 (last_or v (numbers 2 ps))) (last_or u (bodies 34 ps)) (k ++ unknown flow_row ps)

-- with the bytes of one more
flow_keeps : (raw : List ℕ) (ps : List Part) → FlowFold ps → (t : Option Stamp) (v : ℕ) (u k : List ℕ) → fold flow_after (flow_of t (int32 v) u (k ++ raw)) ps
    ≡ flow_of (merged stamp_after no_stamp t (bodies 1 ps)) (int32 (last_or v (numbers 2 ps))) (last_or u (bodies 34 ps)) (k ++ (raw ++ unknown flow_row ps))
flow_keeps raw ps fold_rest t v u k =
    fold_rest t v u (k ++ raw)
    ∙ ap (flow_of (merged stamp_after no_stamp t (bodies 1 ps)) (int32 (last_or v (numbers 2 ps))) (last_or u (bodies 34 ps))) (append_assoc k raw (unknown flow_row ps))

-- with one more field in front
flow_step : (raw : List ℕ) (number : ℕ) (content : Content) (ps : List Part) → FlowFold ps → FlowFold (part_of raw number content ∷ ps)
flow_step raw number (Varint value) ps fold_rest t v u k =
    elim (cases_eq number 2) [
      | inl e ↦ rw e (fold_rest t value u k)
      | inr ne ↦ let other : eqb number 2 ≡ false = ne_eqb number 2 ne in
          rw (other, no_body (eqb number 1), no_body (eqb number 34), and_false (eqb number 1), and_false (eqb number 34)) (flow_keeps raw ps fold_rest t v u k)
    ]
flow_step raw number (Fixed64 value) ps fold_rest t v u k =
    rw (no_body (eqb number 1), no_number (eqb number 2), no_body (eqb number 34), and_false (eqb number 1), and_false (eqb number 2), and_false (eqb number 34)) (flow_keeps raw ps fold_rest t v u k)
flow_step raw number (Body body) ps fold_rest t v u k =
    elim (cases_eq number 1) [
      | inl e ↦ rw e (fold_rest (Some (stamp_merged t body)) v u k)
      | inr ne ↦
          let not_1 : eqb number 1 ≡ false = ne_eqb number 1 ne in
          elim (cases_eq number 34) [
            | inl e ↦ rw e (fold_rest t v body k)
            | inr ne ↦ let not_34 : eqb number 34 ≡ false = ne_eqb number 34 ne in
                rw (not_1, not_34, no_number (eqb number 2), and_false (eqb number 2)) (flow_keeps raw ps fold_rest t v u k)
          ]
    ]
flow_step raw number (Fixed32 value) ps fold_rest t v u k =
    rw (no_body (eqb number 1), no_number (eqb number 2), no_body (eqb number 34), and_false (eqb number 1), and_false (eqb number 2), and_false (eqb number 34)) (flow_keeps raw ps fold_rest t v u k)

flow_fold : (ps : List Part) → FlowFold ps
flow_fold [] t v u k = ap (flow_of t (int32 v) u) (sym (append-nil k))
flow_fold (p ∷ ps) t v u k = flow_step p.raw p.field.number p.field.content ps (flow_fold ps) t v u k

-- ---- what joins

-- a moment in a flow
time_joins : (body : List ℕ) → Sound flow_check 1 body → Joins body
unfolding flow_check
time_joins body sound = (whole stamp_check sound.0 body sound.2 sound.1).joins

-- a flow's bytes, and the times in them
abbrev pub FlowJoins : List ℕ → Type 0
FlowJoins body = Joins body × AllByRecursion Joins (bodies 1 (parts body))

-- a flow in an answer
pub flow_joins : (body : List ℕ) → Sound response_check 1 body → FlowJoins body
unfolding response_check
flow_joins body sound = let is = whole flow_check sound.0 body sound.2 sound.1 in (is.joins, bodies_are flow_check 1 body Joins time_joins is)

-- the moments in all the flows
times_joined : (flows : List (List ℕ)) → AllByRecursion FlowJoins flows → AllByRecursion Joins (bodies 1 (flat_map parts flows))
times_joined [] join = tt
times_joined (flow ∷ flows) join =
    subst (AllByRecursion Joins) (sym (filter_map-append _ (parts flow) (flat_map parts flows))) (all_append Joins (bodies 1 (parts flow)) (bodies 1 (flat_map parts flows)) join.0.1 (times_joined flows join.1))

-- ---- what is read

-- of a moment, whatever its bytes
pub stamp_is : (bytes : List ℕ) → fold stamp_after no_stamp (parts bytes) ≡ read_stamp bytes
unfolding read_stamp
stamp_is bytes = stamp_fold (parts bytes) 0 0

-- of a moment that is in several fields
pub stamps_are : (bs : List (List ℕ)) → AllByRecursion Joins bs → merged stamp_after no_stamp None bs ≡ option_map read_stamp (joined bs)
stamps_are [] join = refl
stamps_are (b ∷ bs) join = merged_joined stamp_after no_stamp (b ∷ bs) join ∙ ap Some (stamp_is (b ++ flat_map (λ x. x) bs))

-- of a flow, where its moments join
pub flow_is : (bytes : List ℕ) → AllByRecursion Joins (bodies 1 (parts bytes)) → fold flow_after no_flow (parts bytes) ≡ read_flow bytes
unfolding read_flow
flow_is bytes join =
    flow_fold (parts bytes) None 0 [] []
    ∙ ap (λ (t : Option Stamp). flow_of t (int32 (last_or 0 (numbers 2 (parts bytes)))) (last_or [] (bodies 34 (parts bytes))) (unknown flow_row (parts bytes))) (stamps_are (bodies 1 (parts bytes)) join)

-- of a flow that is in several fields
pub flows_are : (bs : List (List ℕ)) → AllByRecursion FlowJoins bs → merged flow_after no_flow None bs ≡ option_map read_flow (joined bs)
flows_are [] join = refl
flows_are (b ∷ bs) join =
    let each : AllByRecursion Joins (b ∷ bs) = all_weaker FlowJoins Joins (λ x both. both.0) (b ∷ bs) join in
    let times : AllByRecursion Joins (bodies 1 (parts (b ++ flat_map (λ x. x) bs))) =
    subst (λ (ps : List Part). AllByRecursion Joins (bodies 1 ps)) (sym (parts_joined (b ∷ bs) each)) (times_joined (b ∷ bs) join) in
    merged_joined flow_after no_flow (b ∷ bs) each ∙ ap Some (flow_is (b ++ flat_map (λ x. x) bs) times)
