-- Read one field after another, an answer with no fault is what it reads as number by number.
use Rattle.std.proofs.Common.{◌≡◌, ℕ, false, eqb, List, [], ◌∷◌, ◌++◌, Option, Some, None, sym, ap, subst, ◌∙◌, append_assoc, inl, inr}
use Rattle.std.specs.List.{fold}
use Rattle.std.proofs.lemmas.Bool.{cases_eq, ne_eqb}
use Rattle.std.proofs.lemmas.List.{append-nil}
use Rattle.hb_wire.specs.Varint.{AreBytes}
use Rattle.hb_wire.specs.Field.{Content, Varint, Fixed64, Body, Fixed32}
use Rattle.hb_flow.specs.Fields.{Part, parts, bodies, members, last_or, unknown}
use Rattle.hb_flow.specs.Faults.{stamp_check, response_check, response_fault}
use Rattle.hb_flow.specs.Messages.{read_response, response_row}
use Rattle.hb_flow.specs.Steps.{no_stamp, no_response, stamp_after, stamp_merged, flow_next, status_next, lost_events_next, response_after}
use Rattle.hb_time.specs.declared.stamp.Stamp.{Stamp}
use Rattle.hb_flow.specs.declared.response_types.ResponseTypes.{ResponseTypes}
use Rattle.hb_flow.proofs.Joining.{Joins, Sound, whole}
use Rattle.hb_flow.proofs.NotKnown.{part_of, no_body, no_member}
use Rattle.hb_flow.proofs.Merging.{merged, and_false, all_weaker, bodies_are}
use Rattle.hb_flow.proofs.Runs.{MemberSound, members_sound}
use Rattle.hb_flow.proofs.ByNumber.{flow_joins, stamps_are}
use Rattle.hb_flow.proofs.LostEvents.{lost_joins}
use Rattle.hb_flow.proofs.Members.{held_after, held_is, MemberJoins}
use Rattle.hb_flow.proofs.Records.{response_of}

-- ---- field after field, whatever was there

-- an answer holds a member, keeps the last text, merges its moments, and keeps the bytes of what it does not know
abbrev ResponseFold : List Part → Type 0
ResponseFold ps = (h : Option ResponseTypes) (name : List ℕ) (t : Option Stamp) (k : List ℕ) → fold response_after (response_of h name t k) ps
    ≡ response_of (held_after h (members ps)) (last_or name (bodies 1000 ps)) (merged stamp_after no_stamp t (bodies 1001 ps)) (k ++ unknown response_row ps)

-- with the bytes of one more
response_keeps : (raw : List ℕ) (ps : List Part) → ResponseFold ps → (h : Option ResponseTypes) (name : List ℕ) (t : Option Stamp) (k : List ℕ)
    → fold response_after (response_of h name t (k ++ raw)) ps
    ≡ response_of (held_after h (members ps)) (last_or name (bodies 1000 ps)) (merged stamp_after no_stamp t (bodies 1001 ps)) (k ++ (raw ++ unknown response_row ps))
response_keeps raw ps fold_rest h name t k =
    fold_rest h name t (k ++ raw)
    ∙ ap (response_of (held_after h (members ps)) (last_or name (bodies 1000 ps)) (merged stamp_after no_stamp t (bodies 1001 ps))) (append_assoc k raw (unknown response_row ps))

-- with one more field in front that has a body
body_step : (raw : List ℕ) (number : ℕ) (body : List ℕ) (ps : List Part) → ResponseFold ps → ResponseFold (part_of raw number (Body body) ∷ ps)
body_step raw number body ps fold_rest h name t k =
    elim (cases_eq number 1) [
      | inl e ↦ rw e (fold_rest (Some (flow_next h body)) name t k)
      | inr ne ↦
          let not_1 : eqb number 1 ≡ false = ne_eqb number 1 ne in
          elim (cases_eq number 2) [
            | inl e ↦ rw e (fold_rest (Some (status_next h body)) name t k)
            | inr ne ↦
                let not_2 : eqb number 2 ≡ false = ne_eqb number 2 ne in
                elim (cases_eq number 3) [
                  | inl e ↦ rw e (fold_rest (Some (lost_events_next h body)) name t k)
                  | inr ne ↦
                      let not_3 : eqb number 3 ≡ false = ne_eqb number 3 ne in
                      elim (cases_eq number 1000) [
                        | inl e ↦ rw e (fold_rest h body t k)
                        | inr ne ↦
                            let not_1000 : eqb number 1000 ≡ false = ne_eqb number 1000 ne in
                            elim (cases_eq number 1001) [
                              | inl e ↦ rw e (fold_rest h name (Some (stamp_merged t body)) k)
                              | inr ne ↦ let not_1001 : eqb number 1001 ≡ false = ne_eqb number 1001 ne in
                                  rw (not_1, not_2, not_3, not_1000, not_1001) (response_keeps raw ps fold_rest h name t k)
                            ]
                      ]
                ]
          ]
    ]

response_step : (raw : List ℕ) (number : ℕ) (content : Content) (ps : List Part) → ResponseFold ps → ResponseFold (part_of raw number content ∷ ps)
response_step raw number (Varint value) ps fold_rest h name t k =
    rw (
      no_member (eqb number 1) (eqb number 2) (eqb number 3),
      no_body (eqb number 1000),
      no_body (eqb number 1001),
      and_false (eqb number 1),
      and_false (eqb number 2),
      and_false (eqb number 3),
      and_false (eqb number 1000),
      and_false (eqb number 1001),
    ) (response_keeps raw ps fold_rest h name t k)
response_step raw number (Fixed64 value) ps fold_rest h name t k =
    rw (
      no_member (eqb number 1) (eqb number 2) (eqb number 3),
      no_body (eqb number 1000),
      no_body (eqb number 1001),
      and_false (eqb number 1),
      and_false (eqb number 2),
      and_false (eqb number 3),
      and_false (eqb number 1000),
      and_false (eqb number 1001),
    ) (response_keeps raw ps fold_rest h name t k)
response_step raw number (Body body) ps fold_rest h name t k = body_step raw number body ps fold_rest h name t k
response_step raw number (Fixed32 value) ps fold_rest h name t k =
    rw (
      no_member (eqb number 1) (eqb number 2) (eqb number 3),
      no_body (eqb number 1000),
      no_body (eqb number 1001),
      and_false (eqb number 1),
      and_false (eqb number 2),
      and_false (eqb number 3),
      and_false (eqb number 1000),
      and_false (eqb number 1001),
    ) (response_keeps raw ps fold_rest h name t k)

response_fold : (ps : List Part) → ResponseFold ps
response_fold [] h name t k = ap (response_of h name t) (sym (append-nil k))
response_fold (p ∷ ps) h name t k = response_step p.raw p.field.number p.field.content ps (response_fold ps) h name t k

-- ---- what joins

-- a moment in an answer
node_time_joins : (body : List ℕ) → Sound response_check 1001 body → Joins body
unfolding response_check
node_time_joins body sound = (whole stamp_check sound.0 body sound.2 sound.1).joins

-- a member in an answer
member_joins : (m : ℕ × List ℕ) → MemberSound m.0 m.1 → MemberJoins m
member_joins m (inl at, sound) = inl (at, flow_joins m.1 (subst (λ (n : ℕ). Sound response_check n m.1) at sound))
member_joins m (inr (inl at), sound) = inr (inl at)
member_joins m (inr (inr at), sound) = inr (inr (at, lost_joins m.1 (subst (λ (n : ℕ). Sound response_check n m.1) at sound)))

-- ---- what is read

pub read_is : (bytes : List ℕ) → AreBytes bytes → response_fault bytes ≡ None → fold response_after no_response (parts bytes) ≡ read_response bytes
unfolding read_response
read_is bytes are none =
    let is = whole response_check 0 bytes are none in
    let ps = parts bytes in
    let held = held_is (members ps) (all_weaker (λ m. MemberSound m.0 m.1) MemberJoins member_joins (members ps) (members_sound ps is.sound)) in
    let time = stamps_are (bodies 1001 ps) (bodies_are response_check 1001 bytes Joins node_time_joins is) in
    response_fold ps None [] None []
    ∙ ap (λ (h : Option ResponseTypes). response_of h (last_or [] (bodies 1000 ps)) (merged stamp_after no_stamp None (bodies 1001 ps)) (unknown response_row ps)) held
    ∙ ap (λ (t : Option Stamp). response_of (read_response bytes).response_types (last_or [] (bodies 1000 ps)) t (unknown response_row ps)) time
