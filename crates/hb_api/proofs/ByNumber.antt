-- Read one field after another, bytes with no fault are the request that they read as number by number.
use Rattle.std.proofs.Common.{◌≡◌, ℕ, Bool, true, false, eqb, ◌&&◌, ◌||◌, List, [], ◌∷◌, ◌++◌, Option, None, Some, refl, sym, ap, ◌∙◌, append_assoc, inl, inr}
use Rattle.std.specs.Option.{option_map}
use Rattle.std.specs.List.{fold}
use Rattle.std.proofs.lemmas.Bool.{cases_eq, ne_eqb}
use Rattle.std.proofs.lemmas.List.{append-nil}
use Rattle.hb_wire.specs.Varint.{AreBytes}
use Rattle.hb_wire.specs.Field.{Content, Varint, Fixed64, Body, Fixed32}
use Rattle.hb_time.specs.declared.stamp.Stamp.{Stamp}
use Rattle.hb_flow.specs.Fields.{Part, parts, numbers, bodies, last_or, joined, unknown}
use Rattle.hb_flow.specs.Faults.{stamp_check}
use Rattle.hb_flow.specs.Messages.{read_stamp}
use Rattle.hb_flow.specs.Steps.{no_stamp, stamp_after, stamp_merged}
use Rattle.hb_flow.proofs.Joining.{Joins, Sound, whole}
use Rattle.hb_flow.proofs.NotKnown.{part_of, no_body, no_number}
use Rattle.hb_flow.proofs.Merging.{merged, bodies_are}
use Rattle.hb_flow.proofs.ByNumber.{stamps_are}
use Rattle.hb_api.specs.declared.request.GetFlowsRequest.{GetFlowsRequest}
use Rattle.hb_api.specs.Faults.{request_check, request_fault}
use Rattle.hb_api.specs.Requests.{is_true, request_row, read_request}
use Rattle.hb_api.specs.Steps.{no_request, request_after}

abbrev pub request_of : ℕ → Bool → Bool → Option Stamp → Option Stamp → List ℕ → GetFlowsRequest
request_of number first follow since until kept = record { number = number; first = first; follow = follow; since = since; until = until; unknown = kept }

pub same_request : (number : ℕ) (first follow : Bool) (since until : Option Stamp) (kept : List ℕ) (r : GetFlowsRequest)
    → number ≡ r.number → first ≡ r.first → follow ≡ r.follow → since ≡ r.since → until ≡ r.until → kept ≡ r.unknown → request_of number first follow since until kept ≡ r
same_request number first follow since until kept r a b c d e f =
    ap (λ (x : ℕ). request_of x first follow since until kept) a ∙ ap (λ (x : Bool). request_of r.number x follow since until kept) b
    ∙ ap (λ (x : Bool). request_of r.number r.first x since until kept) c ∙ ap (λ (x : Option Stamp). request_of r.number r.first r.follow x until kept) d
    ∙ ap (λ (x : Option Stamp). request_of r.number r.first r.follow r.since x kept) e ∙ ap (λ (x : List ℕ). request_of r.number r.first r.follow r.since r.until x) f

-- what a row knows of numbers with another wire type
two_known : (a b : Bool) → (a && false || (b && false || false)) ≡ false
two_known true true = refl
two_known true false = refl
two_known false true = refl
two_known false false = refl

three_known : (a b c : Bool) → (a && false || (b && false || (c && false || false))) ≡ false
three_known true b c = two_known b c
three_known false b c = two_known b c

five_known : (a b c d e : Bool) → (a && false || (b && false || (c && false || (d && false || (e && false || false))))) ≡ false
five_known true true c d e = three_known c d e
five_known true false c d e = three_known c d e
five_known false true c d e = three_known c d e
five_known false false c d e = three_known c d e

-- a request keeps the last of each number, merges its moments, and keeps the bytes of what it does not know
abbrev RequestFold : List Part → Type 0
RequestFold ps = (n f w : ℕ) (s u : Option Stamp) (k : List ℕ) → fold request_after (request_of n (is_true f) (is_true w) s u k) ps
    ≡ request_of (last_or n (numbers 1 ps)) (is_true (last_or f (numbers 9 ps))) (is_true (last_or w (numbers 3 ps)))
    (merged stamp_after no_stamp s (bodies 7 ps)) (merged stamp_after no_stamp u (bodies 8 ps)) (k ++ unknown request_row ps)

-- with the bytes of one more
request_keeps : (raw : List ℕ) (ps : List Part) → RequestFold ps → (n f w : ℕ) (s u : Option Stamp) (k : List ℕ)
    → fold request_after (request_of n (is_true f) (is_true w) s u (k ++ raw)) ps
    ≡ request_of (last_or n (numbers 1 ps)) (is_true (last_or f (numbers 9 ps))) (is_true (last_or w (numbers 3 ps)))
    (merged stamp_after no_stamp s (bodies 7 ps)) (merged stamp_after no_stamp u (bodies 8 ps)) (k ++ (raw ++ unknown request_row ps))
request_keeps raw ps fold_rest n f w s u k =
    fold_rest n f w s u (k ++ raw)
    ∙ ap (request_of (last_or n (numbers 1 ps)) (is_true (last_or f (numbers 9 ps))) (is_true (last_or w (numbers 3 ps)))
    (merged stamp_after no_stamp s (bodies 7 ps)) (merged stamp_after no_stamp u (bodies 8 ps))) (append_assoc k raw (unknown request_row ps))

-- with one more field in front
request_step : (raw : List ℕ) (number : ℕ) (content : Content) (ps : List Part) → RequestFold ps → RequestFold (part_of raw number content ∷ ps)
request_step raw number (Varint value) ps fold_rest n f w s u k =
    elim (cases_eq number 1) [
      | inl e ↦ rw e (fold_rest value f w s u k)
      | inr ne ↦
          let not_1 : eqb number 1 ≡ false = ne_eqb number 1 ne in
          elim (cases_eq number 3) [
            | inl e ↦ rw e (fold_rest n f value s u k)
            | inr ne ↦
                let not_3 : eqb number 3 ≡ false = ne_eqb number 3 ne in
                elim (cases_eq number 9) [
                  | inl e ↦ rw e (fold_rest n value w s u k)
                  | inr ne ↦ let not_9 : eqb number 9 ≡ false = ne_eqb number 9 ne in
                      rw (not_1, not_3, not_9, no_body (eqb number 7), no_body (eqb number 8), two_known (eqb number 7) (eqb number 8)) (request_keeps raw ps fold_rest n f w s u k)
                ]
          ]
    ]
request_step raw number (Body body) ps fold_rest n f w s u k =
    elim (cases_eq number 7) [
      | inl e ↦ rw e (fold_rest n f w (Some (stamp_merged s body)) u k)
      | inr ne ↦
          let not_7 : eqb number 7 ≡ false = ne_eqb number 7 ne in
          elim (cases_eq number 8) [
            | inl e ↦ rw e (fold_rest n f w s (Some (stamp_merged u body)) k)
            | inr ne ↦ let not_8 : eqb number 8 ≡ false = ne_eqb number 8 ne in
                rw (not_7, not_8, no_number (eqb number 1), no_number (eqb number 3), no_number (eqb number 9), three_known (eqb number 1) (eqb number 3) (eqb number 9))
                (request_keeps raw ps fold_rest n f w s u k)
          ]
    ]
request_step raw number (Fixed64 value) ps fold_rest n f w s u k =
    rw (
      no_number (eqb number 1),
      no_number (eqb number 3),
      no_body (eqb number 7),
      no_body (eqb number 8),
      no_number (eqb number 9),
      five_known (eqb number 1) (eqb number 3) (eqb number 7) (eqb number 8) (eqb number 9),
    )
    (request_keeps raw ps fold_rest n f w s u k)
request_step raw number (Fixed32 value) ps fold_rest n f w s u k =
    rw (
      no_number (eqb number 1),
      no_number (eqb number 3),
      no_body (eqb number 7),
      no_body (eqb number 8),
      no_number (eqb number 9),
      five_known (eqb number 1) (eqb number 3) (eqb number 7) (eqb number 8) (eqb number 9),
    )
    (request_keeps raw ps fold_rest n f w s u k)

request_fold : (ps : List Part) → RequestFold ps
request_fold [] n f w s u k = ap (request_of n (is_true f) (is_true w) s u) (sym (append-nil k))
request_fold (p ∷ ps) n f w s u k = request_step p.raw p.field.number p.field.content ps (request_fold ps) n f w s u k

-- a moment's body with no fault joins
since_joins : (body : List ℕ) → Sound request_check 7 body → Joins body
unfolding request_check
since_joins body sound = (whole stamp_check sound.0 body sound.2 sound.1).joins

until_joins : (body : List ℕ) → Sound request_check 8 body → Joins body
unfolding request_check
until_joins body sound = (whole stamp_check sound.0 body sound.2 sound.1).joins

pub read_is : (bytes : List ℕ) → AreBytes bytes → request_fault bytes ≡ None → fold request_after no_request (parts bytes) ≡ read_request bytes
unfolding read_request
read_is bytes are none =
    let is = whole request_check 0 bytes are none in
    let ps = parts bytes in
    let number = last_or 0 (numbers 1 ps) in
    let first = is_true (last_or 0 (numbers 9 ps)) in
    let follow = is_true (last_or 0 (numbers 3 ps)) in
    let since = stamps_are (bodies 7 ps) (bodies_are request_check 7 bytes Joins since_joins is) in
    let until = stamps_are (bodies 8 ps) (bodies_are request_check 8 bytes Joins until_joins is) in
    request_fold ps 0 0 0 None None []
    ∙ ap (λ (s : Option Stamp). request_of number first follow s (merged stamp_after no_stamp None (bodies 8 ps)) (unknown request_row ps)) since
    ∙ ap (λ (u : Option Stamp). request_of number first follow (option_map read_stamp (joined (bodies 7 ps))) u (unknown request_row ps)) until
