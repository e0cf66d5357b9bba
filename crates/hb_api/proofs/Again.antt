-- What was written is read again.
use Rattle.std.proofs.Common.{◌≡◌, ℕ, zero, suc, ◌<◌, ◌^◌, Bool, true, false, eqb, List, [], ◌∷◌, ◌++◌, length, map, Option, Some, None, refl, sym, ap, subst, ◌∙◌, arith, length-append, inl, inr}
use Rattle.std.specs.Option.{option_map, option_to_list}
use Rattle.std.specs.List.{AllByRecursion}
use Rattle.std.proofs.lemmas.Bool.{cases_eq, ne_eqb}
use Rattle.hb_wire.specs.Field.{Content, Varint, Fixed64, Body, Fixed32, Piece, PieceFits, spelling}
use Rattle.hb_flow.specs.Fields.{Part, parts, numbers, bodies, last_or, joined, knows, unknown}
use Rattle.hb_flow.specs.Faults.{content_fault}
use Rattle.hb_flow.specs.Messages.{number_field, message_field, read_stamp, stamp_bytes}
use Rattle.hb_flow.proofs.Pieces.{all_append, canonical, parts_again, no_fault_again, NearlyFits, fits_within}
use Rattle.hb_flow.proofs.NotKnown.{NotKnown, Unfaulty, field_of, numbers_first, bodies_first, unknown_last}
use Rattle.hb_flow.proofs.MessagesAgain.{number_nearly, message_nearly, joined_one, clean_numbers, clean_message, clean_both, stamp_there, stamp_there_clean, all_apart}
use Rattle.hb_api.specs.declared.request.GetFlowsRequest.{GetFlowsRequest}
use Rattle.hb_api.specs.Faults.{request_check, request_fault}
use Rattle.hb_api.specs.Requests.{is_true, of_bool, request_row, read_request, request_bytes, RequestFits}
use Rattle.hb_api.proofs.ByNumber.{same_request}

-- ---- a bool

true_again : (b : Bool) → is_true (of_bool b) ≡ b
true_again true = refl
true_again false = refl

of_bool_fits : (b : Bool) → of_bool b < 2 ^ 64
of_bool_fits true = omega arith
of_bool_fits false = omega arith

-- ---- what is picked from fields that are spelled canonically

-- the numbers of a number's field
abbrev spelled_number : ℕ → List ℕ
spelled_number zero = []
spelled_number (suc n) = suc n ∷ []

last_spelled : (n : ℕ) → last_or 0 (spelled_number n) ≡ n
last_spelled zero = refl
last_spelled (suc n) = refl

joined_spelled : (body : Option (List ℕ)) → joined (option_to_list body) ≡ body
joined_spelled None = refl
joined_spelled (Some body) = joined_one body

-- these fields hold these values, and no others
record Picks (fields : List Piece) (number follow : ℕ) (since until : Option (List ℕ)) (first : ℕ) : Type 0 where
  number_is : numbers 1 (map canonical fields) ≡ spelled_number number
  follow_is : numbers 3 (map canonical fields) ≡ spelled_number follow
  since_is : bodies 7 (map canonical fields) ≡ option_to_list since
  until_is : bodies 8 (map canonical fields) ≡ option_to_list until
  first_is : numbers 9 (map canonical fields) ≡ spelled_number first
  all_known : unknown request_row (map canonical fields) ≡ []

picks_first : (first : ℕ) → Picks (number_field 9 first) 0 0 None None first
picks_first zero = record { number_is = refl; follow_is = refl; since_is = refl; until_is = refl; first_is = refl; all_known = refl }
picks_first (suc f) = record { number_is = refl; follow_is = refl; since_is = refl; until_is = refl; first_is = refl; all_known = refl }

-- with one more field in front
picks_until : (until : Option (List ℕ)) (first : ℕ) → Picks (message_field 8 until ++ number_field 9 first) 0 0 None until first
picks_until None first = picks_first first
picks_until (Some u) first = let p = picks_first first in
    record { number_is = p.number_is; follow_is = p.follow_is; since_is = p.since_is; until_is = ap (λ bs. u ∷ bs) p.until_is; first_is = p.first_is; all_known = p.all_known }

picks_since : (since until : Option (List ℕ)) (first : ℕ) → Picks (message_field 7 since ++ message_field 8 until ++ number_field 9 first) 0 0 since until first
picks_since None until first = picks_until until first
picks_since (Some s) until first = let p = picks_until until first in
    record { number_is = p.number_is; follow_is = p.follow_is; since_is = ap (λ bs. s ∷ bs) p.since_is; until_is = p.until_is; first_is = p.first_is; all_known = p.all_known }

picks_follow : (follow : ℕ) (since until : Option (List ℕ)) (first : ℕ)
    → Picks (number_field 3 follow ++ message_field 7 since ++ message_field 8 until ++ number_field 9 first) 0 follow since until first
picks_follow zero since until first = picks_since since until first
picks_follow (suc w) since until first = let p = picks_since since until first in
    record { number_is = p.number_is; follow_is = ap (λ ns. suc w ∷ ns) p.follow_is; since_is = p.since_is; until_is = p.until_is; first_is = p.first_is; all_known = p.all_known }

abbrev request_fields : ℕ → ℕ → Option (List ℕ) → Option (List ℕ) → ℕ → List Piece
request_fields number follow since until first = number_field 1 number ++ number_field 3 follow ++ message_field 7 since ++ message_field 8 until ++ number_field 9 first

picks_request : (number follow : ℕ) (since until : Option (List ℕ)) (first : ℕ) → Picks (request_fields number follow since until first) number follow since until first
picks_request zero follow since until first = picks_follow follow since until first
picks_request (suc n) follow since until first = let p = picks_follow follow since until first in
    record { number_is = ap (λ ns. suc n ∷ ns) p.number_is; follow_is = p.follow_is; since_is = p.since_is; until_is = p.until_is; first_is = p.first_is; all_known = p.all_known }

-- ---- what is not known is not checked

request_passes : (end number : ℕ) (content : Content) → knows request_row (field_of number content) ≡ false → content_fault request_check end (field_of number content) ≡ None
unfolding request_check
request_passes end number (Varint value) not = refl
request_passes end number (Fixed64 value) not = refl
request_passes end number (Fixed32 value) not = refl
request_passes end number (Body body) not =
    elim (cases_eq number 7) [
      | inl e ↦ absurd (let both = subst (λ (n : ℕ). knows request_row (field_of n (Body body)) ≡ false) e not in cc)
      | inr ne ↦
          let not_7 : eqb number 7 ≡ false = ne_eqb number 7 ne in
          elim (cases_eq number 8) [
            | inl e ↦ absurd (let both = subst (λ (n : ℕ). knows request_row (field_of n (Body body)) ≡ false) e not in cc)
            | inr ne ↦ let not_8 : eqb number 8 ≡ false = ne_eqb number 8 ne in rw (not_7, not_8) refl
          ]
    ]

request_unfaulty : (us : List Part) → NotKnown request_row us → Unfaulty request_check us
request_unfaulty [] not = tt
request_unfaulty (u ∷ us) not = (λ end. request_passes end u.field.number u.field.content not.0, request_unfaulty us not.1)

-- ---- a request

abbrev fields_of_request : GetFlowsRequest → List Piece
fields_of_request r = request_fields r.number (of_bool r.follow) (option_map stamp_bytes r.since) (option_map stamp_bytes r.until) (of_bool r.first)

-- each field fits
record FieldsFit (r : GetFlowsRequest) : Type 0 where
  whole : AllByRecursion PieceFits (fields_of_request r)
  since : AllByRecursion PieceFits (message_field 7 (option_map stamp_bytes r.since))
  until : AllByRecursion PieceFits (message_field 8 (option_map stamp_bytes r.until))

fields_fit : (r : GetFlowsRequest) → RequestFits r → length (request_bytes r) < 2 ^ 64 → FieldsFit r
unfolding request_bytes
fields_fit r fits short =
    let number = number_field 1 r.number in
    let follow = number_field 3 (of_bool r.follow) in
    let since = message_field 7 (option_map stamp_bytes r.since) in
    let until = message_field 8 (option_map stamp_bytes r.until) in
    let first = number_field 9 (of_bool r.first) in
    let near = all_append NearlyFits (number ++ follow ++ since ++ until) first
    (all_append NearlyFits (number ++ follow ++ since) until
    (all_append NearlyFits (number ++ follow) since
    (all_append NearlyFits number follow
    (number_nearly 1 r.number (omega arith) (omega arith) fits.number)
    (number_nearly 3 (of_bool r.follow) (omega arith) (omega arith) (of_bool_fits r.follow)))
    (message_nearly 7 (option_map stamp_bytes r.since) (omega arith) (omega arith)))
    (message_nearly 8 (option_map stamp_bytes r.until) (omega arith) (omega arith)))
    (number_nearly 9 (of_bool r.first) (omega arith) (omega arith) (of_bool_fits r.first)) in
    let all = fits_within (fields_of_request r) near (omega (arith, short, length-append (spelling (fields_of_request r)) r.unknown)) in
    let four = all_apart PieceFits (number ++ follow ++ since ++ until) first all in
    let three = all_apart PieceFits (number ++ follow ++ since) until four.0 in
    record { whole = all; since = (all_apart PieceFits (number ++ follow) since three.0).1; until = three.1 }

-- what is read of canonical fields and of others that are not known
number_again : (number value : ℕ) (fs : List Piece) (us ps : List Part) → ((n : ℕ) → knows request_row (field_of number (Varint n)) ≡ true) → NotKnown request_row us
    → ps ≡ map canonical fs ++ us → numbers number (map canonical fs) ≡ spelled_number value → last_or 0 (numbers number ps) ≡ value
number_again number value fs us ps known not are is =
    ap (λ (qs : List Part). last_or 0 (numbers number qs)) are ∙ ap (last_or 0) (numbers_first request_row number known (map canonical fs) us not ∙ is) ∙ last_spelled value

body_again : (number : ℕ) (body : Option (List ℕ)) (fs : List Piece) (us ps : List Part) → ((b : List ℕ) → knows request_row (field_of number (Body b)) ≡ true) → NotKnown request_row us
    → ps ≡ map canonical fs ++ us → bodies number (map canonical fs) ≡ option_to_list body → joined (bodies number ps) ≡ body
body_again number body fs us ps known not are is =
    ap (λ (qs : List Part). joined (bodies number qs)) are ∙ ap joined (bodies_first request_row number known (map canonical fs) us not ∙ is) ∙ joined_spelled body

pub request_again : (r : GetFlowsRequest) → RequestFits r → length (request_bytes r) < 2 ^ 64 → read_request (request_bytes r) ≡ r
unfolding read_request request_bytes
request_again r fits short =
    let fs = fields_of_request r in
    let us = fits.unknown.parts in
    let not = fits.unknown.not_known in
    let fit = fields_fit r fits short in
    let ps = parts (spelling fs ++ r.unknown) in
    let are : ps ≡ map canonical fs ++ us = parts_again request_row fs r.unknown fits.unknown fit.whole in
    let picks = picks_request r.number (of_bool r.follow) (option_map stamp_bytes r.since) (option_map stamp_bytes r.until) (of_bool r.first) in
    let number : last_or 0 (numbers 1 ps) ≡ r.number = number_again 1 r.number fs us ps (λ n. refl) not are picks.number_is in
    let follow : is_true (last_or 0 (numbers 3 ps)) ≡ r.follow = ap (λ (n : ℕ). is_true n) (number_again 3 (of_bool r.follow) fs us ps (λ n. refl) not are picks.follow_is) ∙ true_again r.follow in
    let since : option_map read_stamp (joined (bodies 7 ps)) ≡ r.since =
    ap (option_map read_stamp) (body_again 7 (option_map stamp_bytes r.since) fs us ps (λ b. refl) not are picks.since_is) ∙ stamp_there 7 r.since fits.since fit.since in
    let until : option_map read_stamp (joined (bodies 8 ps)) ≡ r.until =
    ap (option_map read_stamp) (body_again 8 (option_map stamp_bytes r.until) fs us ps (λ b. refl) not are picks.until_is) ∙ stamp_there 8 r.until fits.until fit.until in
    let first : is_true (last_or 0 (numbers 9 ps)) ≡ r.first = ap (λ (n : ℕ). is_true n) (number_again 9 (of_bool r.first) fs us ps (λ n. refl) not are picks.first_is) ∙ true_again r.first in
    let kept : unknown request_row ps ≡ r.unknown = ap (unknown request_row) are ∙ unknown_last request_row (map canonical fs) us picks.all_known not ∙ sym fits.unknown.whole in
    same_request (last_or 0 (numbers 1 ps)) (is_true (last_or 0 (numbers 9 ps))) (is_true (last_or 0 (numbers 3 ps)))
    (option_map read_stamp (joined (bodies 7 ps))) (option_map read_stamp (joined (bodies 8 ps)))
    (unknown request_row ps) r number first follow since until kept

pub request_clean : (r : GetFlowsRequest) → RequestFits r → length (request_bytes r) < 2 ^ 64 → request_fault (request_bytes r) ≡ None
unfolding request_bytes request_check
request_clean r fits short =
    let fit = fields_fit r fits short in
    let number = number_field 1 r.number in
    let follow = number_field 3 (of_bool r.follow) in
    let since = message_field 7 (option_map stamp_bytes r.since) in
    let until = message_field 8 (option_map stamp_bytes r.until) in
    let first = number_field 9 (of_bool r.first) in
    no_fault_again request_row (fields_of_request r) r.unknown fits.unknown fit.whole request_check 0
    (clean_both request_check (number ++ follow ++ since ++ until) first
    (clean_both request_check (number ++ follow ++ since) until
    (clean_both request_check (number ++ follow) since
    (clean_both request_check number follow
    (clean_numbers request_check 1 r.number)
    (clean_numbers request_check 3 (of_bool r.follow)))
    (clean_message request_check 7 (option_map stamp_bytes r.since) (stamp_there_clean 7 r.since fits.since fit.since)))
    (clean_message request_check 8 (option_map stamp_bytes r.until) (stamp_there_clean 8 r.until fits.until fit.until)))
    (clean_numbers request_check 9 (of_bool r.first)))
    (request_unfaulty fits.unknown.parts fits.unknown.not_known)
