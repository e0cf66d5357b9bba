-- What was written is read again: an answer, and the record of an event, from their spellings.
use Rattle.std.proofs.Common.{◌≡◌, ℕ, ◌<◌, ◌^◌, List, [], ◌∷◌, ◌++◌, length, map, Option, Some, None, true, refl, sym, ap, subst, ◌∙◌, arith, length-append}
use Rattle.std.specs.Prelude.{IfSome}
use Rattle.std.specs.Option.{option_map}
use Rattle.std.specs.List.{AllByRecursion, filter_map}
use Rattle.std.proofs.lemmas.List.{append-nil, map-append}
use Rattle.std.proofs.lemmas.Str.{IsUtf8-nil}
use Rattle.hb_wire.specs.Field.{Piece, Body, PieceFits, spelling}
use Rattle.hb_flow.specs.Fields.{Part, parts, bodies, member_bodies, last_run, last_or, joined, knows, unknown}
use Rattle.hb_flow.specs.Faults.{response_check, response_fault}
use Rattle.hb_flow.specs.Messages.{text_field, message_field, member_field, member_number, member_bytes, read_stamp, read_flow, read_member, read_response, stamp_bytes, flow_bytes, lost_event_bytes, response_bytes, record_bytes, event_in, event_response, MemberFits, ResponseFits, EventFits, response_row}
use Rattle.hb_flow.specs.declared.flow.Flow.{Flow}
use Rattle.hb_flow.specs.declared.lost_event.LostEvent.{LostEvent}
use Rattle.hb_flow.specs.declared.response_types.ResponseTypes.{ResponseTypes}
use Rattle.hb_flow.specs.declared.response_types.ResponseTypes.TheVariants as member
use Rattle.hb_flow.specs.declared.response.GetFlowsResponse.{GetFlowsResponse}
use Rattle.hb_flow.specs.declared.event.Event.{Event}
use Rattle.hb_flow.specs.declared.event.Event.TheVariants as event
use Rattle.hb_flow.proofs.Pieces.{all_append, canonical, parts_again, no_fault_again, NearlyFits, fits_within}
use Rattle.hb_flow.proofs.NotKnown.{Unfaulty, field_of, picked_last, members_first, bodies_first, unknown_last, response_unfaulty}
use Rattle.hb_flow.proofs.Joining.{spelled_divide}
use Rattle.hb_flow.proofs.Members.{read_run}
use Rattle.hb_flow.proofs.Records.{same_response}
use Rattle.hb_flow.proofs.Texts.{no_text_fault}
use Rattle.hb_flow.proofs.MessagesAgain.{text_nearly, message_nearly, joined_one, clean_text, clean_message, clean_both, body_short, stamp_there, stamp_there_clean, all_apart, flow_again, flow_clean, lost_event_again, lost_event_clean}
pub use Rattle.hb_flow.proofs.MessagesAgain.{nothing_kept}

-- ---- what is picked from fields that are spelled canonically

abbrev response_fields : Option ResponseTypes → List ℕ → Option (List ℕ) → List Piece
response_fields held name time = member_field held ++ text_field 1000 name ++ message_field 1001 time

-- a member that is held is one run of one body
abbrev held_run : Option ResponseTypes → Option (ℕ × List (List ℕ))
held_run held = option_map (λ m. (member_number m, member_bytes m ∷ [])) held

record PicksResponse (held : Option ResponseTypes) (name : List ℕ) (time : Option (List ℕ)) : Type 0 where
  run_is : member_bodies (map canonical (response_fields held name time)) ≡ held_run held
  name_is : last_or [] (bodies 1000 (map canonical (response_fields held name time))) ≡ name
  time_is : joined (bodies 1001 (map canonical (response_fields held name time))) ≡ time
  all_known : unknown response_row (map canonical (response_fields held name time)) ≡ []

picks_response : (held : Option ResponseTypes) (name : List ℕ) (time : Option (List ℕ)) → PicksResponse held name time
picks_response None [] None = record { run_is = refl; name_is = refl; time_is = refl; all_known = refl }
picks_response None [] (Some t) = record { run_is = refl; name_is = refl; time_is = joined_one t; all_known = refl }
picks_response None (b ∷ name) None = record { run_is = refl; name_is = refl; time_is = refl; all_known = refl }
picks_response None (b ∷ name) (Some t) = record { run_is = refl; name_is = refl; time_is = joined_one t; all_known = refl }
picks_response (Some (member.Flow f)) [] None = record { run_is = refl; name_is = refl; time_is = refl; all_known = refl }
picks_response (Some (member.Flow f)) [] (Some t) = record { run_is = refl; name_is = refl; time_is = joined_one t; all_known = refl }
picks_response (Some (member.Flow f)) (b ∷ name) None = record { run_is = refl; name_is = refl; time_is = refl; all_known = refl }
picks_response (Some (member.Flow f)) (b ∷ name) (Some t) = record { run_is = refl; name_is = refl; time_is = joined_one t; all_known = refl }
picks_response (Some (member.NodeStatus status)) [] None = record { run_is = refl; name_is = refl; time_is = refl; all_known = refl }
picks_response (Some (member.NodeStatus status)) [] (Some t) = record { run_is = refl; name_is = refl; time_is = joined_one t; all_known = refl }
picks_response (Some (member.NodeStatus status)) (b ∷ name) None = record { run_is = refl; name_is = refl; time_is = refl; all_known = refl }
picks_response (Some (member.NodeStatus status)) (b ∷ name) (Some t) = record { run_is = refl; name_is = refl; time_is = joined_one t; all_known = refl }
picks_response (Some (member.LostEvents e)) [] None = record { run_is = refl; name_is = refl; time_is = refl; all_known = refl }
picks_response (Some (member.LostEvents e)) [] (Some t) = record { run_is = refl; name_is = refl; time_is = joined_one t; all_known = refl }
picks_response (Some (member.LostEvents e)) (b ∷ name) None = record { run_is = refl; name_is = refl; time_is = refl; all_known = refl }
picks_response (Some (member.LostEvents e)) (b ∷ name) (Some t) = record { run_is = refl; name_is = refl; time_is = joined_one t; all_known = refl }

-- ---- the member that is held

member_fits : (held : Option ResponseTypes) → AllByRecursion NearlyFits (member_field held)
member_fits None = tt
member_fits (Some (member.Flow f)) = message_nearly 1 (Some (flow_bytes f)) (omega arith) (omega arith)
member_fits (Some (member.NodeStatus status)) = message_nearly 2 (Some status) (omega arith) (omega arith)
member_fits (Some (member.LostEvents e)) = message_nearly 3 (Some (lost_event_bytes e)) (omega arith) (omega arith)

member_there : (held : Option ResponseTypes) → IfSome held MemberFits → AllByRecursion PieceFits (member_field held) → option_map read_run (held_run held) ≡ held
member_there None fits near = refl
member_there (Some (member.Flow f)) fits near =
    ap (λ (bs : List ℕ). Some (member.Flow (read_flow bs))) (append-nil (flow_bytes f)) ∙ ap (λ (x : Flow). Some (member.Flow x)) (flow_again f fits (body_short 1 (flow_bytes f) near))
member_there (Some (member.NodeStatus status)) fits near = ap (λ (bs : List ℕ). Some (member.NodeStatus bs)) (append-nil status)
member_there (Some (member.LostEvents e)) fits near =
    ap (λ (bs : List ℕ). Some (read_member 3 bs)) (append-nil (lost_event_bytes e)) ∙ ap (λ (x : LostEvent). Some (member.LostEvents x)) (lost_event_again e fits (body_short 3 (lost_event_bytes e) near))

member_clean : (held : Option ResponseTypes) → IfSome held MemberFits → AllByRecursion PieceFits (member_field held) → Unfaulty response_check (map canonical (member_field held))
unfolding response_check
member_clean None fits near = tt
member_clean (Some (member.Flow f)) fits near = clean_message response_check 1 (Some (flow_bytes f)) (λ place. flow_clean f place fits (body_short 1 (flow_bytes f) near))
member_clean (Some (member.NodeStatus status)) fits near = clean_message response_check 2 (Some status) (λ place. refl)
member_clean (Some (member.LostEvents e)) fits near = clean_message response_check 3 (Some (lost_event_bytes e)) (λ place. lost_event_clean e place fits (body_short 3 (lost_event_bytes e) near))

-- ---- an answer

abbrev fields_of_response : GetFlowsResponse → List Piece
fields_of_response r = response_fields r.response_types r.node_name (option_map stamp_bytes r.time)

response_fields_fit : (r : GetFlowsResponse) → ResponseFits r → length (response_bytes r) < 2 ^ 64 → AllByRecursion PieceFits (fields_of_response r)
unfolding response_bytes
response_fields_fit r fits short = fits_within _ (all_append NearlyFits (member_field r.response_types ++ text_field 1000 r.node_name) (message_field 1001 (option_map stamp_bytes r.time))
    (all_append NearlyFits (member_field r.response_types) (text_field 1000 r.node_name)
    (member_fits r.response_types)
    (text_nearly 1000 r.node_name (omega arith) (omega arith)))
    (message_nearly 1001 (option_map stamp_bytes r.time) (omega arith) (omega arith))) (omega (arith, short, length-append (spelling (fields_of_response r)) r.unknown))

pub response_again : (r : GetFlowsResponse) → ResponseFits r → length (response_bytes r) < 2 ^ 64 → read_response (response_bytes r) ≡ r
unfolding read_response response_bytes
response_again r fits short =
    let fs = fields_of_response r in
    let us = fits.unknown.parts in
    let not = fits.unknown.not_known in
    let fit = response_fields_fit r fits short in
    let ps = parts (spelling fs ++ r.unknown) in
    let are : ps ≡ map canonical fs ++ us = parts_again response_row fs r.unknown fits.unknown fit in
    let picks = picks_response r.response_types r.node_name (option_map stamp_bytes r.time) in
    let front = all_apart PieceFits (member_field r.response_types ++ text_field 1000 r.node_name) (message_field 1001 (option_map stamp_bytes r.time)) fit in
    let first = all_apart PieceFits (member_field r.response_types) (text_field 1000 r.node_name) front.0 in
    let held : option_map read_run (member_bodies ps) ≡ r.response_types =
    ap (λ (qs : List Part). option_map read_run (member_bodies qs)) are
    ∙ ap (λ (ms : List (ℕ × List ℕ)). option_map read_run (last_run ms)) (members_first (map canonical fs) us not)
    ∙ ap (option_map read_run) picks.run_is ∙ member_there r.response_types fits.response_types first.0 in
    let name : last_or [] (bodies 1000 ps) ≡ r.node_name =
    ap (λ (qs : List Part). last_or [] (bodies 1000 qs)) are ∙ ap (last_or []) (bodies_first response_row 1000 (λ body. refl) (map canonical fs) us not) ∙ picks.name_is in
    let time : option_map read_stamp (joined (bodies 1001 ps)) ≡ r.time =
    ap (λ (qs : List Part). option_map read_stamp (joined (bodies 1001 qs))) are
    ∙ ap (λ (bs : List (List ℕ)). option_map read_stamp (joined bs)) (bodies_first response_row 1001 (λ body. refl) (map canonical fs) us not)
    ∙ ap (option_map read_stamp) picks.time_is ∙ stamp_there 1001 r.time fits.time front.1 in
    let kept : unknown response_row ps ≡ r.unknown = ap (unknown response_row) are ∙ unknown_last response_row (map canonical fs) us picks.all_known not ∙ sym fits.unknown.whole in
    same_response (option_map read_run (member_bodies ps)) (last_or [] (bodies 1000 ps)) (option_map read_stamp (joined (bodies 1001 ps))) (unknown response_row ps) r held name time kept

pub response_clean : (r : GetFlowsResponse) → ResponseFits r → length (response_bytes r) < 2 ^ 64 → response_fault (response_bytes r) ≡ None
unfolding response_bytes response_check
response_clean r fits short =
    let fit = response_fields_fit r fits short in
    let held = member_field r.response_types in
    let name = text_field 1000 r.node_name in
    let time = message_field 1001 (option_map stamp_bytes r.time) in
    let front = all_apart PieceFits (held ++ name) time fit in
    let first = all_apart PieceFits held name front.0 in
    no_fault_again response_row (fields_of_response r) r.unknown fits.unknown fit response_check 0
    (clean_both response_check (held ++ name) time
    (clean_both response_check held name
    (member_clean r.response_types fits.response_types first.0)
    (clean_text response_check 1000 r.node_name (λ place. no_text_fault place r.node_name fits.node_name)))
    (clean_message response_check 1001 (option_map stamp_bytes r.time) (stamp_there_clean 1001 r.time fits.time front.1)))
    (response_unfaulty fits.unknown.parts fits.unknown.not_known)

-- ---- what is picked from the fields of an answer that are not known, from its bytes

abbrev AllKnown : List Piece → Type 0
AllKnown fs = AllByRecursion (λ (p : Part). knows response_row p.field ≡ true) (map canonical fs)

known_message : (number : ℕ) (body : Option (List ℕ)) → ((b : List ℕ) → knows response_row (field_of number (Body b)) ≡ true) → AllKnown (message_field number body)
known_message number None known = tt
known_message number (Some b) known = (known b, tt)

known_text : (number : ℕ) (text : List ℕ) → ((b : List ℕ) → knows response_row (field_of number (Body b)) ≡ true) → AllKnown (text_field number text)
known_text number [] known = tt
known_text number (b ∷ text) known = (known (b ∷ text), tt)

known_both : (xs ys : List Piece) → AllKnown xs → AllKnown ys → AllKnown (xs ++ ys)
known_both xs ys p q = subst (AllByRecursion (λ (p : Part). knows response_row p.field ≡ true)) (sym (map-append canonical xs ys)) (all_append _ (map canonical xs) (map canonical ys) p q)

known_member : (held : Option ResponseTypes) → AllKnown (member_field held)
known_member None = tt
known_member (Some (member.Flow f)) = (refl, tt)
known_member (Some (member.NodeStatus status)) = (refl, tt)
known_member (Some (member.LostEvents e)) = (refl, tt)

all_known : (r : GetFlowsResponse) → AllKnown (fields_of_response r)
all_known r =
    let held = member_field r.response_types in
    let name = text_field 1000 r.node_name in
    let time = message_field 1001 (option_map stamp_bytes r.time) in
    known_both (held ++ name) time (known_both held name (known_member r.response_types) (known_text 1000 r.node_name (λ b. refl)))
    (known_message 1001 (option_map stamp_bytes r.time) (λ b. refl))

pub picked_again : {A : Type 0} (pick : Part → Option A) (r : GetFlowsResponse) → ((p : Part) → knows response_row p.field ≡ true → pick p ≡ None) → ResponseFits r
    → length (response_bytes r) < 2 ^ 64 → filter_map pick (parts (response_bytes r)) ≡ filter_map pick (parts r.unknown)
unfolding response_bytes
picked_again pick r none fits short =
    let us = fits.unknown.parts in
    ap (filter_map pick) (parts_again response_row (fields_of_response r) r.unknown fits.unknown (response_fields_fit r fits short))
    ∙ picked_last pick response_row none (map canonical (fields_of_response r)) us (all_known r)
    ∙ ap (filter_map pick) (sym (ap parts fits.unknown.whole ∙ spelled_divide us fits.unknown.spelled))

-- ---- the record of an event

-- the answer that holds an event alone fits, and holds the event
pub event_fits : (e : Event) → EventFits e → ResponseFits (event_response e)
event_fits (event.Flow f) fits = record { response_types = fits; node_name = IsUtf8-nil; time = tt; unknown = nothing_kept response_row }
event_fits (event.Lost l) fits = record { response_types = fits.event; node_name = IsUtf8-nil; time = fits.time; unknown = nothing_kept response_row }

pub event_held : (e : Event) → event_in (event_response e) ≡ Some e
event_held (event.Flow f) = refl
event_held (event.Lost l) = refl

pub record_clean : (e : Event) → EventFits e → length (record_bytes e) < 2 ^ 64 → response_fault (record_bytes e) ≡ None
unfolding record_bytes
record_clean e fits short = response_clean (event_response e) (event_fits e fits) short

pub record_again : (e : Event) → EventFits e → length (record_bytes e) < 2 ^ 64 → event_in (read_response (record_bytes e)) ≡ Some e
unfolding record_bytes
record_again e fits short = ap event_in (response_again (event_response e) (event_fits e fits) short) ∙ event_held e
