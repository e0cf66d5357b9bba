-- A response is little longer than the record whose event it gives: what can be long in an event are parts of the record's bytes.
use Rattle.std.proofs.Common.{◌≡◌, ℕ, zero, suc, ◌+◌, ◌≤◌, Bool, true, false, cond, eqb, ◌||◌, List, [], ◌∷◌, ◌++◌, length, drop, map, Option, Some, None, refl, sym, subst, arith, inl, inr}
use Rattle.std.specs.Prelude.{IfSome, ◌==◌}
use Rattle.std.specs.Option.{option_map}
use Rattle.std.specs.List.{AllByRecursion, flat_map, list_all, cons_option}
use Rattle.std.proofs.lemmas.Bool.{cases_eq, ne_eqb}
use Rattle.std.proofs.lemmas.List.{length-append, length-take, length-drop}
use Rattle.hb_wire.specs.Field.{Content, Varint, Fixed64, Body, Fixed32, LiesAt}
use Rattle.hb_wire.proofs.FieldLemmas.{field_front}
use Rattle.hb_flow.specs.Fields.{Part, parts_of, parts, bodies, last_or, members, last_run, member_bodies, Row, knows, unknown}
use Rattle.hb_flow.specs.Messages.{flow_row, lost_event_row, read_flow, read_lost_event, read_member, read_response, member_event, event_in}
use Rattle.hb_flow.specs.Faults.{response_fault}
use Rattle.hb_schema.specs.declared.fault.DecodeFault.{DecodeFault}
use Rattle.hb_time.specs.declared.stamp.Stamp.{Stamp}
use Rattle.hb_flow.specs.declared.response_types.ResponseTypes.TheVariants as member
use Rattle.hb_flow.specs.declared.event.Event.{Event}
use Rattle.hb_flow.specs.declared.event.Event.TheVariants as event
use Rattle.hb_flow.proofs.Joining.{Found, Nothing, read_as}
use Rattle.hb_flow.proofs.NotKnown.{part_of, no_body, no_member}
use Rattle.hb_session.specs.Events.{sound_event, event_of_record, lost_event}
use Rattle.hb_session.specs.Replies.{FitsFrame, response_for}
use Rattle.hb_flow.proofs.Sizes.{response_length}

-- ---- the fields of bytes are no longer than these

-- how many bytes a body has; what is no body has none
abbrev body_size : Content → ℕ
body_size (Varint value) = 0
body_size (Fixed64 value) = 0
body_size (Body body) = length body
body_size (Fixed32 value) = 0

-- each body is a part of its field's bytes
abbrev AreWithin : List Part → Type 0
AreWithin = AllByRecursion (λ p. body_size p.field.content ≤ length p.raw)

-- the bytes of fields, counted
abbrev total : List Part → ℕ
total [] = 0
total (p ∷ ps) = length p.raw + total ps

lies_within : (bytes : List ℕ) (n : ℕ) (content : Content) → LiesAt bytes n content → body_size content ≤ n
lies_within bytes n (Varint value) lies = omega arith
lies_within bytes n (Fixed64 value) lies = omega arith
lies_within bytes n (Body body) lies = lies.0
lies_within bytes n (Fixed32 value) lies = omega arith

-- the fields that bytes divide into have no more bytes than these, and each has its body
divided : (most : ℕ) (bytes : List ℕ) → (total (parts_of most bytes) ≤ length bytes) × AreWithin (parts_of most bytes)
unfolding parts_of
divided zero bytes = (omega arith, tt)
divided (suc most) bytes =
    elim (read_as bytes _ refl) [
      | Found p n e ↦
          let front = field_front bytes p n e in
          let within = front.within in
          let rest = divided most (drop n bytes) in
          let size = length-take n bytes in
          let inside = lies_within bytes n p.content front.lies in
          rw e (omega (arith, rest.0, size, length-drop n bytes), (omega (arith, inside, size), rest.1))
      | Nothing e ↦ rw e (omega arith, tt)
    ]

-- ---- what is picked from fields is no longer than they are

kept_length : (known : Bool) (raw : List ℕ) → length (cond known [] raw) ≤ length raw
kept_length true raw = omega arith
kept_length false raw = omega arith

-- what is kept of fields that are not known
unknown_length : (row : Row) (ps : List Part) → length (unknown row ps) ≤ total ps
unknown_length row [] = omega arith
unknown_length row (p ∷ ps) =
    let known : Bool = knows row p.field in
    omega (arith, length-append (cond known [] p.raw) (unknown row ps), kept_length known p.raw, unknown_length row ps)

-- a flow's text and the bytes that it keeps are of other fields
abbrev FlowWithin : List Part → Type 0
FlowWithin ps = (text : List ℕ) → length (last_or text (bodies 34 ps)) + length (unknown flow_row ps) ≤ length text + total ps

-- with the bytes of one more
flow_keeps : (known : Bool) (raw text : List ℕ) (ps : List Part) → FlowWithin ps
    → length (last_or text (bodies 34 ps)) + length (cond known [] raw ++ unknown flow_row ps) ≤ length text + (length raw + total ps)
flow_keeps known raw text ps rest = omega (arith, length-append (cond known [] raw) (unknown flow_row ps), kept_length known raw, rest text)

-- with one more in front
flow_step : (raw : List ℕ) (number : ℕ) (content : Content) (ps : List Part) → body_size content ≤ length raw → FlowWithin ps → FlowWithin (part_of raw number content ∷ ps)
flow_step raw number (Varint value) ps within rest text = rw (no_body (eqb number 34)) (flow_keeps _ raw text ps rest)
flow_step raw number (Fixed64 value) ps within rest text = rw (no_body (eqb number 34)) (flow_keeps _ raw text ps rest)
flow_step raw number (Fixed32 value) ps within rest text = rw (no_body (eqb number 34)) (flow_keeps _ raw text ps rest)
flow_step raw number (Body body) ps within rest text =
    elim (cases_eq number 34) [
      | inl e ↦ rw e (omega (arith, within, rest body))
      | inr ne ↦
          let other : eqb number 34 ≡ false = ne_eqb number 34 ne in
          rw other (flow_keeps _ raw text ps rest)
    ]

flow_within : (ps : List Part) → AreWithin ps → FlowWithin ps
flow_within [] within text = omega arith
flow_within (p ∷ ps) within text = flow_step p.raw p.field.number p.field.content ps within.0 (flow_within ps within.1) text

-- ---- the members of a response

-- the bodies of occurrences, counted
abbrev sizes : List (ℕ × List ℕ) → ℕ
sizes [] = 0
sizes (m ∷ ms) = length m.1 + sizes ms

-- one more, if it is a member
picked : (is_member : Bool) (m : ℕ × List ℕ) (ms : List (ℕ × List ℕ)) (here others : ℕ) → length m.1 ≤ here → sizes ms ≤ others → sizes (cons_option (cond is_member (Some m) None) ms) ≤ here + others
picked true m ms here others within rest = omega (arith, within, rest)
picked false m ms here others within rest = omega (arith, within, rest)

-- with one more in front
member_step : (raw : List ℕ) (number : ℕ) (content : Content) (ps : List Part) → body_size content ≤ length raw → sizes (members ps) ≤ total ps
    → sizes (members (part_of raw number content ∷ ps)) ≤ length raw + total ps
member_step raw number (Varint value) ps within rest = rw (no_member (eqb number 1) (eqb number 2) (eqb number 3)) (omega (arith, rest))
member_step raw number (Fixed64 value) ps within rest = rw (no_member (eqb number 1) (eqb number 2) (eqb number 3)) (omega (arith, rest))
member_step raw number (Fixed32 value) ps within rest = rw (no_member (eqb number 1) (eqb number 2) (eqb number 3)) (omega (arith, rest))
member_step raw number (Body body) ps within rest = picked (eqb number 1 || eqb number 2 || eqb number 3) (number, body) (members ps) (length raw) (total ps) within rest

members_within : (ps : List Part) → AreWithin ps → sizes (members ps) ≤ total ps
members_within [] within = omega arith
members_within (p ∷ ps) within = member_step p.raw p.field.number p.field.content ps within.0 (members_within ps within.1)

bodies_size : (ms : List (ℕ × List ℕ)) → length (flat_map (λ (b : List ℕ). b) (map (λ m. m.1) ms)) ≡ sizes ms
bodies_size [] = refl
bodies_size (m ∷ ms) = omega (arith, length-append m.1 (flat_map (λ (b : List ℕ). b) (map (λ m. m.1) ms)), bodies_size ms)

-- the bodies of the last run are no longer than those of all
abbrev RunWithin : ℕ → Option (ℕ × List (List ℕ)) → Type 0
RunWithin most run = IfSome run (λ r. length (flat_map (λ (b : List ℕ). b) r.1) ≤ most)

run_by : (m : ℕ × List ℕ) (ms : List (ℕ × List ℕ)) (most : ℕ) (alike : Bool) → sizes (m ∷ ms) ≤ most → RunWithin most (last_run ms)
    → RunWithin most (cond alike (Some (m.0, map (λ x. x.1) (m ∷ ms))) (last_run ms))
run_by m ms most true within rest = omega (arith, bodies_size (m ∷ ms), within)
run_by m ms most false within rest = rest

run_within : (ms : List (ℕ × List ℕ)) (most : ℕ) → sizes ms ≤ most → RunWithin most (last_run ms)
run_within [] most within = tt
run_within (m ∷ ms) most within = run_by m ms most (list_all (λ x. x.0 == m.0) ms) within (run_within ms most (omega (arith, within)))

-- ---- the event of a record

-- what can be long in an event
abbrev pub open_size : Event → ℕ
open_size (event.Flow f) = length f.uuid + length f.unknown
open_size (event.Lost l) = length l.event.unknown

-- of a flow and of lost events it is no longer than their bytes
flow_size : (bytes : List ℕ) → length (read_flow bytes).uuid + length (read_flow bytes).unknown ≤ length bytes
unfolding read_flow
flow_size bytes =
    let is = divided (length bytes) bytes in
    let within = flow_within (parts bytes) is.1 [] in
    omega (arith, is.0, within)

lost_size : (bytes : List ℕ) → length (read_lost_event bytes).unknown ≤ length bytes
unfolding read_lost_event
lost_size bytes =
    let is = divided (length bytes) bytes in
    let kept = unknown_length lost_event_row (parts bytes) in
    omega (arith, is.0, kept)

member_by : (flow status : Bool) (body : List ℕ) (time : Option Stamp) (most : ℕ) → length body ≤ most
    → IfSome (member_event (Some (cond flow (member.Flow (read_flow body)) (cond status (member.NodeStatus body) (member.LostEvents (read_lost_event body))))) time) (λ e. open_size e ≤ most)
member_by true status body time most within = omega (arith, flow_size body, within)
member_by false true body time most within = tt
member_by false false body time most within = omega (arith, lost_size body, within)

held_by : (run : Option (ℕ × List (List ℕ))) (time : Option Stamp) (most : ℕ) → RunWithin most run
    → IfSome (member_event (option_map (λ m. read_member m.0 (flat_map (λ b. b) m.1)) run) time) (λ e. open_size e ≤ most)
held_by None time most within = tt
held_by (Some m) time most within = member_by (m.0 == 1) (m.0 == 2) (flat_map (λ b. b) m.1) time most within

-- and so of what bytes hold
read_size : (bytes : List ℕ) → IfSome (event_in (read_response bytes)) (λ e. open_size e ≤ length bytes)
unfolding read_response
read_size bytes =
    let is = divided (length bytes) bytes in
    let within = members_within (parts bytes) is.1 in
    held_by (member_bodies (parts bytes)) (read_response bytes).time (length bytes) (run_within (members (parts bytes)) (length bytes) (omega (arith, is.0, within)))

sound_size : (fault : Option DecodeFault) (bytes : List ℕ) → IfSome (sound_event fault bytes) (λ e. open_size e ≤ length bytes)
sound_size None bytes = read_size bytes
sound_size (Some fault) bytes = tt

-- ---- its response

-- it fits a frame where its event and its name are short
response_size : (name : List ℕ) (e : Event) → 200 + open_size e + length name ≤ 65536 → FitsFrame name e
response_size name (event.Flow f) short = omega (arith, response_length (response_for name (event.Flow f)), short)
response_size name (event.Lost l) short = omega (arith, response_length (response_for name (event.Lost l)), short)

fits_some : (name : List ℕ) (most : ℕ) (e : Option Event) → 200 + most + length name ≤ 65536 → IfSome e (λ x. open_size x ≤ most) → IfSome e (FitsFrame name)
fits_some name most None short size = tt
fits_some name most (Some e) short size = response_size name e (omega (arith, short, size))

-- that of a record fits a frame
pub read_fits : (name bytes : List ℕ) (e : Option Event) → e ≡ event_of_record bytes → length name ≤ 63 → length bytes ≤ 65024 → IfSome e (FitsFrame name)
read_fits name bytes e is short within = subst (λ (x : Option Event). IfSome x (FitsFrame name)) (sym is) (fits_some name (length bytes) (event_of_record bytes) (omega (arith, short, within)) (sound_size (response_fault bytes) bytes))

-- and that of a stretch
pub lost_fits : (name : List ℕ) (e : Event) (count moment : ℕ) → e ≡ lost_event count moment → length name ≤ 63 → FitsFrame name e
lost_fits name e count moment is short = subst (FitsFrame name) (sym is) (response_size name (lost_event count moment) (omega (arith, short)))
