-- Events that answers hold fit, and what stands for an event whose record is too long has a short one.
use Rattle.std.proofs.Common.{◌≡◌, ℕ, zero, suc, ◌+◌, ◌*◌, ◌/◌, ◌%◌, ◌≤◌, Bool, true, false, cond, ltb, List, [], ◌∷◌, ◌++◌, length, Option, Some, None, ap, ◌∙◌, arith, length-append}
use Rattle.std.specs.Prelude.{ℤ, IfSome, pos}
use Rattle.std.specs.Option.{option_map}
use Rattle.std.proofs.lemmas.List.Concat.{flat_map-append}
use Rattle.hb_wire.specs.Varint.{varint, varint_of}
use Rattle.hb_wire.specs.Field.{Piece, Body, spelled, spelling}
use Rattle.hb_flow.specs.Messages.{number_field, message_field, of_signed, stamp_bytes, lost_event_bytes, response_bytes, record_bytes, event_in, event_time, oversized, member_event, StampFits, MemberFits, ResponseFits, EventFits, lost_event_row}
use Rattle.hb_time.specs.declared.stamp.Stamp.{Stamp}
use Rattle.hb_flow.specs.declared.lost_event.LostEvent.{LostEvent}
use Rattle.hb_flow.specs.declared.response_types.ResponseTypes.{ResponseTypes}
use Rattle.hb_flow.specs.declared.response_types.ResponseTypes.TheVariants as member
use Rattle.hb_flow.specs.declared.response.GetFlowsResponse.{GetFlowsResponse}
use Rattle.hb_flow.specs.declared.event.Event.{Event}
use Rattle.hb_flow.specs.declared.event.Event.TheVariants as event
use Rattle.hb_flow.proofs.MessagesAgain.{nothing_kept}

-- ---- what fits

member_event_fits : (held : Option ResponseTypes) (time : Option Stamp) → IfSome held MemberFits → IfSome time StampFits → IfSome (member_event held time) EventFits
member_event_fits None time fits times = tt
member_event_fits (Some (member.Flow f)) time fits times = fits
member_event_fits (Some (member.NodeStatus status)) time fits times = tt
member_event_fits (Some (member.LostEvents e)) time fits times = record { event = fits; time = times }

-- the event of an answer that fits
pub event_in_fits : (r : GetFlowsResponse) → ResponseFits r → IfSome (event_in r) EventFits
event_in_fits r fits = member_event_fits r.response_types r.time fits.response_types fits.time

time_fits : (e : Event) → EventFits e → IfSome (event_time e) StampFits
time_fits (event.Flow f) fits = fits.time
time_fits (event.Lost l) fits = fits.time

-- what stands for an event that fits
pub oversized_fits : (e : Event) → EventFits e → EventFits (oversized e)
oversized_fits e fits = record {
  event = record { source = record { sfits = omega arith }; num_events_lost = omega arith; cpu = tt; unknown = nothing_kept lost_event_row };
  time = time_fits e fits;
}

-- ---- how long it is

cond_length : (b : Bool) (xs ys : List ℕ) (most : ℕ) → length xs ≤ most → length ys ≤ most → length (cond b xs ys) ≤ most
cond_length true xs ys most p q = p
cond_length false xs ys most p q = q

varint_of_length : (more n : ℕ) → length (varint_of more n) ≤ more + 1
unfolding varint_of
varint_of_length zero n = omega arith
varint_of_length (suc more) n = cond_length (ltb n 128) (n ∷ []) ((n % 128 + 128) ∷ varint_of more (n / 128)) (suc more + 1) (omega arith) (omega (arith, varint_of_length more (n / 128)))

-- a varint has at most ten bytes
pub varint_length : (n : ℕ) → length (varint n) ≤ 10
unfolding varint
varint_length n = varint_of_length 9 n

pub spelling_length : (xs ys : List Piece) → length (spelling (xs ++ ys)) ≡ length (spelling xs) + length (spelling ys)
spelling_length xs ys = ap length (flat_map-append spelled xs ys) ∙ length-append (spelling xs) (spelling ys)

pub number_length : (number n : ℕ) → length (spelling (number_field number n)) ≤ 20
unfolding spelled
number_length number zero = omega arith
number_length number (suc n) =
    omega (arith, length-append (varint (8 * number + 0)) (varint (suc n)), length-append (varint (8 * number + 0) ++ varint (suc n)) [], varint_length (8 * number + 0), varint_length (suc n))

pub body_length : (number : ℕ) (body : List ℕ) → length (spelling (record { number = number; content = Body body } ∷ [])) ≤ 20 + length body
unfolding spelled
body_length number body =
    omega (
      arith,
      length-append (varint (8 * number + 2) ++ (varint (length body) ++ body)) [],
      length-append (varint (8 * number + 2)) (varint (length body) ++ body),
      length-append (varint (length body)) body,
      varint_length (8 * number + 2),
      varint_length (length body),
    )

pub stamp_length : (s : Stamp) → length (stamp_bytes s) ≤ 40
unfolding stamp_bytes
stamp_length s =
    omega (arith, spelling_length (number_field 1 (of_signed s.secs)) (number_field 2 (of_signed s.nanos)), number_length 1 (of_signed s.secs), number_length 2 (of_signed s.nanos))

pub time_length : (number : ℕ) (time : Option Stamp) → length (spelling (message_field number (option_map stamp_bytes time))) ≤ 60
time_length number None = omega arith
time_length number (Some s) = omega (arith, body_length number (stamp_bytes s), stamp_length s)

-- two numbers and nothing else
numbers_length : (a b : ℕ) → length (spelling (number_field 1 a ++ number_field 2 b ++ []) ++ []) ≤ 40
numbers_length a b =
    omega (
      arith,
      length-append (spelling (number_field 1 a ++ number_field 2 b ++ [])) [],
      spelling_length (number_field 1 a ++ number_field 2 b) [],
      spelling_length (number_field 1 a) (number_field 2 b),
      number_length 1 a,
      number_length 2 b,
    )

-- one event that was lost, at a source
one_lost : ℤ → LostEvent
one_lost source = record { source = source; num_events_lost = 1; cpu = None; unknown = [] }

one_length : (source : ℤ) → length (lost_event_bytes (one_lost source)) ≤ 40
unfolding lost_event_bytes one_lost
one_length source = numbers_length (of_signed source) 1

-- the record of what stands for an event
pub oversized_length : (e : Event) → length (record_bytes (oversized e)) ≤ 120
unfolding record_bytes response_bytes one_lost
oversized_length e =
    let body = lost_event_bytes (one_lost (pos 2)) in
    let time = message_field 1001 (option_map stamp_bytes (event_time e)) in
    omega (
      arith,
      length-append (spelling (message_field 3 (Some body) ++ [] ++ time)) [],
      spelling_length (message_field 3 (Some body) ++ []) time,
      body_length 3 body,
      one_length (pos 2),
      time_length 1001 (event_time e),
    )
