-- What a ring keeps of an event: the event, or what stands for it, whose record is short.
use Rattle.std.proofs.Common.{◌≡◌, ◌^◌, ◌∙◌, List, ◌∷◌, map, sym, ap, subst, inl, inr, ℕ, zero, suc, ◌+◌, ◌*◌, ◌<◌, ◌≤◌, [], ◌++◌, length, Option, Some, None, refl, arith, length-append}
use Rattle.std.specs.Prelude.{pos}
use Rattle.std.specs.Option.{option_map}
use Rattle.std.proofs.lemmas.Bool.{le-leb, lt-leb, cases_lt}
use Rattle.std.specs.List.{AllByRecursion}
use Rattle.hb_schema.specs.declared.fault.DecodeFault.{DecodeFault}
use Rattle.hb_flow.proofs.Again.{record_again, record_clean}
use Rattle.hb_session.specs.Events.{event_of_record, sound_event}
use Rattle.hb_wire.specs.Varint.{varint, varint_of}
use Rattle.hb_wire.specs.Field.{spelled, spelling}
use Rattle.hb_flow.specs.Messages.{number_field, message_field, of_signed, stamp_bytes, lost_event_bytes, response_bytes, record_bytes, event_time, oversized, EventFits}
use Rattle.hb_time.specs.declared.stamp.Stamp.{Stamp}
use Rattle.hb_flow.specs.declared.lost_event.LostEvent.{LostEvent}
use Rattle.hb_flow.specs.declared.event.Event.{Event}
use Rattle.hb_flow.proofs.Events.{varint_length, spelling_length, oversized_fits}
use Rattle.hb_observer.specs.Kept.{kept, log_of}

pub kept_short : (slot : ℕ) (e : Event) → length (record_bytes e) ≤ slot → kept slot e ≡ e
kept_short slot e short = rw (le-leb (length (record_bytes e)) slot short) refl

pub kept_long : (slot : ℕ) (e : Event) → slot < length (record_bytes e) → kept slot e ≡ oversized e
kept_long slot e long = rw (lt-leb (length (record_bytes e)) slot long) refl

-- ---- how long the record of what stands for an event is

first_tag : length (varint (8 * 1 + 0)) ≡ 1
unfolding varint varint_of
first_tag = refl

second_tag : length (varint (8 * 2 + 0)) ≡ 1
unfolding varint varint_of
second_tag = refl

time_tag : length (varint (8 * 1001 + 2)) ≡ 2
unfolding varint varint_of
time_tag = refl

first_length : (n : ℕ) → length (spelling (number_field 1 n)) ≤ 11
unfolding spelled
first_length zero = omega arith
first_length (suc n) =
    let tag = varint (8 * 1 + 0) in
    omega (arith, first_tag, length-append tag (varint (suc n)), length-append (tag ++ varint (suc n)) [], varint_length (suc n))

second_length : (n : ℕ) → length (spelling (number_field 2 n)) ≤ 11
unfolding spelled
second_length zero = omega arith
second_length (suc n) =
    let tag = varint (8 * 2 + 0) in
    omega (arith, second_tag, length-append tag (varint (suc n)), length-append (tag ++ varint (suc n)) [], varint_length (suc n))

stamp_short : (s : Stamp) → length (stamp_bytes s) ≤ 22
unfolding stamp_bytes
stamp_short s =
    omega (
      arith,
      spelling_length (number_field 1 (of_signed s.secs)) (number_field 2 (of_signed s.nanos)),
      first_length (of_signed s.secs),
      second_length (of_signed s.nanos),
    )

time_short : (time : Option Stamp) → length (spelling (message_field 1001 (option_map stamp_bytes time))) ≤ 34
unfolding spelled
time_short None = omega arith
time_short (Some s) =
    let body = stamp_bytes s in
    let tag = varint (8 * 1001 + 2) in
    let size = varint (length body) in
    omega (
      arith,
      time_tag,
      length-append (tag ++ (size ++ body)) [],
      length-append tag (size ++ body),
      length-append size body,
      varint_length (length body),
      stamp_short s,
    )

-- one event that was lost at a source
abbrev one_lost : LostEvent
one_lost = record { source = pos 2; num_events_lost = 1; cpu = None; unknown = [] }

lost_length : length (spelling (message_field 3 (Some (lost_event_bytes one_lost)))) ≡ 6
unfolding spelled varint varint_of lost_event_bytes
lost_length = refl

pub oversized_short : (e : Event) → length (record_bytes (oversized e)) ≤ 64
unfolding record_bytes response_bytes
oversized_short e =
    let lost = message_field 3 (Some (lost_event_bytes one_lost)) in
    let time = message_field 1001 (option_map stamp_bytes (event_time e)) in
    omega (
      arith,
      length-append (spelling (lost ++ [] ++ time)) [],
      spelling_length (lost ++ []) time,
      spelling_length lost [],
      lost_length,
      time_short (event_time e),
    )

-- ---- what is kept is read again

-- its record holds it
abbrev IsReadAgain : Event → Type 0
IsReadAgain e = event_of_record (record_bytes e) ≡ Some e

short_again : (e : Event) → EventFits e → length (record_bytes e) < 2 ^ 64 → IsReadAgain e
short_again e fits short = ap (λ (fault : Option DecodeFault). sound_event fault (record_bytes e)) (record_clean e fits short) ∙ record_again e fits short

kept_again : (slot : ℕ) (e : Event) → slot ≤ 65024 → EventFits e → IsReadAgain (kept slot e)
kept_again slot e most fits =
    elim (cases_lt slot (length (record_bytes e))) [
      | inl long ↦ subst IsReadAgain (sym (kept_long slot e long)) (short_again (oversized e) (oversized_fits e fits) (omega (arith, oversized_short e)))
      | inr short ↦ subst IsReadAgain (sym (kept_short slot e short)) (short_again e fits (omega (arith, most, short)))
    ]

pub log_again : (slot : ℕ) (es : List Event) → slot ≤ 65024 → AllByRecursion EventFits es → map event_of_record (log_of slot es) ≡ map Some (map (kept slot) es)
log_again slot [] most fits = refl
log_again slot (e ∷ es) most fits =
    ap (λ (o : Option Event). o ∷ map event_of_record (log_of slot es)) (kept_again slot e most fits.0)
    ∙ ap (λ (os : List (Option Event)). Some (kept slot e) ∷ os) (log_again slot es most fits.1)
