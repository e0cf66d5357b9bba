-- What was written is read again: a moment, a flow, and lost events, from their spellings.
use Rattle.std.proofs.Common.{◌≡◌, ℕ, zero, suc, ◌%◌, ◌<◌, ◌≤◌, ◌^◌, List, [], ◌∷◌, ◌++◌, length, map, Option, Some, None, refl, sym, ap, subst, ◌∙◌, arith, length-append}
use Rattle.std.specs.Prelude.{ℤ, pos, FitsSigned, IfSome}
use lib.IntN.{negsuc}
use Rattle.std.specs.Option.{option_map}
use Rattle.std.specs.Int.{w32, w64, cast_signed, cast_unsigned}
use Rattle.std.specs.List.{AllByRecursion}
use Rattle.std.proofs.lemmas.Int.{to_z-of_z}
use Rattle.std.proofs.lemmas.List.{append-nil, map-append}
use Rattle.hb_wire.specs.Field.{Piece, PieceFits, spelling}
use Rattle.hb_flow.specs.Fields.{Part, parts, numbers, bodies, last_or, joined, Row, unknown}
use Rattle.hb_flow.specs.Faults.{Check, message_fault, stamp_check, flow_check, int32_value_check, lost_event_check}
use Rattle.hb_flow.specs.Messages.{int64, int32, of_signed, number_field, text_field, message_field, read_stamp, read_flow, read_int32_value, read_lost_event, stamp_bytes, flow_bytes, int32_value_bytes, lost_event_bytes, StampFits, FlowFits, Int32ValueFits, LostEventFits, SpellUnknown, flow_row, lost_event_row}
use Rattle.hb_time.specs.declared.stamp.Stamp.{Stamp}
use Rattle.hb_flow.specs.declared.flow.Flow.{Flow}
use Rattle.hb_flow.specs.declared.lost_event.Int32Value.{Int32Value}
use Rattle.hb_flow.specs.declared.lost_event.LostEvent.{LostEvent}
use Rattle.hb_flow.proofs.Pieces.{all_append, canonical, parts_again, no_fault_again, NearlyFits, fits_within}
use Rattle.hb_flow.proofs.NotKnown.{Unfaulty, numbers_first, bodies_first, unknown_last, flow_unfaulty, lost_event_unfaulty}
use Rattle.hb_flow.proofs.Records.{same_stamp, same_flow, int32_value_of, same_lost_event}
use Rattle.hb_flow.proofs.Texts.{no_text_fault}

-- ---- numbers

int32_wide : (z : ℤ) → FitsSigned w32 z → of_signed z % 2 ^ 32 ≡ cast_unsigned w32 z
int32_wide (pos n) fits = omega (arith, fits.sfits)
int32_wide (negsuc n) fits = omega (arith, fits.sfits)

pub int32_again : (z : ℤ) → FitsSigned w32 z → int32 (of_signed z) ≡ z
int32_again z fits = ap (cast_signed w32) (int32_wide z fits) ∙ to_z-of_z w32 z fits

pub int64_again : (z : ℤ) → FitsSigned w64 z → int64 (of_signed z) ≡ z
int64_again z fits = to_z-of_z w64 z fits

of_signed_fits : (z : ℤ) → FitsSigned w64 z → of_signed z < 2 ^ 64
of_signed_fits (pos n) fits = omega (arith, fits.sfits)
of_signed_fits (negsuc n) fits = omega arith

widened : (z : ℤ) → FitsSigned w32 z → FitsSigned w64 z
widened z fits = record { sfits = omega (arith, fits.sfits) }

-- ---- fields that nearly fit, and what is picked from them

pub number_nearly : (number n : ℕ) → 1 ≤ number → number < 2 ^ 29 → n < 2 ^ 64 → AllByRecursion NearlyFits (number_field number n)
number_nearly number zero some few fits = tt
number_nearly number (suc n) some few fits = (((some, few), fits), tt)

pub text_nearly : (number : ℕ) (text : List ℕ) → 1 ≤ number → number < 2 ^ 29 → AllByRecursion NearlyFits (text_field number text)
text_nearly number [] some few = tt
text_nearly number (b ∷ text) some few = (((some, few), tt), tt)

pub message_nearly : (number : ℕ) (body : Option (List ℕ)) → 1 ≤ number → number < 2 ^ 29 → AllByRecursion NearlyFits (message_field number body)
message_nearly number None some few = tt
message_nearly number (Some body) some few = (((some, few), tt), tt)

abbrev stamp_fields : ℕ → ℕ → List Piece
stamp_fields secs nanos = number_field 1 secs ++ number_field 2 nanos

abbrev flow_fields : Option (List ℕ) → ℕ → List ℕ → List Piece
flow_fields time verdict uuid = message_field 1 time ++ number_field 2 verdict ++ text_field 34 uuid

abbrev lost_fields : ℕ → ℕ → Option (List ℕ) → List Piece
lost_fields source lost cpu = number_field 1 source ++ number_field 2 lost ++ message_field 3 cpu

-- ---- what is picked from fields that are spelled canonically

record PicksStamp (secs nanos : ℕ) : Type 0 where
  secs_is : last_or 0 (numbers 1 (map canonical (stamp_fields secs nanos))) ≡ secs
  nanos_is : last_or 0 (numbers 2 (map canonical (stamp_fields secs nanos))) ≡ nanos

picks_stamp : (secs nanos : ℕ) → PicksStamp secs nanos
picks_stamp zero zero = record { secs_is = refl; nanos_is = refl }
picks_stamp zero (suc n) = record { secs_is = refl; nanos_is = refl }
picks_stamp (suc s) zero = record { secs_is = refl; nanos_is = refl }
picks_stamp (suc s) (suc n) = record { secs_is = refl; nanos_is = refl }

-- one body joined is itself
pub joined_one : (body : List ℕ) → joined (body ∷ []) ≡ Some body
joined_one body = ap Some (append-nil body)

record PicksFlow (time : Option (List ℕ)) (verdict : ℕ) (uuid : List ℕ) : Type 0 where
  time_is : joined (bodies 1 (map canonical (flow_fields time verdict uuid))) ≡ time
  verdict_is : last_or 0 (numbers 2 (map canonical (flow_fields time verdict uuid))) ≡ verdict
  uuid_is : last_or [] (bodies 34 (map canonical (flow_fields time verdict uuid))) ≡ uuid
  all_known : unknown flow_row (map canonical (flow_fields time verdict uuid)) ≡ []

picks_flow : (time : Option (List ℕ)) (verdict : ℕ) (uuid : List ℕ) → PicksFlow time verdict uuid
picks_flow None zero [] = record { time_is = refl; verdict_is = refl; uuid_is = refl; all_known = refl }
picks_flow None zero (b ∷ uuid) = record { time_is = refl; verdict_is = refl; uuid_is = refl; all_known = refl }
picks_flow None (suc v) [] = record { time_is = refl; verdict_is = refl; uuid_is = refl; all_known = refl }
picks_flow None (suc v) (b ∷ uuid) = record { time_is = refl; verdict_is = refl; uuid_is = refl; all_known = refl }
picks_flow (Some body) zero [] = record { time_is = joined_one body; verdict_is = refl; uuid_is = refl; all_known = refl }
picks_flow (Some body) zero (b ∷ uuid) = record { time_is = joined_one body; verdict_is = refl; uuid_is = refl; all_known = refl }
picks_flow (Some body) (suc v) [] = record { time_is = joined_one body; verdict_is = refl; uuid_is = refl; all_known = refl }
picks_flow (Some body) (suc v) (b ∷ uuid) = record { time_is = joined_one body; verdict_is = refl; uuid_is = refl; all_known = refl }

record PicksLost (source lost : ℕ) (cpu : Option (List ℕ)) : Type 0 where
  source_is : last_or 0 (numbers 1 (map canonical (lost_fields source lost cpu))) ≡ source
  lost_is : last_or 0 (numbers 2 (map canonical (lost_fields source lost cpu))) ≡ lost
  cpu_is : joined (bodies 3 (map canonical (lost_fields source lost cpu))) ≡ cpu
  all_known : unknown lost_event_row (map canonical (lost_fields source lost cpu)) ≡ []

picks_lost : (source lost : ℕ) (cpu : Option (List ℕ)) → PicksLost source lost cpu
picks_lost zero zero None = record { source_is = refl; lost_is = refl; cpu_is = refl; all_known = refl }
picks_lost zero zero (Some body) = record { source_is = refl; lost_is = refl; cpu_is = joined_one body; all_known = refl }
picks_lost zero (suc n) None = record { source_is = refl; lost_is = refl; cpu_is = refl; all_known = refl }
picks_lost zero (suc n) (Some body) = record { source_is = refl; lost_is = refl; cpu_is = joined_one body; all_known = refl }
picks_lost (suc s) zero None = record { source_is = refl; lost_is = refl; cpu_is = refl; all_known = refl }
picks_lost (suc s) zero (Some body) = record { source_is = refl; lost_is = refl; cpu_is = joined_one body; all_known = refl }
picks_lost (suc s) (suc n) None = record { source_is = refl; lost_is = refl; cpu_is = refl; all_known = refl }
picks_lost (suc s) (suc n) (Some body) = record { source_is = refl; lost_is = refl; cpu_is = joined_one body; all_known = refl }

-- ---- a moment

-- no bytes are kept
abbrev pub nothing_kept : (row : Row) → SpellUnknown row []
nothing_kept row = record { parts = []; spelled = tt; not_known = tt; whole = refl }

-- the bytes of a moment, as those of a message that keeps none
stamp_kept : (s : Stamp) → stamp_bytes s ≡ spelling (stamp_fields (of_signed s.secs) (of_signed s.nanos)) ++ []
unfolding stamp_bytes
stamp_kept s = sym (append-nil (spelling (stamp_fields (of_signed s.secs) (of_signed s.nanos))))

stamp_fields_fit : (s : Stamp) → StampFits s → length (stamp_bytes s) < 2 ^ 64 → AllByRecursion PieceFits (stamp_fields (of_signed s.secs) (of_signed s.nanos))
unfolding stamp_bytes
stamp_fields_fit s fits short = fits_within _ (all_append NearlyFits (number_field 1 (of_signed s.secs)) (number_field 2 (of_signed s.nanos))
    (number_nearly 1 (of_signed s.secs) (omega arith) (omega arith) (of_signed_fits s.secs fits.secs))
    (number_nearly 2 (of_signed s.nanos) (omega arith) (omega arith) (of_signed_fits s.nanos (widened s.nanos fits.nanos)))) short

pub stamp_again : (s : Stamp) → StampFits s → length (stamp_bytes s) < 2 ^ 64 → read_stamp (stamp_bytes s) ≡ s
unfolding read_stamp
stamp_again s fits short =
    let fs = stamp_fields (of_signed s.secs) (of_signed s.nanos) in
    let ps = parts (stamp_bytes s) in
    let are : ps ≡ map canonical fs = ap parts (stamp_kept s) ∙ parts_again [] fs [] (nothing_kept []) (stamp_fields_fit s fits short) ∙ append-nil (map canonical fs) in
    let picks = picks_stamp (of_signed s.secs) (of_signed s.nanos) in
    let secs : int64 (last_or 0 (numbers 1 ps)) ≡ s.secs = ap (λ (qs : List Part). int64 (last_or 0 (numbers 1 qs))) are ∙ ap int64 picks.secs_is ∙ int64_again s.secs fits.secs in
    let nanos : int32 (last_or 0 (numbers 2 ps)) ≡ s.nanos = ap (λ (qs : List Part). int32 (last_or 0 (numbers 2 qs))) are ∙ ap int32 picks.nanos_is ∙ int32_again s.nanos fits.nanos in
    same_stamp (int64 (last_or 0 (numbers 1 ps))) (int32 (last_or 0 (numbers 2 ps))) s secs nanos

pub clean_numbers : (check : Check) (number n : ℕ) → Unfaulty check (map canonical (number_field number n))
clean_numbers check number zero = tt
clean_numbers check number (suc n) = ((λ end. refl), tt)

pub clean_text : (check : Check) (number : ℕ) (text : List ℕ) → ((place : ℕ) → check number place text ≡ None) → Unfaulty check (map canonical (text_field number text))
clean_text check number [] h = tt
clean_text check number (b ∷ text) h = ((λ end. h _), tt)

pub clean_message : (check : Check) (number : ℕ) (body : Option (List ℕ)) → IfSome body (λ b. (place : ℕ) → check number place b ≡ None)
    → Unfaulty check (map canonical (message_field number body))
clean_message check number None h = tt
clean_message check number (Some b) h = ((λ end. h _), tt)

-- of two lists of fields
pub clean_both : (check : Check) (xs ys : List Piece) → Unfaulty check (map canonical xs) → Unfaulty check (map canonical ys) → Unfaulty check (map canonical (xs ++ ys))
clean_both check xs ys p q = subst (Unfaulty check) (sym (map-append canonical xs ys)) (all_append _ (map canonical xs) (map canonical ys) p q)

pub stamp_clean : (s : Stamp) (place : ℕ) → StampFits s → length (stamp_bytes s) < 2 ^ 64 → message_fault stamp_check place (stamp_bytes s) ≡ None
stamp_clean s place fits short =
    let secs = number_field 1 (of_signed s.secs) in
    let nanos = number_field 2 (of_signed s.nanos) in
    ap (message_fault stamp_check place) (stamp_kept s)
    ∙ no_fault_again [] (secs ++ nanos) [] (nothing_kept []) (stamp_fields_fit s fits short) stamp_check place
    (clean_both stamp_check secs nanos (clean_numbers stamp_check 1 (of_signed s.secs)) (clean_numbers stamp_check 2 (of_signed s.nanos))) tt

-- ---- a moment that may not be there, in the fields that hold it

pub body_short : (number : ℕ) (body : List ℕ) → AllByRecursion PieceFits (message_field number (Some body)) → length body < 2 ^ 64
body_short number body fits = fits.0.1

pub stamp_there : (number : ℕ) (time : Option Stamp) → IfSome time StampFits → AllByRecursion PieceFits (message_field number (option_map stamp_bytes time))
    → option_map read_stamp (option_map stamp_bytes time) ≡ time
stamp_there number None fits near = refl
stamp_there number (Some s) fits near = ap Some (stamp_again s fits (body_short number (stamp_bytes s) near))

pub stamp_there_clean : (number : ℕ) (time : Option Stamp) → IfSome time StampFits → AllByRecursion PieceFits (message_field number (option_map stamp_bytes time))
    → IfSome (option_map stamp_bytes time) (λ b. (place : ℕ) → message_fault stamp_check place b ≡ None)
stamp_there_clean number None fits near = tt
stamp_there_clean number (Some s) fits near = λ place. stamp_clean s place fits (body_short number (stamp_bytes s) near)

-- ---- a flow

abbrev fields_of_flow : Flow → List Piece
fields_of_flow f = flow_fields (option_map stamp_bytes f.time) (of_signed f.verdict) f.uuid

flow_fields_fit : (f : Flow) → FlowFits f → length (flow_bytes f) < 2 ^ 64 → AllByRecursion PieceFits (fields_of_flow f)
unfolding flow_bytes
flow_fields_fit f fits short = fits_within _ (all_append NearlyFits (message_field 1 (option_map stamp_bytes f.time) ++ number_field 2 (of_signed f.verdict)) (text_field 34 f.uuid)
    (all_append NearlyFits (message_field 1 (option_map stamp_bytes f.time)) (number_field 2 (of_signed f.verdict))
    (message_nearly 1 (option_map stamp_bytes f.time) (omega arith) (omega arith))
    (number_nearly 2 (of_signed f.verdict) (omega arith) (omega arith) (of_signed_fits f.verdict (widened f.verdict fits.verdict))))
    (text_nearly 34 f.uuid (omega arith) (omega arith))) (omega (arith, short, length-append (spelling (fields_of_flow f)) f.unknown))

-- what holds of all the items of two lists holds of those of each
pub all_apart : {A : Type 0} (P : A → Type 0) (xs ys : List A) → AllByRecursion P (xs ++ ys) → AllByRecursion P xs × AllByRecursion P ys
all_apart P [] ys all = (tt, all)
all_apart P (x ∷ xs) ys all = let rest = all_apart P xs ys all.1 in ((all.0, rest.0), rest.1)

all_first : {A : Type 0} (P : A → Type 0) (xs ys zs : List A) → AllByRecursion P (xs ++ ys ++ zs) → AllByRecursion P xs
all_first P xs ys zs all = (all_apart P xs ys (all_apart P (xs ++ ys) zs all).0).0

pub flow_again : (f : Flow) → FlowFits f → length (flow_bytes f) < 2 ^ 64 → read_flow (flow_bytes f) ≡ f
unfolding read_flow flow_bytes
flow_again f fits short =
    let fs = fields_of_flow f in
    let us = fits.unknown.parts in
    let not = fits.unknown.not_known in
    let fit = flow_fields_fit f fits short in
    let ps = parts (spelling fs ++ f.unknown) in
    let are : ps ≡ map canonical fs ++ us = parts_again flow_row fs f.unknown fits.unknown fit in
    let picks = picks_flow (option_map stamp_bytes f.time) (of_signed f.verdict) f.uuid in
    let inside = all_first PieceFits (message_field 1 (option_map stamp_bytes f.time)) (number_field 2 (of_signed f.verdict)) (text_field 34 f.uuid) fit in
    let time : option_map read_stamp (joined (bodies 1 ps)) ≡ f.time =
    ap (λ (qs : List Part). option_map read_stamp (joined (bodies 1 qs))) are
    ∙ ap (λ (bs : List (List ℕ)). option_map read_stamp (joined bs)) (bodies_first flow_row 1 (λ body. refl) (map canonical fs) us not)
    ∙ ap (option_map read_stamp) picks.time_is ∙ stamp_there 1 f.time fits.time inside in
    let verdict : int32 (last_or 0 (numbers 2 ps)) ≡ f.verdict =
    ap (λ (qs : List Part). int32 (last_or 0 (numbers 2 qs))) are
    ∙ ap (λ (ns : List ℕ). int32 (last_or 0 ns)) (numbers_first flow_row 2 (λ value. refl) (map canonical fs) us not)
    ∙ ap int32 picks.verdict_is ∙ int32_again f.verdict fits.verdict in
    let uuid : last_or [] (bodies 34 ps) ≡ f.uuid =
    ap (λ (qs : List Part). last_or [] (bodies 34 qs)) are ∙ ap (last_or []) (bodies_first flow_row 34 (λ body. refl) (map canonical fs) us not) ∙ picks.uuid_is in
    let kept : unknown flow_row ps ≡ f.unknown = ap (unknown flow_row) are ∙ unknown_last flow_row (map canonical fs) us picks.all_known not ∙ sym fits.unknown.whole in
    same_flow (option_map read_stamp (joined (bodies 1 ps))) (int32 (last_or 0 (numbers 2 ps))) (last_or [] (bodies 34 ps)) (unknown flow_row ps) f time verdict uuid kept

pub flow_clean : (f : Flow) (place : ℕ) → FlowFits f → length (flow_bytes f) < 2 ^ 64 → message_fault flow_check place (flow_bytes f) ≡ None
unfolding flow_bytes flow_check
flow_clean f place fits short =
    let fit = flow_fields_fit f fits short in
    let time = message_field 1 (option_map stamp_bytes f.time) in
    let verdict = number_field 2 (of_signed f.verdict) in
    let uuid = text_field 34 f.uuid in
    let inside = all_first PieceFits time verdict uuid fit in
    no_fault_again flow_row (fields_of_flow f) f.unknown fits.unknown fit flow_check place
    (clean_both flow_check (time ++ verdict) uuid
    (clean_both flow_check time verdict
    (clean_message flow_check 1 (option_map stamp_bytes f.time) (stamp_there_clean 1 f.time fits.time inside))
    (clean_numbers flow_check 2 (of_signed f.verdict)))
    (clean_text flow_check 34 f.uuid (λ place. no_text_fault place f.uuid fits.uuid)))
    (flow_unfaulty fits.unknown.parts fits.unknown.not_known)

-- ---- a wrapper

value_kept : (v : Int32Value) → int32_value_bytes v ≡ spelling (number_field 1 (of_signed v.value)) ++ []
unfolding int32_value_bytes
value_kept v = sym (append-nil (spelling (number_field 1 (of_signed v.value))))

value_fields_fit : (v : Int32Value) → Int32ValueFits v → length (int32_value_bytes v) < 2 ^ 64 → AllByRecursion PieceFits (number_field 1 (of_signed v.value))
unfolding int32_value_bytes
value_fields_fit v fits short =
    fits_within _ (number_nearly 1 (of_signed v.value) (omega arith) (omega arith) (of_signed_fits v.value (widened v.value fits.value))) short

value_picked : (n : ℕ) → last_or 0 (numbers 1 (map canonical (number_field 1 n))) ≡ n
value_picked zero = refl
value_picked (suc n) = refl

value_again : (v : Int32Value) → Int32ValueFits v → length (int32_value_bytes v) < 2 ^ 64 → read_int32_value (int32_value_bytes v) ≡ v
unfolding read_int32_value
value_again v fits short =
    let fs = number_field 1 (of_signed v.value) in
    let are : parts (int32_value_bytes v) ≡ map canonical fs = ap parts (value_kept v) ∙ parts_again [] fs [] (nothing_kept []) (value_fields_fit v fits short) ∙ append-nil (map canonical fs) in
    ap int32_value_of (ap (λ (qs : List Part). int32 (last_or 0 (numbers 1 qs))) are ∙ ap int32 (value_picked (of_signed v.value)) ∙ int32_again v.value fits.value)

value_clean : (v : Int32Value) (place : ℕ) → Int32ValueFits v → length (int32_value_bytes v) < 2 ^ 64 → message_fault int32_value_check place (int32_value_bytes v) ≡ None
value_clean v place fits short =
    let fs = number_field 1 (of_signed v.value) in
    ap (message_fault int32_value_check place) (value_kept v)
    ∙ no_fault_again [] fs [] (nothing_kept []) (value_fields_fit v fits short) int32_value_check place (clean_numbers int32_value_check 1 (of_signed v.value)) tt

value_there : (cpu : Option Int32Value) → IfSome cpu Int32ValueFits → AllByRecursion PieceFits (message_field 3 (option_map int32_value_bytes cpu))
    → option_map read_int32_value (option_map int32_value_bytes cpu) ≡ cpu
value_there None fits near = refl
value_there (Some v) fits near = ap Some (value_again v fits (body_short 3 (int32_value_bytes v) near))

value_there_clean : (cpu : Option Int32Value) → IfSome cpu Int32ValueFits → AllByRecursion PieceFits (message_field 3 (option_map int32_value_bytes cpu))
    → IfSome (option_map int32_value_bytes cpu) (λ b. (place : ℕ) → message_fault int32_value_check place b ≡ None)
value_there_clean None fits near = tt
value_there_clean (Some v) fits near = λ place. value_clean v place fits (body_short 3 (int32_value_bytes v) near)

-- ---- lost events

abbrev fields_of_lost : LostEvent → List Piece
fields_of_lost e = lost_fields (of_signed e.source) e.num_events_lost (option_map int32_value_bytes e.cpu)

lost_fields_fit : (e : LostEvent) → LostEventFits e → length (lost_event_bytes e) < 2 ^ 64 → AllByRecursion PieceFits (fields_of_lost e)
unfolding lost_event_bytes
lost_fields_fit e fits short =
    let source = number_field 1 (of_signed e.source) in
    let lost = number_field 2 e.num_events_lost in
    let cpu = message_field 3 (option_map int32_value_bytes e.cpu) in
    fits_within _ (all_append NearlyFits (source ++ lost) cpu (all_append NearlyFits source lost
    (number_nearly 1 (of_signed e.source) (omega arith) (omega arith) (of_signed_fits e.source (widened e.source fits.source)))
    (number_nearly 2 e.num_events_lost (omega arith) (omega arith) fits.num_events_lost))
    (message_nearly 3 (option_map int32_value_bytes e.cpu) (omega arith) (omega arith))) (omega (arith, short, length-append (spelling (fields_of_lost e)) e.unknown))

cpu_fits : (e : LostEvent) → AllByRecursion PieceFits (fields_of_lost e) → AllByRecursion PieceFits (message_field 3 (option_map int32_value_bytes e.cpu))
cpu_fits e fit = (all_apart PieceFits (number_field 1 (of_signed e.source) ++ number_field 2 e.num_events_lost) (message_field 3 (option_map int32_value_bytes e.cpu)) fit).1

pub lost_event_again : (e : LostEvent) → LostEventFits e → length (lost_event_bytes e) < 2 ^ 64 → read_lost_event (lost_event_bytes e) ≡ e
unfolding read_lost_event lost_event_bytes
lost_event_again e fits short =
    let fs = fields_of_lost e in
    let us = fits.unknown.parts in
    let not = fits.unknown.not_known in
    let fit = lost_fields_fit e fits short in
    let ps = parts (spelling fs ++ e.unknown) in
    let are : ps ≡ map canonical fs ++ us = parts_again lost_event_row fs e.unknown fits.unknown fit in
    let picks = picks_lost (of_signed e.source) e.num_events_lost (option_map int32_value_bytes e.cpu) in
    let source : int32 (last_or 0 (numbers 1 ps)) ≡ e.source =
    ap (λ (qs : List Part). int32 (last_or 0 (numbers 1 qs))) are
    ∙ ap (λ (ns : List ℕ). int32 (last_or 0 ns)) (numbers_first lost_event_row 1 (λ value. refl) (map canonical fs) us not)
    ∙ ap int32 picks.source_is ∙ int32_again e.source fits.source in
    let lost : last_or 0 (numbers 2 ps) ≡ e.num_events_lost =
    ap (λ (qs : List Part). last_or 0 (numbers 2 qs)) are ∙ ap (last_or 0) (numbers_first lost_event_row 2 (λ value. refl) (map canonical fs) us not) ∙ picks.lost_is in
    let cpu : option_map read_int32_value (joined (bodies 3 ps)) ≡ e.cpu =
    ap (λ (qs : List Part). option_map read_int32_value (joined (bodies 3 qs))) are
    ∙ ap (λ (bs : List (List ℕ)). option_map read_int32_value (joined bs)) (bodies_first lost_event_row 3 (λ body. refl) (map canonical fs) us not)
    ∙ ap (option_map read_int32_value) picks.cpu_is ∙ value_there e.cpu fits.cpu (cpu_fits e fit) in
    let kept : unknown lost_event_row ps ≡ e.unknown = ap (unknown lost_event_row) are ∙ unknown_last lost_event_row (map canonical fs) us picks.all_known not ∙ sym fits.unknown.whole in
    same_lost_event (int32 (last_or 0 (numbers 1 ps))) (last_or 0 (numbers 2 ps)) (option_map read_int32_value (joined (bodies 3 ps))) (unknown lost_event_row ps) e source lost cpu kept

pub lost_event_clean : (e : LostEvent) (place : ℕ) → LostEventFits e → length (lost_event_bytes e) < 2 ^ 64 → message_fault lost_event_check place (lost_event_bytes e) ≡ None
unfolding lost_event_bytes lost_event_check
lost_event_clean e place fits short =
    let fit = lost_fields_fit e fits short in
    let source = number_field 1 (of_signed e.source) in
    let lost = number_field 2 e.num_events_lost in
    let cpu = message_field 3 (option_map int32_value_bytes e.cpu) in
    no_fault_again lost_event_row (fields_of_lost e) e.unknown fits.unknown fit lost_event_check place
    (clean_both lost_event_check (source ++ lost) cpu
    (clean_both lost_event_check source lost (clean_numbers lost_event_check 1 (of_signed e.source)) (clean_numbers lost_event_check 2 e.num_events_lost))
    (clean_message lost_event_check 3 (option_map int32_value_bytes e.cpu) (value_there_clean e.cpu fits.cpu (cpu_fits e fit))))
    (lost_event_unfaulty fits.unknown.parts fits.unknown.not_known)
