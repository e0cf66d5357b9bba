-- What is read of bytes that have no fault has a spelling.
use Rattle.std.proofs.Common.{◌≡◌, ℕ, zero, suc, ◌<◌, ◌^◌, Bool, true, false, cond, eqb, List, [], ◌∷◌, ◌++◌, length, drop, Option, Some, None, refl, sym, ap, subst, ◌∙◌, arith, inl, inr, mod-eq_of_lt}
use Rattle.std.specs.Prelude.{pos, FitsSigned, IfSome}
use Rattle.std.specs.Int.{w32, w64, cast_signed, int_wrap}
use Rattle.std.specs.Option.{option_map}
use Rattle.std.specs.List.{AllByRecursion, cons_option, filter_map, flat_map}
use Rattle.std.specs.Str.{IsUtf8, is_utf8}
use Rattle.std.proofs.lemmas.Int.{SFits-int_wrap}
use Rattle.std.proofs.lemmas.Str.{IsUtf8-nil, IsUtf8-from_is_utf8}
use Rattle.hb_wire.specs.Varint.{AreBytes}
use Rattle.hb_wire.specs.Field.{Content, Varint, Fixed64, Body, Fixed32, SpellsField}
use Rattle.hb_wire.proofs.FieldLemmas.{field_front, AreBytes_drop}
use Rattle.hb_flow.specs.Fields.{Part, parts_of, parts, numbers, bodies, last_or, joined, members, last_run, Row, knows, unknown}
use Rattle.hb_flow.specs.Faults.{Check, flow_check, lost_event_fault, response_check, response_fault, text_fault}
use Rattle.hb_flow.specs.Messages.{int64, int32, read_stamp, read_flow, read_int32_value, read_lost_event, read_member, read_response, SpellUnknown, StampFits, FlowFits, Int32ValueFits, LostEventFits, MemberFits, ResponseFits, flow_row, lost_event_row, response_row}
use Rattle.hb_flow.proofs.Joining.{Found, Nothing, read_as, Joins, Sound, SoundPart, Whole, whole, parts_joined, spelled_divide}
use Rattle.hb_flow.proofs.Merging.{all_sound, all_weaker}
use Rattle.hb_flow.proofs.Runs.{IsMember, members_sound, run_holds}
use Rattle.hb_flow.proofs.Pieces.{all_append, AreSpelled}

-- ---- numbers

int32_fits : (n : ℕ) → FitsSigned w32 (int32 n)
unfolding int_wrap
int32_fits n = SFits-int_wrap w32 (pos n)

int64_fits : (n : ℕ) → n < 2 ^ 64 → FitsSigned w64 (int64 n)
unfolding int_wrap
int64_fits n below = subst (λ (k : ℕ). FitsSigned w64 (cast_signed w64 k)) (mod-eq_of_lt below) (SFits-int_wrap w64 (pos n))

-- ---- parts of bytes

-- each part is spelled by its bytes
parts_spelled_of : (most : ℕ) (bytes : List ℕ) → AreBytes bytes → AreSpelled (parts_of most bytes)
unfolding parts_of
parts_spelled_of zero bytes are = tt
parts_spelled_of (suc most) bytes are =
    elim (read_as bytes _ refl) [
      | Found p n e ↦ rw e ((field_front bytes p n e).spells are, parts_spelled_of most (drop n bytes) (AreBytes_drop n bytes are))
      | Nothing e ↦ rw e tt
    ]

pub parts_spelled : (bytes : List ℕ) → AreBytes bytes → AreSpelled (parts bytes)
parts_spelled bytes are = parts_spelled_of (length bytes) bytes are

-- what holds of a default and of all items holds of the last
pub last_is : {A : Type 0} (P : A → Type 0) (d : A) (xs : List A) → P d → AllByRecursion P xs → P (last_or d xs)
last_is P d [] p all = p
last_is P d (x ∷ xs) p all = last_is P x xs all.0 all.1

-- numbers are below 2 ^ 64
below_with : (b : Bool) (value : ℕ) (ns : List ℕ) → value < 2 ^ 64 → AllByRecursion (λ n. n < 2 ^ 64) ns → AllByRecursion (λ n. n < 2 ^ 64) (cons_option (cond b (Some value) None) ns)
below_with true value ns p q = (p, q)
below_with false value ns p q = q

passed_over : (b : Bool) (ns : List ℕ) → AllByRecursion (λ n. n < 2 ^ 64) ns → AllByRecursion (λ n. n < 2 ^ 64) (cons_option (cond b None None) ns)
passed_over true ns q = q
passed_over false ns q = q

below_step : (number k : ℕ) (raw : List ℕ) (content : Content) (ps : List Part) → SpellsField raw (record { number = k; content = content }) → AllByRecursion (λ n. n < 2 ^ 64) (numbers number ps)
    → AllByRecursion (λ n. n < 2 ^ 64) (numbers number (record { raw = raw; field = record { number = k; content = content } } ∷ ps))
below_step number k raw (Varint value) ps spelled rest = below_with (eqb k number) value (numbers number ps) spelled.4.fits rest
below_step number k raw (Fixed64 value) ps spelled rest = passed_over (eqb k number) (numbers number ps) rest
below_step number k raw (Body body) ps spelled rest = passed_over (eqb k number) (numbers number ps) rest
below_step number k raw (Fixed32 value) ps spelled rest = passed_over (eqb k number) (numbers number ps) rest

pub numbers_below : (number : ℕ) (ps : List Part) → AreSpelled ps → AllByRecursion (λ n. n < 2 ^ 64) (numbers number ps)
numbers_below number [] spelled = tt
numbers_below number (p ∷ ps) spelled = below_step number p.field.number p.raw p.field.content ps spelled.0 (numbers_below number ps spelled.1)

-- ---- the fields that are not known

-- a part that is kept, or not
kept_with : (row : Row) (p : Part) (b : Bool) (kept : List ℕ) → knows row p.field ≡ b → SpellsField p.raw p.field → SpellUnknown row kept → SpellUnknown row (cond b [] p.raw ++ kept)
kept_with row p true kept e spelled rest = rest
kept_with row p false kept e spelled rest = record {
  parts = p ∷ rest.parts;
  spelled = (spelled, rest.spelled);
  not_known = (e, rest.not_known);
  whole = ap (λ (bs : List ℕ). p.raw ++ bs) rest.whole;
}

pub unknown_spelled : (row : Row) (ps : List Part) → AreSpelled ps → SpellUnknown row (unknown row ps)
unknown_spelled row [] spelled = record { parts = []; spelled = tt; not_known = tt; whole = refl }
unknown_spelled row (p ∷ ps) spelled = kept_with row p (knows row p.field) (unknown row ps) refl spelled.0 (unknown_spelled row ps spelled.1)

-- what is picked from fields, but from none that are known, is picked from those that are not known
module _ {A : Type 0} (pick : Part → Option A) (row : Row) (known_none : (p : Part) → knows row p.field ≡ true → pick p ≡ None) where
  kept_part : (p : Part) (b : Bool) (kept : List ℕ) (e : knows row p.field ≡ b) (spelled : SpellsField p.raw p.field) (rest : SpellUnknown row kept) (ps : List Part)
      → filter_map pick rest.parts ≡ filter_map pick ps → filter_map pick (kept_with row p b kept e spelled rest).parts ≡ filter_map pick (p ∷ ps)
  unfolding kept_with
  kept_part p true kept e spelled rest ps same = rw (known_none p e) same
  kept_part p false kept e spelled rest ps same = ap (cons_option (pick p)) same

  kept_parts : (ps : List Part) (spelled : AreSpelled ps) → filter_map pick (unknown_spelled row ps spelled).parts ≡ filter_map pick ps
  unfolding unknown_spelled
  kept_parts [] spelled = refl
  kept_parts (p ∷ ps) spelled = kept_part p (knows row p.field) (unknown row ps) refl spelled.0 (unknown_spelled row ps spelled.1) ps (kept_parts ps spelled.1)

  pub picked_unknown : (bytes : List ℕ) → AreBytes bytes → filter_map pick (parts (unknown row (parts bytes))) ≡ filter_map pick (parts bytes)
  picked_unknown bytes are =
      let spelled = parts_spelled bytes are in
      let is = unknown_spelled row (parts bytes) spelled in
      ap (filter_map pick) (ap parts is.whole ∙ spelled_divide is.parts is.spelled) ∙ kept_parts (parts bytes) spelled

-- ---- bodies that are joined

append_bytes : (xs ys : List ℕ) → AreBytes xs → AreBytes ys → AreBytes (xs ++ ys)
append_bytes [] ys p q i = q i
append_bytes (x ∷ xs) ys p q zero = p 0
append_bytes (x ∷ xs) ys p q (suc i) = append_bytes xs ys (λ k. p (suc k)) q i

flat_bytes : (bs : List (List ℕ)) → AllByRecursion AreBytes bs → AreBytes (flat_map (λ b. b) bs)
flat_bytes [] all = λ i. omega arith
flat_bytes (b ∷ bs) all = append_bytes b (flat_map (λ x. x) bs) all.0 (flat_bytes bs all.1)

-- of bodies with no fault no part has one
flat_sound : (check : Check) (bs : List (List ℕ)) → AllByRecursion (Whole check) bs → AllByRecursion (SoundPart check) (flat_map parts bs)
flat_sound check [] all = tt
flat_sound check (b ∷ bs) all = all_append (SoundPart check) (parts b) (flat_map parts bs) all.0.sound (flat_sound check bs all.1)

-- and so in the bodies read as one
sound_joined : (check : Check) (bs : List (List ℕ)) → AllByRecursion (Whole check) bs → AllByRecursion (SoundPart check) (parts (flat_map (λ b. b) bs))
sound_joined check bs all = subst (AllByRecursion (SoundPart check)) (sym (parts_joined bs (all_weaker (Whole check) Joins (λ b is. is.joins) bs all))) (flat_sound check bs all)

-- ---- messages

stamp_fits : (bytes : List ℕ) → AreBytes bytes → StampFits (read_stamp bytes)
unfolding read_stamp
stamp_fits bytes are = record {
  secs = int64_fits (last_or 0 (numbers 1 (parts bytes))) (last_is (λ n. n < 2 ^ 64) 0 (numbers 1 (parts bytes)) (omega arith) (numbers_below 1 (parts bytes) (parts_spelled bytes are)));
  nanos = int32_fits (last_or 0 (numbers 2 (parts bytes)));
}

-- in the bodies of one number
pub stamps_fit : (bs : List (List ℕ)) → AllByRecursion AreBytes bs → IfSome (option_map read_stamp (joined bs)) StampFits
stamps_fit [] all = tt
stamps_fit (b ∷ bs) all = stamp_fits (b ++ flat_map (λ x. x) bs) (flat_bytes (b ∷ bs) all)

-- a text that is told no fault
is_text : (text : List ℕ) (place : ℕ) (b : Bool) → is_utf8 text ≡ b → text_fault place text ≡ None → IsUtf8 text
is_text text place true e none = IsUtf8-from_is_utf8 text e
is_text text place false e none = absurd (let told = rw e at none in cc)

uuid_fits : (body : List ℕ) → Sound flow_check 34 body → IsUtf8 body
unfolding flow_check
uuid_fits body sound = is_text body sound.0 (is_utf8 body) refl sound.1

name_fits : (body : List ℕ) → Sound response_check 1000 body → IsUtf8 body
unfolding response_check
name_fits body sound = is_text body sound.0 (is_utf8 body) refl sound.1

flow_fits : (bytes : List ℕ) → AreBytes bytes → AllByRecursion (SoundPart flow_check) (parts bytes) → FlowFits (read_flow bytes)
unfolding read_flow
flow_fits bytes are sound = record {
  time = stamps_fit (bodies 1 (parts bytes)) (all_weaker (Sound flow_check 1) AreBytes (λ b s. s.2) (bodies 1 (parts bytes)) (all_sound flow_check 1 (parts bytes) sound));
  verdict = int32_fits (last_or 0 (numbers 2 (parts bytes)));
  uuid = last_is IsUtf8 [] (bodies 34 (parts bytes)) IsUtf8-nil (all_weaker (Sound flow_check 34) IsUtf8 uuid_fits (bodies 34 (parts bytes)) (all_sound flow_check 34 (parts bytes) sound));
  unknown = unknown_spelled flow_row (parts bytes) (parts_spelled bytes are);
}

value_fits : (bytes : List ℕ) → Int32ValueFits (read_int32_value bytes)
unfolding read_int32_value
value_fits bytes = record { value = int32_fits (last_or 0 (numbers 1 (parts bytes))) }

values_fit : (bs : List (List ℕ)) → IfSome (option_map read_int32_value (joined bs)) Int32ValueFits
values_fit [] = tt
values_fit (b ∷ bs) = value_fits (b ++ flat_map (λ x. x) bs)

lost_fits : (bytes : List ℕ) → AreBytes bytes → LostEventFits (read_lost_event bytes)
unfolding read_lost_event
lost_fits bytes are =
    let ps = parts bytes in
    record {
      source = int32_fits (last_or 0 (numbers 1 ps));
      num_events_lost = last_is (λ n. n < 2 ^ 64) 0 (numbers 2 ps) (omega arith) (numbers_below 2 ps (parts_spelled bytes are));
      cpu = values_fit (bodies 3 ps);
      unknown = unknown_spelled lost_event_row ps (parts_spelled bytes are);
    }

pub lost_event_fits : (bytes : List ℕ) → AreBytes bytes → lost_event_fault bytes ≡ None → LostEventFits (read_lost_event bytes)
lost_event_fits bytes are none = lost_fits bytes are

-- ---- the member of the oneof that counts

-- flows in an answer, read as one
whole_flow : (body : List ℕ) → Sound response_check 1 body → Whole flow_check body
unfolding response_check
whole_flow body sound = whole flow_check sound.0 body sound.2 sound.1

flows_fit : (bs : List (List ℕ)) → AllByRecursion (Sound response_check 1) bs → FlowFits (read_flow (flat_map (λ b. b) bs))
flows_fit bs all =
    flow_fits (flat_map (λ b. b) bs) (flat_bytes bs (all_weaker (Sound response_check 1) AreBytes (λ b s. s.2) bs all))
    (sound_joined flow_check bs (all_weaker (Sound response_check 1) (Whole flow_check) whole_flow bs all))

-- the run of a member
run_fits : (number : ℕ) (bs : List (List ℕ)) → IsMember number → AllByRecursion (Sound response_check number) bs → MemberFits (read_member number (flat_map (λ b. b) bs))
run_fits number bs (inl at) all =
    subst (λ (n : ℕ). AllByRecursion (Sound response_check n) bs → MemberFits (read_member n (flat_map (λ b. b) bs))) (sym at) (λ all. flows_fit bs all) all
run_fits number bs (inr (inl at)) all = subst (λ (n : ℕ). MemberFits (read_member n (flat_map (λ b. b) bs))) (sym at) tt
run_fits number bs (inr (inr at)) all =
    subst (λ (n : ℕ). AllByRecursion (Sound response_check n) bs → MemberFits (read_member n (flat_map (λ b. b) bs))) (sym at)
    (λ all. lost_fits (flat_map (λ b. b) bs) (flat_bytes bs (all_weaker (Sound response_check 3) AreBytes (λ b s. s.2) bs all))) all

-- the last run, if there is one
run_there : (run : Option (ℕ × List (List ℕ))) → IfSome run (λ r. IsMember r.0 × AllByRecursion (Sound response_check r.0) r.1)
    → IfSome (option_map (λ m. read_member m.0 (flat_map (λ b. b) m.1)) run) MemberFits
run_there None holds = tt
run_there (Some r) holds = run_fits r.0 r.1 holds.0 holds.1

pub response_fits : (bytes : List ℕ) → AreBytes bytes → response_fault bytes ≡ None → ResponseFits (read_response bytes)
unfolding read_response
response_fits bytes are none =
    let ps = parts bytes in
    let sound = (whole response_check 0 bytes are none).sound in
    record {
      response_types = run_there (last_run (members ps)) (run_holds IsMember (Sound response_check) (members ps) (members_sound ps sound));
      node_name = last_is IsUtf8 [] (bodies 1000 ps) IsUtf8-nil (all_weaker (Sound response_check 1000) IsUtf8 name_fits (bodies 1000 ps) (all_sound response_check 1000 ps sound));
      time = stamps_fit (bodies 1001 ps) (all_weaker (Sound response_check 1001) AreBytes (λ b s. s.2) (bodies 1001 ps) (all_sound response_check 1001 ps sound));
      unknown = unknown_spelled response_row ps (parts_spelled bytes are);
    }
