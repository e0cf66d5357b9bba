-- Bytes that divide into fields with no fault, and then more bytes: the parts of both.
use Rattle.std.proofs.Common.{◌≡◌, ℕ, zero, suc, ◌+◌, ◌-◌, ◌<◌, ◌≤◌, List, [], ◌∷◌, ◌++◌, length, take, drop, Option, Some, None, refl, sym, ap, subst, ◌∙◌, append_assoc, arith}
use Rattle.std.specs.Option.{option_or}
use Rattle.std.specs.List.{AllByRecursion, flat_map}
use Rattle.std.proofs.lemmas.List.{length-drop, length-take, take-append-drop, take_at, drop_at}
use Rattle.hb_wire.specs.Varint.{AreBytes}
use Rattle.hb_wire.specs.Field.{Content, Varint, Fixed64, Body, Fixed32, Piece, SpellsField, LiesAt}
use Rattle.hb_wire.specs.Reading.{field_at}
use Rattle.hb_wire.proofs.FieldLemmas.{field_front, field_reads, AreBytes_drop, AreBytes_take}
use Rattle.hb_flow.specs.Fields.{Part, parts_of, parts}
use Rattle.hb_flow.specs.Faults.{Check, content_fault, first_fault, message_fault}
use Rattle.hb_schema.specs.declared.fault.DecodeFault.{DecodeFault}
use Rattle.hb_flow.proofs.Loop.{parts_nil, parts_after, fault_here}

-- what reading finds at the front: a field or none
pub data Read (bytes : List ℕ) : Type 0 where
  Found : (p : Piece) (n : ℕ) → field_at bytes ≡ Some (p, n) → Read bytes
  Nothing : field_at bytes ≡ None → Read bytes

-- which of them reading gives
pub read_as : (bytes : List ℕ) (o : Option (Piece × ℕ)) → field_at bytes ≡ o → Read bytes
read_as bytes None e = Nothing e
read_as bytes (Some r) e = Found r.0 r.1 e

-- more looks than bytes find no more parts
pub parts_enough : (most : ℕ) (bytes : List ℕ) (m : ℕ) → length bytes ≤ most → length bytes ≤ m → parts_of most bytes ≡ parts_of m bytes
unfolding parts_of
parts_enough most [] m fits room = parts_nil most ∙ sym (parts_nil m)
parts_enough zero (b ∷ bytes) m fits room = absurd (omega arith)
parts_enough (suc most) (b ∷ bytes) zero fits room = absurd (omega arith)
parts_enough (suc most) (b ∷ bytes) (suc m) fits room =
    elim (read_as (b ∷ bytes) _ refl) [
      | Found p n e ↦
          let found = field_front (b ∷ bytes) p n e in
          let some = found.some in
          let less = length-drop n (b ∷ bytes) in
          let rest = parts_enough most (drop n (b ∷ bytes)) m (omega arith) (omega arith) in
          rw e (ap (λ (ps : List Part). record { raw = take n (b ∷ bytes); field = p } ∷ ps) rest)
      | Nothing e ↦ rw e refl
    ]

-- the part of a field of so many bytes at the front
abbrev pub part_at : List ℕ → Piece → ℕ → Part
part_at bytes p n = record { raw = take n bytes; field = p }

-- the parts, after the first
pub parts_first : (bytes : List ℕ) (p : Piece) (n : ℕ) → field_at bytes ≡ Some (p, n) → parts bytes ≡ part_at bytes p n ∷ parts (drop n bytes)
parts_first bytes p n e =
    let found = field_front bytes p n e in
    let some = found.some in
    let within = found.within in
    let less = length-drop n bytes in
    parts_after (length bytes) bytes p n (omega arith) e ∙ ap (λ (ps : List Part). part_at bytes p n ∷ ps) (parts_enough (length bytes - 1) (drop n bytes) (length (drop n bytes)) (omega arith) (omega arith))

-- whatever comes after the bytes, their parts are the first
abbrev pub Joins : List ℕ → Type 0
Joins bytes = (rest : List ℕ) → parts (bytes ++ rest) ≡ parts bytes ++ parts rest

-- no bytes join
joins_nil : Joins []
joins_nil rest = ap (λ (ps : List Part). ps ++ parts rest) (sym (parts_nil 0))

-- bytes join where those after their first field do
joins_step : (bytes : List ℕ) (p : Piece) (n : ℕ) → AreBytes bytes → field_at bytes ≡ Some (p, n) → Joins (drop n bytes) → Joins bytes
joins_step bytes p n are e joins rest =
    let found = field_front bytes p n e in
    let within = found.within in
    let len : length (take n bytes) ≡ n = omega (arith, length-take n bytes) in
    let regrouped : bytes ++ rest ≡ take n bytes ++ (drop n bytes ++ rest) = ap (λ (x : List ℕ). x ++ rest) (sym (take-append-drop n bytes)) ∙ append_assoc (take n bytes) (drop n bytes) rest in
    let first : field_at (bytes ++ rest) ≡ Some (p, n) =
    ap field_at regrouped ∙ field_reads (take n bytes) (drop n bytes ++ rest) p (found.spells are) ∙ ap (λ (k : ℕ). Some (p, k)) len in
    let left : drop n (bytes ++ rest) ≡ drop n bytes ++ rest = ap (drop n) regrouped ∙ drop_at (take n bytes) (drop n bytes ++ rest) n len in
    let front : take n (bytes ++ rest) ≡ take n bytes = ap (take n) regrouped ∙ take_at (take n bytes) (drop n bytes ++ rest) n len in
    parts_first (bytes ++ rest) p n first
    ∙ ap (λ (x : List ℕ). record { raw = x; field = p } ∷ parts (drop n (bytes ++ rest))) front
    ∙ ap (λ (x : List ℕ). part_at bytes p n ∷ parts x) left ∙ ap (λ (ps : List Part). part_at bytes p n ∷ ps) (joins rest)
    ∙ ap (λ (ps : List Part). ps ++ parts rest) (sym (parts_first bytes p n e))

-- the bytes of a body, with no fault at some place
abbrev pub Sound : Check → ℕ → List ℕ → Type 0
Sound check number body = (place : ℕ) × (check number place body ≡ None) × AreBytes body

abbrev pub SoundContent : Check → ℕ → Content → Type 0
SoundContent check number (Body body) = Sound check number body
SoundContent check number (Varint value) = Unit {0}
SoundContent check number (Fixed64 value) = Unit {0}
SoundContent check number (Fixed32 value) = Unit {0}

abbrev pub SoundPart : Check → Part → Type 0
SoundPart check part = SoundContent check part.field.number part.field.content

-- a content with no fault, among bytes
sound_content : (check : Check) (end number n : ℕ) (content : Content) (bytes : List ℕ) → AreBytes bytes → LiesAt bytes n content
    → content_fault check end (record { number = number; content = content }) ≡ None → SoundContent check number content
sound_content check end number n (Varint value) bytes are lies none = tt
sound_content check end number n (Fixed64 value) bytes are lies none = tt
sound_content check end number n (Body body) bytes are lies none =
    (end - length body, none, subst AreBytes lies.1 (AreBytes_take (n - (n - length body)) (drop (n - length body) bytes) (AreBytes_drop (n - length body) bytes are)))
sound_content check end number n (Fixed32 value) bytes are lies none = tt

-- where neither of two is there
neither : (x y : Option DecodeFault) → option_or x y ≡ None → (x ≡ None) × (y ≡ None)
neither None y e = (refl, e)
neither (Some x) y e = absurd cc

-- what bytes with no fault are
pub record Whole (check : Check) (bytes : List ℕ) : Type 0 where
  pub joins : Joins bytes
  pub sound : AllByRecursion (SoundPart check) (parts bytes)

-- bytes with no fault join, and the bodies in them have none
whole_from : (check : Check) (most place : ℕ) (bytes : List ℕ) → AreBytes bytes → length bytes ≤ most → first_fault check most place bytes ≡ None → Whole check bytes
unfolding first_fault
whole_from check most place [] are fits none = record { joins = joins_nil; sound = subst (AllByRecursion (SoundPart check)) (sym (parts_nil 0)) tt }
whole_from check zero place (b ∷ bytes) are fits none = absurd (omega arith)
whole_from check (suc most) place (b ∷ bytes) are fits none =
    let some : 0 < length (b ∷ bytes) = omega arith in
    elim (read_as (b ∷ bytes) _ refl) [
      | Found p n e ↦
          let found = field_front (b ∷ bytes) p n e in
          let least = found.some in
          let less = length-drop n (b ∷ bytes) in
          let both = neither (content_fault check (place + n) p) (first_fault check most (place + n) (drop n (b ∷ bytes))) (rw e at none) in
          let rest = whole_from check most (place + n) (drop n (b ∷ bytes)) (AreBytes_drop n (b ∷ bytes) are) (omega arith) both.1 in
          record {
            joins = joins_step (b ∷ bytes) p n are e rest.joins;
            sound = subst (AllByRecursion (SoundPart check)) (sym (parts_first (b ∷ bytes) p n e)) (sound_content check (place + n) p.number n p.content (b ∷ bytes) are found.lies both.0, rest.sound);
          }
      | Nothing e ↦ let fault = fault_here check place (suc most) (b ∷ bytes) some fits e in absurd cc
    ]

-- the same of a whole message
pub whole : (check : Check) (place : ℕ) (bytes : List ℕ) → AreBytes bytes → message_fault check place bytes ≡ None → Whole check bytes
whole check place bytes are none = whole_from check (length bytes) place bytes are (omega arith) none

-- the parts of bodies that are read as one
pub parts_joined : (bodies : List (List ℕ)) → AllByRecursion Joins bodies → parts (flat_map (λ b. b) bodies) ≡ flat_map parts bodies
parts_joined [] join = parts_nil 0
parts_joined (body ∷ bodies) join = join.0 (flat_map (λ b. b) bodies) ∙ ap (λ (ps : List Part). parts body ++ ps) (parts_joined bodies join.1)

-- what is spelled field by field divides into these parts
pub spelled_divide : (ps : List Part) → AllByRecursion (λ p. SpellsField p.raw p.field) ps → parts (flat_map (λ p. p.raw) ps) ≡ ps
spelled_divide [] spelled = parts_nil 0
spelled_divide (p ∷ ps) spelled =
    let rest = flat_map (λ (q : Part). q.raw) ps in
    parts_first (p.raw ++ rest) p.field (length p.raw) (field_reads p.raw rest p.field spelled.0)
    ∙ ap (λ (raw : List ℕ). record { raw = raw; field = p.field } ∷ parts (drop (length p.raw) (p.raw ++ rest))) (take_at p.raw rest (length p.raw) refl)
    ∙ ap (λ (bs : List ℕ). p ∷ parts bs) (drop_at p.raw rest (length p.raw) refl)
    ∙ ap (λ (qs : List Part). p ∷ qs) (spelled_divide ps spelled.1)
