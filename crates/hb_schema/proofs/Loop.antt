-- Going through a message's bytes field by field: each step keeps the fault and the parts of all.
use Rattle.std.proofs.Common.{◌≡◌, ℕ, zero, suc, ◌+◌, ◌-◌, ◌<◌, ◌≤◌, List, [], ◌∷◌, length, take, drop, Option, Some, None, Err, refl, sym, ap, ◌∙◌, arith}
use Rattle.std.specs.List.{fold}
use Rattle.std.proofs.lemmas.List.{length-drop, drop-drop}
use Rattle.hb_wire.specs.Field.{Piece}
use Rattle.hb_wire.specs.Reading.{field_at, varint_at, varint_from}
use Rattle.hb_schema.specs.Fields.{Part, parts_of}
use Rattle.hb_schema.specs.Faults.{Check, content_fault, first_fault, Answers}
use Rattle.hb_schema.specs.declared.fault.DecodeFault.{DecodeFault}
use Rattle.hb_schema.specs.declared.fault.DecodeFault.TheVariants.{Malformed, BadUtf8, NoMemory}

-- no field starts at the end of the bytes
pub field_at_nil : field_at [] ≡ None
unfolding field_at varint_at varint_from
field_at_nil = refl

pub parts_nil : (most : ℕ) → parts_of most [] ≡ []
unfolding parts_of
parts_nil zero = refl
parts_nil (suc most) = rw field_at_nil refl

pub fault_nil : (check : Check) (most place : ℕ) → first_fault check most place [] ≡ None
unfolding first_fault
fault_nil check zero place = refl
fault_nil check (suc most) place = refl

module _ (check : Check) (place : ℕ) where
  -- where no field starts
  pub fault_here : (most : ℕ) (bytes : List ℕ) → 0 < length bytes → length bytes ≤ most → field_at bytes ≡ None → first_fault check most place bytes ≡ Some (Malformed place)
  unfolding first_fault
  fault_here most [] some fits e = absurd (omega arith)
  fault_here zero (b ∷ bytes) some fits e = absurd (omega arith)
  fault_here (suc most) (b ∷ bytes) some fits e = rw e refl

  -- where a field has a fault
  pub fault_inside : (most : ℕ) (bytes : List ℕ) (p : Piece) (n : ℕ) (f : DecodeFault) → 0 < length bytes → length bytes ≤ most → field_at bytes ≡ Some (p, n)
      → content_fault check (place + n) p ≡ Some f → first_fault check most place bytes ≡ Some f
  unfolding first_fault
  fault_inside most [] p n f some fits e h = absurd (omega arith)
  fault_inside zero (b ∷ bytes) p n f some fits e h = absurd (omega arith)
  fault_inside (suc most) (b ∷ bytes) p n f some fits e h = rw (e, h) refl

  -- where a field has none
  pub fault_after : (most : ℕ) (bytes : List ℕ) (p : Piece) (n : ℕ) → 0 < length bytes → length bytes ≤ most → field_at bytes ≡ Some (p, n)
      → content_fault check (place + n) p ≡ None → first_fault check most place bytes ≡ first_fault check (most - 1) (place + n) (drop n bytes)
  unfolding first_fault
  fault_after most [] p n some fits e h = absurd (omega arith)
  fault_after zero (b ∷ bytes) p n some fits e h = absurd (omega arith)
  fault_after (suc most) (b ∷ bytes) p n some fits e h = let k : suc most - 1 ≡ most = omega arith in rw (e, h, k) refl

pub parts_after : (most : ℕ) (bytes : List ℕ) (p : Piece) (n : ℕ) → 0 < most → field_at bytes ≡ Some (p, n)
    → parts_of most bytes ≡ record { raw = take n bytes; field = p } ∷ parts_of (most - 1) (drop n bytes)
unfolding parts_of
parts_after zero bytes p n some e = absurd (omega arith)
parts_after (suc most) bytes p n some e = let k : suc most - 1 ≡ most = omega arith in rw (e, k) refl

-- what is left at a place has a byte, and no more than there may be
left_some : (at most : ℕ) (bytes : List ℕ) → at < length bytes → length bytes - at ≤ most → (0 < length (drop at bytes)) × (length (drop at bytes) ≤ most)
left_some at most bytes lt fits = (omega (arith, length-drop at bytes), omega (arith, length-drop at bytes))

module _ (check : Check) (most place at end : ℕ) (bytes : List ℕ) (total : Option DecodeFault) (lt : at < length bytes) (fits : length bytes - at ≤ most)
    (so_far : first_fault check most (place + at) (drop at bytes) ≡ total) where
  pub stops_here : field_at (drop at bytes) ≡ None → total ≡ Some (Malformed (place + at))
  stops_here e = let some = left_some at most bytes lt fits in sym so_far ∙ fault_here check (place + at) most (drop at bytes) some.0 some.1 e

  pub stops_inside : (p : Piece) (f : DecodeFault) → at ≤ end → field_at (drop at bytes) ≡ Some (p, end - at) → content_fault check (place + end) p ≡ Some f → total ≡ Some f
  stops_inside p f le e h =
      let some = left_some at most bytes lt fits in
      let there : (place + at) + (end - at) ≡ place + end = omega arith in
      sym so_far ∙ fault_inside check (place + at) most (drop at bytes) p (end - at) f some.0 some.1 e (rw there h)

  pub goes_on : (p : Piece) → at ≤ end → field_at (drop at bytes) ≡ Some (p, end - at) → content_fault check (place + end) p ≡ None
      → first_fault check (most - 1) (place + end) (drop end bytes) ≡ total
  goes_on p le e h =
      let some = left_some at most bytes lt fits in
      let there : (place + at) + (end - at) ≡ place + end = omega arith in
      let here : at + (end - at) ≡ end = omega arith in
      let after = fault_after check (place + at) most (drop at bytes) p (end - at) some.0 some.1 e (rw there h) in
      sym (rw (there, drop-drop (end - at) at bytes, here) at after) ∙ so_far

pub parts_go_on : {M : Type 0} (after : M → Part → M) (most at end : ℕ) (bytes raw : List ℕ) (p : Piece) (m new total : M) → at < length bytes → length bytes - at ≤ most → at ≤ end
    → field_at (drop at bytes) ≡ Some (p, end - at) → raw ≡ take (end - at) (drop at bytes) → fold after m (parts_of most (drop at bytes)) ≡ total
    → new ≡ after m (record { raw = raw; field = p }) → fold after new (parts_of (most - 1) (drop end bytes)) ≡ total
parts_go_on after most at end bytes raw p m new total lt fits le e cut so_far is =
    let here : at + (end - at) ≡ end = omega arith in
    let more = parts_after most (drop at bytes) p (end - at) (omega arith) e in
    let more2 : parts_of most (drop at bytes) ≡ record { raw = take (end - at) (drop at bytes); field = p } ∷ parts_of (most - 1) (drop end bytes) =
    rw (drop-drop (end - at) at bytes, here) at more in
    rw (is, cut) (ap (fold after m) (sym more2) ∙ so_far)

-- a fault inside a field, as a reader answers it
pub stops_at : {X : Type 0} (check : Check) (most place at end : ℕ) (bytes : List ℕ) (total : Option DecodeFault) → at < length bytes → length bytes - at ≤ most
    → first_fault check most (place + at) (drop at bytes) ≡ total → (p : Piece) (e : DecodeFault) (P Q : X → Type 0) → at ≤ end → field_at (drop at bytes) ≡ Some (p, end - at)
    → Answers (Err e) (content_fault check (place + end) p) P → Answers (Err e) total Q
stops_at check most place at end bytes total lt fits so_far p (Malformed x) P Q le e h = stops_inside check most place at end bytes total lt fits so_far p (Malformed x) le e h
stops_at check most place at end bytes total lt fits so_far p (BadUtf8 x) P Q le e h = stops_inside check most place at end bytes total lt fits so_far p (BadUtf8 x) le e h
stops_at check most place at end bytes total lt fits so_far p NoMemory P Q le e h = tt
