-- Going through a packed list varint by varint: each step keeps the fault and the numbers of all.
use Rattle.std.proofs.Common.{◌≡◌, ℕ, zero, suc, ◌+◌, ◌-◌, ◌<◌, ◌≤◌, List, [], ◌∷◌, ◌++◌, length, drop, map, Option, Some, None, refl, sym, ap, ◌∙◌, append_assoc, arith}
use Rattle.std.proofs.lemmas.List.{length-drop, drop-drop}
use Rattle.hb_wire.specs.Reading.{varint_at, varint_from}
use Rattle.hb_schema.specs.Fields.{varints_of}
use Rattle.hb_schema.specs.Faults.{first_varint_fault}
use Rattle.hb_schema.specs.declared.fault.DecodeFault.{DecodeFault}
use Rattle.hb_schema.specs.declared.fault.DecodeFault.TheVariants.{Malformed}

-- no varint starts at the end of the bytes
pub varint_at_nil : varint_at [] ≡ None
unfolding varint_at varint_from
varint_at_nil = refl

pub varints_nil : (most : ℕ) → varints_of most [] ≡ []
unfolding varints_of
varints_nil zero = refl
varints_nil (suc most) = rw varint_at_nil refl

pub packed_fault_nil : (most place : ℕ) → first_varint_fault most place [] ≡ None
unfolding first_varint_fault
packed_fault_nil zero place = refl
packed_fault_nil (suc most) place = refl

-- where no varint starts
pub packed_fault_here : (place most : ℕ) (bytes : List ℕ) → 0 < length bytes → length bytes ≤ most → varint_at bytes ≡ None → first_varint_fault most place bytes ≡ Some (Malformed place)
unfolding first_varint_fault
packed_fault_here place most [] some fits e = absurd (omega arith)
packed_fault_here place zero (b ∷ bytes) some fits e = absurd (omega arith)
packed_fault_here place (suc most) (b ∷ bytes) some fits e = rw e refl

-- where one does
pub packed_fault_after : (place most : ℕ) (bytes : List ℕ) (v n : ℕ) → 0 < length bytes → length bytes ≤ most → varint_at bytes ≡ Some (v, n)
    → first_varint_fault most place bytes ≡ first_varint_fault (most - 1) (place + n) (drop n bytes)
unfolding first_varint_fault
packed_fault_after place most [] v n some fits e = absurd (omega arith)
packed_fault_after place zero (b ∷ bytes) v n some fits e = absurd (omega arith)
packed_fault_after place (suc most) (b ∷ bytes) v n some fits e = let k : suc most - 1 ≡ most = omega arith in rw (e, k) refl

pub varints_after : (most : ℕ) (bytes : List ℕ) (v n : ℕ) → 0 < most → varint_at bytes ≡ Some (v, n) → varints_of most bytes ≡ (v, n) ∷ varints_of (most - 1) (drop n bytes)
unfolding varints_of
varints_after zero bytes v n some e = absurd (omega arith)
varints_after (suc most) bytes v n some e = let k : suc most - 1 ≡ most = omega arith in rw (e, k) refl

module _ (most place at : ℕ) (bytes : List ℕ) (total : Option DecodeFault) (lt : at < length bytes) (fits : length bytes - at ≤ most) where
  pub list_stops : first_varint_fault most (place + at) (drop at bytes) ≡ total → varint_at (drop at bytes) ≡ None → total ≡ Some (Malformed (place + at))
  list_stops so_far e = sym so_far ∙ packed_fault_here (place + at) most (drop at bytes) (omega (arith, length-drop at bytes)) (omega (arith, length-drop at bytes)) e

  pub list_goes_on : (v end : ℕ) → at ≤ end → varint_at (drop at bytes) ≡ Some (v, end - at) → first_varint_fault most (place + at) (drop at bytes) ≡ total
      → first_varint_fault (most - 1) (place + end) (drop end bytes) ≡ total
  list_goes_on v end le e so_far =
      let there : (place + at) + (end - at) ≡ place + end = omega arith in
      let here : at + (end - at) ≡ end = omega arith in
      let after = packed_fault_after (place + at) most (drop at bytes) v (end - at) (omega (arith, length-drop at bytes)) (omega (arith, length-drop at bytes)) e in
      sym (rw (there, drop-drop (end - at) at bytes, here) at after) ∙ so_far

-- the numbers that were put, and those to come, after one more
pub list_grows : {A : Type 0} (of : ℕ → A) (most at end : ℕ) (bytes : List ℕ) (v : ℕ) (before new total : List A) → at < length bytes → length bytes - at ≤ most → at ≤ end
    → varint_at (drop at bytes) ≡ Some (v, end - at) → before ++ map (λ n. of n.0) (varints_of most (drop at bytes)) ≡ total → new ≡ before ++ of v ∷ []
    → new ++ map (λ n. of n.0) (varints_of (most - 1) (drop end bytes)) ≡ total
list_grows of most at end bytes v before new total lt fits le e so_far is =
    let here : at + (end - at) ≡ end = omega arith in
    let rest = map (λ n. of n.0) (varints_of (most - 1) (drop end bytes)) in
    let more : varints_of most (drop at bytes) ≡ (v, end - at) ∷ varints_of (most - 1) (drop end bytes) =
    let found = varints_after most (drop at bytes) v (end - at) (omega arith) e in
    rw (drop-drop (end - at) at bytes, here) at found in
    ap (λ (xs : List _). xs ++ rest) is ∙ append_assoc before (of v ∷ []) rest ∙ ap (λ (vs : List (ℕ × ℕ)). before ++ map (λ n. of n.0) vs) (sym more) ∙ so_far

-- the numbers of varints, one way or the other
pub list_as : {A : Type 0} (of : ℕ → A) (vs : List (ℕ × ℕ)) → map (λ v. of v.0) vs ≡ map of (map (λ v. v.0) vs)
list_as of [] = refl
list_as of (v ∷ vs) = ap (λ (xs : List _). of v.0 ∷ xs) (list_as of vs)
