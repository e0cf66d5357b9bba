-- What is picked by number from the fields of a canonical spelling.
use Rattle.std.proofs.Common.{◌≡◌, ℕ, zero, suc, ◌-◌, ◌<◌, ◌≤◌, ◌^◌, Bool, true, false, eqb, ◌&&◌, ◌||◌, List, [], ◌∷◌, ◌++◌, length, drop, map, Some, None, refl, sym, ap, ◌∙◌, arith, length-append}
use Rattle.std.specs.List.{AllByRecursion, list_any}
use Rattle.std.proofs.lemmas.Bool.{eq-eqb, or_parts}
use Rattle.std.proofs.lemmas.List.{append-nil, drop_at}
use Rattle.hb_wire.specs.Varint.{varint}
use Rattle.hb_wire.specs.Field.{Content, Varint, Fixed64, Body, Fixed32}
use Rattle.hb_wire.proofs.VarintLemmas.{varint_reads, varint_is, varint_nonempty}
use Rattle.hb_schema.specs.Fields.{Part, varint_in, body_in, numbers_in, varints_at, bodies_at, numbers_at, varints_of, unpacked, last_or, joined, is_varint, is_body, is_body_of, behind_last, bodies_since}
use Rattle.hb_schema.specs.Writing.{number_field, text_field, body_field, body_fields, packed}
use Rattle.hb_schema.proofs.Pieces.{canonical}
use Rattle.hb_schema.proofs.Packing.{varints_after, varints_nil}

pub same_number : (at : ℕ) → eqb at at ≡ true
same_number at = eq-eqb at at refl

-- ---- fields that are passed over

-- a field has the wire types and the number that are asked for
abbrev pub wanted : (Content → Bool) → ℕ → Part → Bool
wanted test at p = test p.field.content && eqb p.field.number at

abbrev pub Passed : (Content → Bool) → ℕ → List Part → Type 0
Passed test at = AllByRecursion (λ p. wanted test at p ≡ false)

-- the wire types of a list of numbers
abbrev pub is_either : Content → Bool
is_either content = is_varint content || is_body content

no_varint : (b : Bool) (c : Content) → (is_varint c && b) ≡ false → varint_in b c ≡ None
no_varint b (Varint value) e = rw e refl
no_varint b (Fixed64 value) e = refl
no_varint b (Body body) e = refl
no_varint b (Fixed32 value) e = refl

no_body : (b : Bool) (c : Content) → (is_body c && b) ≡ false → body_in b c ≡ None
no_body b (Varint value) e = refl
no_body b (Fixed64 value) e = refl
no_body b (Body body) e = rw e refl
no_body b (Fixed32 value) e = refl

no_number : (b : Bool) (c : Content) → (is_either c && b) ≡ false → numbers_in b c ≡ []
no_number b (Varint value) e = rw e refl
no_number b (Fixed64 value) e = refl
no_number b (Body body) e = rw e refl
no_number b (Fixed32 value) e = refl

pub no_varints : (at : ℕ) (ps : List Part) → Passed is_varint at ps → varints_at at ps ≡ []
no_varints at [] passed = refl
no_varints at (p ∷ ps) passed = rw (no_varint (eqb p.field.number at) p.field.content passed.0) (no_varints at ps passed.1)

pub no_bodies : (at : ℕ) (ps : List Part) → Passed is_body at ps → bodies_at at ps ≡ []
no_bodies at [] passed = refl
no_bodies at (p ∷ ps) passed = rw (no_body (eqb p.field.number at) p.field.content passed.0) (no_bodies at ps passed.1)

pub no_numbers : (at : ℕ) (ps : List Part) → Passed is_either at ps → numbers_at at ps ≡ []
no_numbers at [] passed = refl
no_numbers at (p ∷ ps) passed = rw (no_number (eqb p.field.number at) p.field.content passed.0) (no_numbers at ps passed.1)

-- of what is picked from three lists one after another, the second alone counts
pub only_mine : {X : Type 0} (pick : List Part → List X) → ((xs ys : List Part) → pick (xs ++ ys) ≡ pick xs ++ pick ys) → (ps mine us : List Part) → pick ps ≡ [] → pick us ≡ []
    → pick (ps ++ (mine ++ us)) ≡ pick mine
only_mine pick adds ps mine us e f =
    adds ps (mine ++ us) ∙ ap (λ (xs : List _). xs ++ pick (mine ++ us)) e ∙ adds mine us ∙ ap (λ (xs : List _). pick mine ++ xs) f ∙ append-nil (pick mine)

-- ---- members of a oneof

any_none : {A : Type 0} (test : A → Bool) (xs : List A) → AllByRecursion (λ x. test x ≡ false) xs → list_any test xs ≡ false
any_none test [] all = refl
any_none test (x ∷ xs) all = rw all.0 (any_none test xs all.1)

behind_none : {A : Type 0} (test : A → Bool) (xs : List A) → list_any test xs ≡ false → behind_last test xs ≡ xs
behind_none test [] e = refl
behind_none test (x ∷ xs) e = rw e refl

-- where there is no body of another member, all bodies count
pub since_whole : (at : ℕ) (others : List ℕ) (ps : List Part) → AllByRecursion (λ p. is_body_of others p ≡ false) ps → bodies_since at others ps ≡ bodies_at at ps
since_whole at others ps none = ap (bodies_at at) (behind_none (is_body_of others) ps (any_none (is_body_of others) ps none))

module _ (at : ℕ) (others : List ℕ) where
  skip_one : (p : Part) (rest qs : List Part) → wanted is_body at p ≡ false → bodies_since at others rest ≡ bodies_since at others qs → (b : Bool) → list_any (is_body_of others) (p ∷ rest) ≡ b
      → bodies_since at others (p ∷ rest) ≡ bodies_since at others qs
  skip_one p rest qs passed same true e = rw e same
  skip_one p rest qs passed same false e =
      let whole : behind_last (is_body_of others) rest ≡ rest = behind_none (is_body_of others) rest (or_parts (is_body_of others p) (list_any (is_body_of others) rest) e).1 in
      rw (e, no_body (eqb p.field.number at) p.field.content passed) (ap (bodies_at at) (sym whole) ∙ same)

  -- fields with other numbers in front
  pub since_skip : (ps qs : List Part) → Passed is_body at ps → bodies_since at others (ps ++ qs) ≡ bodies_since at others qs
  since_skip [] qs passed = refl
  since_skip (p ∷ ps) qs passed = skip_one p (ps ++ qs) qs passed.0 (since_skip ps qs passed.1) (list_any (is_body_of others) (p ∷ (ps ++ qs))) refl

  -- and nothing else
  pub nothing_since : (ps : List Part) → Passed is_body at ps → bodies_since at others ps ≡ []
  nothing_since [] passed = refl
  nothing_since (p ∷ ps) passed = skip_one p ps [] passed.0 (nothing_since ps passed.1) (list_any (is_body_of others) (p ∷ ps)) refl

-- ---- what is picked of one field

pub number_mine : (at n : ℕ) → last_or 0 (varints_at at (map canonical (number_field at n))) ≡ n
number_mine at zero = refl
number_mine at (suc n) = rw (same_number at) refl

pub text_mine : (at : ℕ) (text : List ℕ) → last_or [] (bodies_at at (map canonical (text_field at text))) ≡ text
text_mine at [] = refl
text_mine at (b ∷ text) = rw (same_number at) refl

pub bodies_mine : (at : ℕ) (bodies : List (List ℕ)) → bodies_at at (map canonical (body_fields at bodies)) ≡ bodies
bodies_mine at [] = refl
bodies_mine at (body ∷ bodies) = rw (same_number at) (ap (λ (bs : List (List ℕ)). body ∷ bs) (bodies_mine at bodies))

pub body_mine : (at : ℕ) (body : List ℕ) → joined (bodies_at at (map canonical (body_field at (Some body)))) ≡ Some body
body_mine at body = rw (same_number at) (ap Some (append-nil body))

pub numbers_mine : (at : ℕ) (body ns : List ℕ) → unpacked body ≡ ns → numbers_at at (map canonical (text_field at body)) ≡ ns
unfolding varints_of
numbers_mine at [] ns e = e
numbers_mine at (b ∷ body) ns e = rw (same_number at) (append-nil (unpacked (b ∷ body)) ∙ e)

-- ---- packed lists

packed_again : (most : ℕ) (ns : List ℕ) → AllByRecursion (λ n. n < 2 ^ 64) ns → length (packed ns) ≤ most → map (λ v. v.0) (varints_of most (packed ns)) ≡ ns
packed_again most [] fits room = ap (map (λ v. v.0)) (varints_nil most)
packed_again most (n ∷ ns) fits room =
    let some = varint_nonempty n in
    let size = length-append (varint n) (packed ns) in
    let read = varint_reads (varint n) (packed ns) n (varint_is n fits.0) in
    let left : drop (length (varint n)) (varint n ++ packed ns) ≡ packed ns = drop_at (varint n) (packed ns) (length (varint n)) refl in
    ap (map (λ v. v.0)) (varints_after most (varint n ++ packed ns) n (length (varint n)) (omega arith) read)
    ∙ ap (λ (bs : List ℕ). n ∷ map (λ v. v.0) (varints_of (most - 1) bs)) left ∙ ap (λ (xs : List ℕ). n ∷ xs) (packed_again (most - 1) ns fits.1 (omega arith))

-- the numbers of a packed list are those that were packed
pub unpacked_again : (ns : List ℕ) → AllByRecursion (λ n. n < 2 ^ 64) ns → unpacked (packed ns) ≡ ns
unpacked_again ns fits = packed_again (length (packed ns)) ns fits (omega arith)
