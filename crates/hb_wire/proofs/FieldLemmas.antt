-- What reads as a field is what spells one, and the one canonical spelling reads back.
use Rattle.std.proofs.Common.{◌≡◌, ℕ, ◌+◌, ◌-◌, ◌*◌, ◌/◌, ◌%◌, ◌^◌, ◌<◌, ◌≤◌, ◌⊎◌, Bool, true, false, cond, ltb, eqb, ◌&&◌, List, ◌++◌, ◌↔◌, length, take, drop, Option, Some, None, refl, sym, ap, subst, ◌∙◌, append_assoc, arith, inl, inr}
use Rattle.std.specs.Option.{option_map, option_and_then}
use Rattle.std.specs.Int.{w32, w64, from_le_bytes}
use Rattle.std.proofs.lemmas.Bool.{lt-ltb, le-ltb, ltb-true, ltb-false, cases_lt, cases_eq, eq-eqb, ne_eqb, and_parts}
use Rattle.std.proofs.lemmas.List.{take-append-drop, take_at, drop_at, drop-drop, length-take, length-drop, length-append, get_or-drop, get_or-take, get_or_past}
use Rattle.std.proofs.lemmas.Nat.{from_le_bytes-to_le_bytes_4, from_le_bytes-to_le_bytes_8}
use Rattle.hb_wire.specs.Varint.{IsVarint, varint, AreBytes}
use Rattle.hb_wire.specs.Field.{Content, Varint, Fixed64, Body, Fixed32, Piece, wire_type, SpellsContent, IsNumber, SpellsField, spelled_content, spelled, ContentFits, PieceFits, LiesAt}
use Rattle.hb_wire.specs.Reading.{varint_at, fixed64_at, fixed32_at, body_at, content_at, field_at}
use Rattle.std.proofs.Math.Seq.{take-add}
use Rattle.hb_wire.proofs.VarintLemmas.{some_is, mapped, varint_reads, varint_front, varint_found, varint_is, varint_nonempty}

-- ---- what spells a field reads as it

body_reads : (body size rest : List ℕ) → IsVarint size (length body) → body_at (size ++ (body ++ rest)) ≡ Some (Body body, length size + length body)
unfolding body_at
body_reads body size rest is =
    let long : ltb (length (size ++ (body ++ rest)) - length size) (length body) ≡ false = le-ltb _ _ (omega (arith, length-append size (body ++ rest), length-append body rest)) in
    rw (varint_reads size (body ++ rest) (length body) is, long, drop_at size (body ++ rest) (length size) refl, take_at body rest (length body) refl) refl

pub content_reads : (bytes rest : List ℕ) (content : Content) → SpellsContent bytes content → content_at (wire_type content) (bytes ++ rest) ≡ Some (content, length bytes)
unfolding content_at fixed64_at fixed32_at
content_reads bytes rest (Varint value) is = rw (varint_reads bytes rest value is) refl
content_reads bytes rest (Fixed64 value) is =
    let long : ltb (length (bytes ++ rest)) 8 ≡ false = le-ltb _ _ (omega (arith, length-append bytes rest, is.0)) in
    rw (long, take_at bytes rest 8 is.0, is.0, is.1) refl
content_reads bytes rest (Body body) is =
    let regrouped : bytes ++ rest ≡ is.0 ++ (body ++ rest) = ap (λ (x : List ℕ). x ++ rest) is.2 ∙ append_assoc is.0 body rest in
    let sizes : length is.0 + length body ≡ length bytes = omega (arith, length-append is.0 body, ap length is.2) in
    ap body_at regrouped ∙ body_reads body is.0 rest is.1 ∙ ap (λ (k : ℕ). Some (Body body, k)) sizes
content_reads bytes rest (Fixed32 value) is =
    let long : ltb (length (bytes ++ rest)) 4 ≡ false = le-ltb _ _ (omega (arith, length-append bytes rest, is.0)) in
    rw (long, take_at bytes rest 4 is.0, is.0, is.1) refl

wire_type_below : (content : Content) → wire_type content < 8
wire_type_below (Varint value) = omega arith
wire_type_below (Fixed64 value) = omega arith
wire_type_below (Body body) = omega arith
wire_type_below (Fixed32 value) = omega arith

tag_reads : (number kind : ℕ) (tag rest : List ℕ) → IsNumber number → kind < 8 → IsVarint tag (8 * number + kind)
    → field_at (tag ++ rest) ≡ option_map (λ c. (record { number = number; content = c.0 }, length tag + c.1)) (content_at kind rest)
unfolding field_at
tag_reads number kind tag rest is low spells =
    let quotient : (8 * number + kind) / 8 ≡ number = omega arith in
    let remainder : (8 * number + kind) % 8 ≡ kind = omega arith in
    let first : ltb 0 number ≡ true = lt-ltb _ _ is.0 in
    let second : ltb number (2 ^ 29) ≡ true = lt-ltb _ _ is.1 in
    rw (varint_reads tag rest (8 * number + kind) spells, quotient, remainder, first, second, drop_at tag rest (length tag) refl) refl

pub field_reads : (bytes rest : List ℕ) (piece : Piece) → SpellsField bytes piece → field_at (bytes ++ rest) ≡ Some (piece, length bytes)
field_reads bytes rest piece is =
    let tag = is.1 in
    let content = is.2 in
    let regrouped : bytes ++ rest ≡ tag ++ (content ++ rest) = ap (λ (x : List ℕ). x ++ rest) is.5 ∙ append_assoc tag content rest in
    let sizes : length tag + length content ≡ length bytes = omega (arith, length-append tag content, ap length is.5) in
    ap field_at regrouped ∙ tag_reads piece.number (wire_type piece.content) tag (content ++ rest) is.0 (wire_type_below piece.content) is.3
    ∙ ap (λ (o : Option (Content × ℕ)). option_map (λ c. (record { number = piece.number; content = c.0 }, length tag + c.1)) o) (content_reads content rest piece.content is.4)
    ∙ ap (λ (k : ℕ). Some (piece, k)) sizes

-- ---- the canonical spelling

pub spelled_content_is : (content : Content) → ContentFits content → SpellsContent (spelled_content content) content
spelled_content_is (Varint value) fits = varint_is value fits
spelled_content_is (Fixed64 value) fits = (refl, sym (from_le_bytes-to_le_bytes_8 value fits))
spelled_content_is (Body body) fits = (varint (length body), varint_is (length body) fits, refl)
spelled_content_is (Fixed32 value) fits = (refl, sym (from_le_bytes-to_le_bytes_4 value fits))

pub spelled_is : (piece : Piece) → PieceFits piece → SpellsField (spelled piece) piece
unfolding spelled
spelled_is piece fits =
    let below : 8 * piece.number + wire_type piece.content < 2 ^ 64 = omega (arith, fits.0, wire_type_below piece.content) in
    (fits.0, varint (8 * piece.number + wire_type piece.content), spelled_content piece.content, varint_is (8 * piece.number + wire_type piece.content) below, spelled_content_is piece.content fits.1, refl)

pub spelled_some : (piece : Piece) → 0 < length (spelled piece)
unfolding spelled
spelled_some piece =
    let tag : List ℕ = varint (8 * piece.number + wire_type piece.content) in
    omega (arith, length-append tag (spelled_content piece.content), varint_nonempty (8 * piece.number + wire_type piece.content))

pub field_again : (piece : Piece) (rest : List ℕ) → PieceFits piece → field_at (spelled piece ++ rest) ≡ Some (piece, length (spelled piece))
field_again piece rest fits = field_reads (spelled piece) rest piece (spelled_is piece fits)

-- ---- what reads as a field spells it

pub AreBytes_drop : (k : ℕ) (bytes : List ℕ) → AreBytes bytes → AreBytes (drop k bytes)
AreBytes_drop k bytes are i = rw get_or-drop (are (k + i))

pub AreBytes_take : (k : ℕ) (bytes : List ℕ) → AreBytes bytes → AreBytes (take k bytes)
AreBytes_take k bytes are i =
    elim (cases_lt i k) [
      | inl lt ↦ rw (get_or-take k bytes i 0 lt) (are i)
      | inr le ↦ rw (get_or_past (take k bytes) i 0 (omega (arith, length-take k bytes))) (omega arith)
    ]

bound : {A B : Type 0} (f : A → Option B) (o : Option A) (y : B) → option_and_then f o ≡ Some y → (x : A) × (o ≡ Some x) × (f x ≡ Some y)
bound f None y e = absurd cc
bound f (Some x) y e = (x, refl, e)

unless : {A : Type 0} (b : Bool) (x y : A) → cond b None (Some x) ≡ Some y → (b ≡ false) × (x ≡ y)
unless true x y e = absurd cc
unless false x y e = (refl, cc)

only_if : {A : Type 0} (b : Bool) (o : Option A) (y : A) → cond b o None ≡ Some y → (b ≡ true) × (o ≡ Some y)
only_if true o y e = (refl, e)
only_if false o y e = absurd cc

choice : {A : Type 0} (k j : ℕ) (x y z : A) → cond (eqb k j) x y ≡ z → ((k ≡ j) × (x ≡ z)) ⊎ (y ≡ z)
choice k j x y z e =
    elim (cases_eq k j) [
      | inl same ↦ let t : eqb k j ≡ true = eq-eqb k j same in inl (same, sym (rw t refl) ∙ e)
      | inr other ↦ let f : eqb k j ≡ false = ne_eqb k j other in inr (sym (rw f refl) ∙ e)
    ]

from_le_bytes_8 : (bytes : List ℕ) → AreBytes bytes → from_le_bytes w64 bytes < 2 ^ 64
from_le_bytes_8 bytes are = omega (arith, are 0, are 1, are 2, are 3, are 4, are 5, are 6, are 7)

from_le_bytes_4 : (bytes : List ℕ) → AreBytes bytes → from_le_bytes w32 bytes < 2 ^ 32
from_le_bytes_4 bytes are = omega (arith, are 0, are 1, are 2, are 3)

-- what was read at the front as a content
pub record ContentFront (kind : ℕ) (bytes : List ℕ) (content : Content) (size : ℕ) : Type 0 where
  pub kind_is : kind ≡ wire_type content
  pub within : size ≤ length bytes
  pub lies : LiesAt bytes size content
  pub spells : AreBytes bytes → SpellsContent (take size bytes) content
  pub fits : AreBytes bytes → ContentFits content

varint_content : (bytes : List ℕ) (x : ℕ × ℕ) → varint_at bytes ≡ Some x → ContentFront 0 bytes (Varint x.0) x.1
varint_content bytes x e =
    let found = varint_front bytes x.0 x.1 e in
    record {
      kind_is = refl;
      within = found.within;
      lies = tt;
      spells = λ are. varint_found bytes x.0 x.1 are e;
      fits = λ are. (varint_found bytes x.0 x.1 are e).fits;
    }

fixed64_content : (bytes : List ℕ) → 8 ≤ length bytes → ContentFront 1 bytes (Fixed64 (from_le_bytes w64 (take 8 bytes))) 8
fixed64_content bytes long = record {
  kind_is = refl;
  within = long;
  lies = tt;
  spells = λ are. (omega (arith, length-take 8 bytes), refl);
  fits = λ are. from_le_bytes_8 (take 8 bytes) (AreBytes_take 8 bytes are);
}

fixed32_content : (bytes : List ℕ) → 4 ≤ length bytes → ContentFront 5 bytes (Fixed32 (from_le_bytes w32 (take 4 bytes))) 4
fixed32_content bytes long = record {
  kind_is = refl;
  within = long;
  lies = tt;
  spells = λ are. (omega (arith, length-take 4 bytes), refl);
  fits = λ are. from_le_bytes_4 (take 4 bytes) (AreBytes_take 4 bytes are);
}

body_content : (bytes : List ℕ) (x : ℕ × ℕ) → varint_at bytes ≡ Some x → x.0 ≤ length bytes - x.1 → ContentFront 2 bytes (Body (take x.0 (drop x.1 bytes))) (x.1 + x.0)
body_content bytes x e long =
    let found = varint_front bytes x.0 x.1 e in
    let within = found.within in
    let body : List ℕ = take x.0 (drop x.1 bytes) in
    let len : length body ≡ x.0 = omega (arith, length-take x.0 (drop x.1 bytes), length-drop x.1 bytes) in
    let start : x.1 + x.0 - length body ≡ x.1 = omega arith in
    let much : x.1 + x.0 - x.1 ≡ x.0 = omega arith in
    record {
      kind_is = refl;
      within = omega arith;
      lies = (omega arith, rw (start, much) refl);
      spells = λ are. (take x.1 bytes, rw len (varint_found bytes x.0 x.1 are e), take-add x.1 x.0 bytes);
      fits = λ are. let below = (varint_found bytes x.0 x.1 are e).fits in omega arith;
    }

pub content_front : (kind : ℕ) (bytes : List ℕ) (content : Content) (size : ℕ) → content_at kind bytes ≡ Some (content, size) → ContentFront kind bytes content size
unfolding content_at fixed64_at fixed32_at body_at
content_front kind bytes content size e =
    let is_front : (k : ℕ) → kind ≡ k → (r : Content × ℕ) → r ≡ (content, size) → ContentFront k bytes r.0 r.1 → ContentFront kind bytes content size =
    λ k same r made h. subst (λ (k : ℕ). ContentFront k bytes content size) (sym same) (subst (λ (r : Content × ℕ). ContentFront k bytes r.0 r.1) made h) in
    elim (choice kind 0 _ _ _ e) [
      | inl h ↦
          let x = mapped (λ v. (Varint v.0, v.1)) (varint_at bytes) (content, size) h.1 in
          is_front 0 h.0 (Varint x.0.0, x.0.1) (some_is _ _ x.2) (varint_content bytes x.0 x.1)
      | inr e1 ↦ elim (choice kind 1 _ _ _ e1) [
        | inl h ↦
            let g = unless (ltb (length bytes) 8) (Fixed64 (from_le_bytes w64 (take 8 bytes)), 8) (content, size) h.1 in
            is_front 1 h.0 (Fixed64 (from_le_bytes w64 (take 8 bytes)), 8) g.1 (fixed64_content bytes (ltb-false _ _ g.0))
        | inr e2 ↦ elim (choice kind 2 _ _ _ e2) [
          | inl h ↦
              let x = bound (λ size. cond (ltb (length bytes - size.1) size.0) None (Some (Body (take size.0 (drop size.1 bytes)), size.1 + size.0))) (varint_at bytes) (content, size) h.1 in
              let g = unless (ltb (length bytes - x.0.1) x.0.0) (Body (take x.0.0 (drop x.0.1 bytes)), x.0.1 + x.0.0) (content, size) x.2 in
              is_front 2 h.0 (Body (take x.0.0 (drop x.0.1 bytes)), x.0.1 + x.0.0) g.1 (body_content bytes x.0 x.1 (ltb-false _ _ g.0))
          | inr e3 ↦ elim (choice kind 5 _ _ _ e3) [
            | inl h ↦
                let g = unless (ltb (length bytes) 4) (Fixed32 (from_le_bytes w32 (take 4 bytes)), 4) (content, size) h.1 in
                is_front 5 h.0 (Fixed32 (from_le_bytes w32 (take 4 bytes)), 4) g.1 (fixed32_content bytes (ltb-false _ _ g.0))
            | inr e4 ↦ absurd cc
          ]
        ]
      ]
    ]

pub lies_after : (k : ℕ) (bytes : List ℕ) (size : ℕ) (content : Content) → LiesAt (drop k bytes) size content → LiesAt bytes (k + size) content
lies_after k bytes size (Varint value) h = tt
lies_after k bytes size (Fixed64 value) h = tt
lies_after k bytes size (Body body) h =
    let within = h.0 in
    let much : k + size - (k + size - length body) ≡ size - (size - length body) = omega arith in
    let start : k + size - length body ≡ k + (size - length body) = omega arith in
    (omega arith, rw (much, start) (ap (λ (x : List ℕ). take (size - (size - length body)) x) (sym (drop-drop (size - length body) k bytes)) ∙ h.1))
lies_after k bytes size (Fixed32 value) h = tt

-- what was read at the front as a field
pub record FieldFront (bytes : List ℕ) (piece : Piece) (size : ℕ) : Type 0 where
  pub some : 0 < size
  pub within : size ≤ length bytes
  pub number : IsNumber piece.number
  pub lies : LiesAt bytes size piece.content
  pub spells : AreBytes bytes → SpellsField (take size bytes) piece
  pub fits : AreBytes bytes → PieceFits piece

front_of : (bytes : List ℕ) (tag : ℕ × ℕ) (c : Content × ℕ) → varint_at bytes ≡ Some tag → IsNumber (tag.0 / 8) → content_at (tag.0 % 8) (drop tag.1 bytes) ≡ Some c
    → FieldFront bytes (record { number = tag.0 / 8; content = c.0 }) (tag.1 + c.1)
front_of bytes tag c e is e' =
    let first = varint_front bytes tag.0 tag.1 e in
    let second = content_front (tag.0 % 8) (drop tag.1 bytes) c.0 c.1 e' in
    let some = first.some in
    let within = first.within in
    let fits_in : c.1 ≤ length (drop tag.1 bytes) = second.within in
    let kind_is = second.kind_is in
    let whole : 8 * (tag.0 / 8) + wire_type c.0 ≡ tag.0 = omega arith in
    record {
      some = omega arith;
      within = omega (arith, length-drop tag.1 bytes);
      number = is;
      lies = lies_after tag.1 bytes c.1 c.0 second.lies;
      spells = λ are. (is, take tag.1 bytes, take c.1 (drop tag.1 bytes), rw whole (varint_found bytes tag.0 tag.1 are e), second.spells (AreBytes_drop tag.1 bytes are), take-add tag.1 c.1 bytes);
      fits = λ are. (is, second.fits (AreBytes_drop tag.1 bytes are));
    }

tagged_front : (bytes : List ℕ) (tag : ℕ × ℕ) (piece : Piece) (size : ℕ) → varint_at bytes ≡ Some tag
    → cond (ltb 0 (tag.0 / 8) && ltb (tag.0 / 8) (2 ^ 29)) (option_map {U = Piece × ℕ} (λ c. (record { number = tag.0 / 8; content = c.0 }, tag.1 + c.1)) (content_at (tag.0 % 8) (drop tag.1 bytes))) None ≡ Some (piece, size)
    → FieldFront bytes piece size
tagged_front bytes tag piece size e e' =
    let test = only_if (ltb 0 (tag.0 / 8) && ltb (tag.0 / 8) (2 ^ 29)) (option_map (λ c. (record { number = tag.0 / 8; content = c.0 }, tag.1 + c.1)) (content_at (tag.0 % 8) (drop tag.1 bytes))) (piece, size) e' in
    let both = and_parts (ltb 0 (tag.0 / 8)) (ltb (tag.0 / 8) (2 ^ 29)) test.0 in
    let is : IsNumber (tag.0 / 8) = (ltb-true _ _ both.0, ltb-true _ _ both.1) in
    let c = mapped (λ c. (record { number = tag.0 / 8; content = c.0 }, tag.1 + c.1)) (content_at (tag.0 % 8) (drop tag.1 bytes)) (piece, size) test.1 in
    subst (λ (r : Piece × ℕ). FieldFront bytes r.0 r.1) (some_is (record { number = tag.0 / 8; content = c.0.0 }, tag.1 + c.0.1) (piece, size) c.2) (front_of bytes tag c.0 e is c.1)

pub field_front : (bytes : List ℕ) (piece : Piece) (size : ℕ) → field_at bytes ≡ Some (piece, size) → FieldFront bytes piece size
unfolding field_at
field_front bytes piece size e =
    let tag = bound (λ tag. cond (ltb 0 (tag.0 / 8) && ltb (tag.0 / 8) (2 ^ 29)) (option_map (λ c. (record { number = tag.0 / 8; content = c.0 }, tag.1 + c.1)) (content_at (tag.0 % 8) (drop tag.1 bytes))) None) (varint_at bytes) (piece, size) e in
    tagged_front bytes tag.0 piece size tag.1 tag.2

pub field_one : (a b x y : List ℕ) (p q : Piece) → SpellsField a p → SpellsField b q → a ++ x ≡ b ++ y → (a ≡ b) × (p ≡ q)
field_one a b x y p q first second e =
    let same : (p, length a) ≡ (q, length b) = some_is _ _ (sym (field_reads a x p first) ∙ ap field_at e ∙ field_reads b y q second) in
    let sizes : length a ≡ length b = ap (λ (r : Piece × ℕ). r.1) same in
    (sym (take_at a x (length a) refl) ∙ ap (λ (s : List ℕ). take (length a) s) e ∙ take_at b y (length a) (sym sizes), ap (λ (r : Piece × ℕ). r.0) same)

pub field_exact : (bytes : List ℕ) (piece : Piece) (size : ℕ) → AreBytes bytes → (field_at bytes ≡ Some (piece, size)) ↔ ((size ≤ length bytes) × SpellsField (take size bytes) piece)
field_exact bytes piece size are = (
  λ e. let found = field_front bytes piece size e in (found.within, found.spells are),
  λ h.
      let len : length (take size bytes) ≡ size = omega (arith, length-take size bytes, h.0) in
      ap field_at (sym (take-append-drop size bytes)) ∙ field_reads (take size bytes) (drop size bytes) piece h.1 ∙ ap (λ (k : ℕ). Some (piece, k)) len,
)
