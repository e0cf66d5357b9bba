-- What is put behind bytes one field after another is the spelling.
use Rattle.std.proofs.Common.{◌≡◌, ℕ, zero, suc, ◌+◌, ◌-◌, ◌*◌, ◌<◌, List, [], ◌∷◌, ◌++◌, length, take, drop, map, Option, Some, None, refl, sym, ap, ◌∙◌, append_assoc, arith, length-append}
use Rattle.std.specs.Prelude.{◌==◌, false}
use Rattle.std.specs.Option.{option_map}
use Rattle.std.proofs.lemmas.List.{append-nil, take_at, drop_at}
use Rattle.std.proofs.lemmas.List.Concat.{flat_map-append}
use Rattle.std.proofs.lemmas.List.Folds.{flat_map-map}
use Rattle.hb_wire.specs.Varint.{varint}
use Rattle.hb_wire.proofs.VarintLemmas.{varint_nonempty}
use Rattle.hb_wire.specs.Field.{Piece, Body, spelled, spelling}
use Rattle.hb_schema.specs.Rows.{Row, Done, Number, Numbers, Text, Texts, Message, Messages, Raw, Values, Meaning}
use Rattle.hb_schema.specs.Writing.{varint_of, number_field, text_field, body_field, body_fields, packed, pieces, writes}
use Rattle.hb_schema.specs.Steps.{number_onto, text_onto, body_onto, bodies_onto, onto, kept_onto}

number_is : (at : ℕ) (out : List ℕ) (n : ℕ) → number_onto at out n ≡ out ++ spelling (number_field at n)
number_is at out zero = sym (append-nil out)
number_is at out (suc n) = ap (λ (x : List ℕ). out ++ x) (sym (append-nil _))

text_is : (at : ℕ) (out text : List ℕ) → text_onto at out text ≡ out ++ spelling (text_field at text)
text_is at out [] = sym (append-nil out)
text_is at out (b ∷ text) = ap (λ (x : List ℕ). out ++ x) (sym (append-nil _))

body_is : (at : ℕ) (out : List ℕ) (body : Option (List ℕ)) → body_onto at out body ≡ out ++ spelling (body_field at body)
body_is at out None = sym (append-nil out)
body_is at out (Some body) = ap (λ (x : List ℕ). out ++ x) (sym (append-nil _))

bodies_are : (at : ℕ) (out : List ℕ) (bodies : List (List ℕ)) → bodies_onto at out bodies ≡ out ++ spelling (body_fields at bodies)
bodies_are at out bodies = ap (λ (x : List ℕ). out ++ x) (sym (flat_map-map spelled (λ body. record { number = at; content = Body body }) bodies))

-- one field, and then the others
then_rest : (out one : List ℕ) (first others : List Piece) (whole : List ℕ) → one ≡ out ++ spelling first → whole ≡ one ++ spelling others → whole ≡ out ++ spelling (first ++ others)
then_rest out one first others whole e f = f ∙ ap (λ (x : List ℕ). x ++ spelling others) e ∙ append_assoc out (spelling first) (spelling others) ∙ ap (λ (x : List ℕ). out ++ x) (sym (flat_map-append spelled first others))

onto_is : (row : Row) (out : List ℕ) (vs : Values row) → onto row out vs ≡ out ++ spelling (pieces row vs)
unfolding pieces
onto_is (Done keeps) out vs = sym (append-nil out)
onto_is (Number at kind rest) out vs = then_rest out _ (number_field at (varint_of kind vs.0)) (pieces rest vs.1) _ (number_is at out (varint_of kind vs.0)) (onto_is rest _ vs.1)
onto_is (Numbers at kind rest) out vs =
    then_rest out _ (text_field at (packed (map (varint_of kind) vs.0))) (pieces rest vs.1) _ (text_is at out (packed (map (varint_of kind) vs.0))) (onto_is rest _ vs.1)
onto_is (Text at rest) out vs = then_rest out _ (text_field at vs.0) (pieces rest vs.1) _ (text_is at out vs.0) (onto_is rest _ vs.1)
onto_is (Texts at rest) out vs = then_rest out _ (body_fields at vs.0) (pieces rest vs.1) _ (bodies_are at out vs.0) (onto_is rest _ vs.1)
onto_is (Message at others row rest) out vs =
    then_rest out _ (body_field at (option_map (writes row) vs.0)) (pieces rest vs.1) _ (body_is at out (option_map (writes row) vs.0)) (onto_is rest _ vs.1)
onto_is (Messages at row rest) out vs = then_rest out _ (body_fields at (map (writes row) vs.0)) (pieces rest vs.1) _ (bodies_are at out (map (writes row) vs.0)) (onto_is rest _ vs.1)
onto_is (Raw at others rest) out vs = then_rest out _ (body_field at vs.0) (pieces rest vs.1) _ (body_is at out vs.0) (onto_is rest _ vs.1)

-- a whole message
pub whole_onto : (row : Row) (out : List ℕ) (m : Meaning row) → kept_onto (onto row out m.0) m.1 ≡ out ++ writes row m
whole_onto row out m = ap (λ (x : List ℕ). x ++ m.1) (onto_is row out m.0) ∙ append_assoc out (spelling (pieces row m.0)) m.1

-- a body that is not empty
pub text_some : (at : ℕ) (out body : List ℕ) → 0 < length body → text_onto at out body ≡ out ++ spelled (record { number = at; content = Body body })
text_some at out [] some = absurd (omega arith)
text_some at out (b ∷ body) some = refl

-- a number that is not 0
pub not_zero : (n : ℕ) → (n == 0) ≡ false → 0 < n
not_zero zero e = absurd cc
not_zero (suc n) e = omega arith

-- varints of some numbers are some bytes
pub packed_some : (numbers : List ℕ) → 0 < length numbers → 0 < length (packed numbers)
packed_some [] some = absurd (omega arith)
packed_some (n ∷ numbers) some = omega (arith, varint_nonempty n, length-append (varint n) (packed numbers))

-- a tag and a body, and then the length of the body put between them
pub body_closed : (out tagged whole new body : List ℕ) (number start : ℕ) → tagged ≡ out ++ varint (8 * number + 2) → whole ≡ tagged ++ body → start ≡ length tagged
    → new ≡ take start whole ++ varint (length whole - start) ++ drop start whole → new ≡ out ++ spelled (record { number = number; content = Body body })
unfolding spelled
body_closed out tagged whole new body number start tag put place closed =
    let front : take start whole ≡ tagged = ap (take start) put ∙ take_at tagged body start (sym place) in
    let rest : drop start whole ≡ body = ap (drop start) put ∙ drop_at tagged body start (sym place) in
    let size : length whole - start ≡ length body = omega (arith, ap length put, length-append tagged body, place) in
    closed ∙ rw (front, rest, size, tag) (simp append_assoc refl)
