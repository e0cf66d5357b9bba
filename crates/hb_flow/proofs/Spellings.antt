-- The spelling of fields that are written one after another.
use Rattle.std.proofs.Common.{◌≡◌, ℕ, ◌+◌, ◌-◌, ◌*◌, List, [], ◌∷◌, ◌++◌, length, take, drop, refl, sym, ap, ◌∙◌, append_assoc, arith, length-append}
use Rattle.std.proofs.lemmas.List.{take_at, drop_at, append-nil}
use Rattle.std.proofs.lemmas.List.Concat.{flat_map-append}
use Rattle.hb_wire.specs.Field.{Piece, Body, spelled, spelling}
use Rattle.hb_wire.specs.Varint.{varint}

pub spelling_two : (out mid new : List ℕ) (a b : List Piece) → mid ≡ out ++ spelling a → new ≡ mid ++ spelling b → new ≡ out ++ spelling (a ++ b)
spelling_two out mid new a b e f = f ∙ ap (λ (x : List ℕ). x ++ spelling b) e ∙ append_assoc out (spelling a) (spelling b) ∙ ap (λ (x : List ℕ). out ++ x) (sym (flat_map-append spelled a b))

pub spelling_three : (out mid late new : List ℕ) (a b c : List Piece) → mid ≡ out ++ spelling a → late ≡ mid ++ spelling b → new ≡ late ++ spelling c → new ≡ out ++ spelling (a ++ b ++ c)
spelling_three out mid late new a b c e f g = spelling_two out late new (a ++ b) c (spelling_two out mid late a b e f) g

-- and after them bytes that are kept
pub spelling_kept : (out mid late most new kept : List ℕ) (a b c : List Piece) → mid ≡ out ++ spelling a → late ≡ mid ++ spelling b → most ≡ late ++ spelling c → new ≡ most ++ kept
    → new ≡ out ++ (spelling (a ++ b ++ c) ++ kept)
spelling_kept out mid late most new kept a b c e f g h =
    h ∙ ap (λ (x : List ℕ). x ++ kept) (spelling_three out mid late most a b c e f g) ∙ append_assoc out (spelling (a ++ b ++ c)) kept

-- a tag and a body, and then the length of the body put between them
pub body_closed : (out tagged whole new body : List ℕ) (number start : ℕ) → tagged ≡ out ++ varint (8 * number + 2) → whole ≡ tagged ++ body → start ≡ length tagged
    → new ≡ take start whole ++ varint (length whole - start) ++ drop start whole
    → new ≡ out ++ spelling (record { number = number; content = Body body } ∷ [])
unfolding spelled
body_closed out tagged whole new body number start tag put place closed =
    let front : take start whole ≡ tagged = ap (take start) put ∙ take_at tagged body start (sym place) in
    let rest : drop start whole ≡ body = ap (drop start) put ∙ drop_at tagged body start (sym place) in
    let size : length whole - start ≡ length body = omega (arith, ap length put, length-append tagged body, place) in
    closed ∙ rw (front, rest, size, tag) (simp (append_assoc, append-nil) refl)
