-- What is written at the end of a vector, item by item, leaves its front as it was.
use Rattle.std.proofs.Common.{◌≡◌, ℕ, ◌+◌, ◌<◌, ◌≤◌, List, [], ◌∷◌, ◌++◌, length, take, drop, get_or, refl, sym, ap, subst, ◌∙◌, append_assoc, arith}
use Rattle.std.specs.List.{flat_map}
use Rattle.std.proofs.lemmas.List.{take_at, take_all, append-nil, take_more, take-append-drop, length-take}
use Rattle.std.proofs.lemmas.List.Concat.{flat_map-append}
use Rattle.hb_schema.specs.Steps.{IsFront}

-- with more behind it
pub front_more : (old more new : List ℕ) → new ≡ old ++ more → (front : List ℕ) → IsFront front old → IsFront front new
front_more old more new e front is =
    let whole : old ≡ front ++ drop (length front) old = sym (take-append-drop (length front) old) ∙ ap (λ (x : List ℕ). x ++ drop (length front) old) is in
    ap (take (length front)) (e ∙ ap (λ (x : List ℕ). x ++ more) whole ∙ append_assoc front (drop (length front) old) more) ∙ take_at front (drop (length front) old ++ more) (length front) refl

-- of themselves
pub front_itself : (bytes : List ℕ) → IsFront bytes bytes
front_itself bytes = take_all (length bytes) bytes (omega arith)

-- one more item is written behind those before it
pub one_more : {X : Type 0} (of : X → List ℕ) (start out new : List ℕ) (items xs : List X) (i : ℕ) (x : X) → items ≡ xs → i < length items → x ≡ get_or items i x
    → out ≡ start ++ flat_map of (take i xs) → new ≡ out ++ of x → new ≡ start ++ flat_map of (take (i + 1) xs)
one_more of start out new items xs i x same lt is before put =
    let within : i < length xs = subst (λ (ys : List _). i < length ys) same lt in
    let item : get_or xs i x ≡ x = sym (is ∙ ap (λ (ys : List _). get_or ys i x) same) in
    let grown : flat_map of (take (i + 1) xs) ≡ flat_map of (take i xs) ++ of x =
    ap (flat_map of) (take_more xs i x within) ∙ flat_map-append of (take i xs) (get_or xs i x ∷ []) ∙ ap (λ (y : List ℕ). flat_map of (take i xs) ++ y) (append-nil (of (get_or xs i x)) ∙ ap of item) in
    put ∙ ap (λ (y : List ℕ). y ++ of x) before ∙ append_assoc start (flat_map of (take i xs)) (of x) ∙ ap (λ (y : List ℕ). start ++ y) (sym grown)

-- a front is no longer than the bytes
pub front_fits : (front bytes : List ℕ) → IsFront front bytes → length front ≤ length bytes
front_fits front bytes is = omega (arith, ap length is, length-take (length front) bytes)

-- where a field's body starts, behind a front
pub front_within : (front tagged : List ℕ) (start : ℕ) → start ≡ length tagged → IsFront front tagged → length front ≤ start
front_within front tagged start e is = omega (arith, e, front_fits front tagged is)

-- and within what stands there once it is written
pub start_within : (tagged whole : List ℕ) (start : ℕ) → start ≡ length tagged → ((front : List ℕ) → IsFront front tagged → IsFront front whole) → start ≤ length whole
start_within tagged whole start e keeps = omega (arith, e, front_fits tagged whole (keeps tagged (front_itself tagged)))
