-- Reading a file piece by piece: what was read is the front of the file.
use Rattle.std.proofs.Common.{◌≡◌, ℕ, ◌+◌, ◌<◌, ◌≤◌, List, [], ◌++◌, length, take, drop, Option, Some, None, refl, sym, ap, subst, ◌∙◌, arith, length-append}
use Rattle.std.proofs.Math.Seq.{take-add}
use Rattle.std.proofs.lemmas.List.{length-take, length-drop, take_all, take_at}
use Rattle.hb_edge.specs.Shelf.{ReadsFile}
use Rattle.hb_edge.specs.declared.shelf.Shelved.TheVariants.{Took, End}

-- the bytes read so far are the front of the file, and none of a file that is not there
abbrev pub HasRead : Option (List ℕ) → List ℕ → Type 0
HasRead None bytes = length bytes ≡ 0
HasRead (Some file) bytes = (length bytes ≤ length file) × (bytes ≡ take (length bytes) file)

-- a further piece of the file
pub has_read_more : (file : Option (List ℕ)) (bytes buffer : List ℕ) (n : ℕ) → HasRead file bytes → ReadsFile file (length bytes) (Took n) buffer
    → HasRead file (bytes ++ take n buffer)
has_read_more None bytes buffer n front took = absurd took
has_read_more (Some file) bytes buffer n front took =
    let size : length (take n buffer) ≡ n = ap length took.1 ∙ length-take n (drop (length bytes) file) ∙ omega (arith, length-drop (length bytes) file, took.0) in
    let all : length (bytes ++ take n buffer) ≡ length bytes + n = length-append bytes (take n buffer) ∙ ap (λ (k : ℕ). length bytes + k) size in (
      omega (arith, all, took.0),
      ap (λ (front : List ℕ). front ++ take n buffer) front.1 ∙ ap (λ (more : List ℕ). take (length bytes) file ++ more) took.1
          ∙ sym (take-add (length bytes) n file) ∙ ap (λ (k : ℕ). take k file) (sym all),
    )

-- at the end of the file it was read whole
pub has_read_all : (file : Option (List ℕ)) (bytes buffer : List ℕ) → HasRead file bytes → ReadsFile file (length bytes) End buffer → file ≡ Some bytes
has_read_all None bytes buffer front ended = absurd ended
has_read_all (Some file) bytes buffer front ended = ap Some (sym (front.1 ∙ take_all (length bytes) file ended))

-- more than the limit was read of a file that has more
pub has_read_past : (file : Option (List ℕ)) (bytes : List ℕ) (limit : ℕ) → HasRead file bytes → limit < length bytes
    → (whole : List ℕ) × (file ≡ Some whole) × (limit < length whole)
has_read_past None bytes limit front past = absurd (omega arith)
has_read_past (Some file) bytes limit front past = (file, refl, omega (arith, front.0))

-- at the start nothing was read
pub has_read_none : (file : Option (List ℕ)) → HasRead file []
has_read_none None = refl
has_read_none (Some file) = (omega arith, refl)

-- a buffer that was lent, and written to in its whole length
pub written_back : (size : ℕ) (buffer items : List ℕ) → length buffer ≡ size → take size (buffer ++ drop (length buffer) items) ≡ buffer
written_back size buffer items e = take_at buffer (drop (length buffer) items) size e

-- the bytes after a read, as the code comes to them
pub has_read_on : (file : Option (List ℕ)) (bytes seen new buffer items : List ℕ) (at size n : ℕ) → HasRead file bytes → at ≡ length bytes
    → ReadsFile file at (Took n) buffer → length buffer ≡ size → seen ≡ take size (buffer ++ drop (length buffer) items) → new ≡ bytes ++ take n seen
    → HasRead file new
has_read_on file bytes seen new buffer items at size n front place read long view is =
    let whole : seen ≡ buffer = view ∙ written_back size buffer items long in
    let more : HasRead file (bytes ++ take n buffer) = has_read_more file bytes buffer n front (subst (λ (k : ℕ). ReadsFile file k (Took n) buffer) place read) in
    subst (HasRead file) (sym (is ∙ ap (λ (s : List ℕ). bytes ++ take n s) whole)) more
