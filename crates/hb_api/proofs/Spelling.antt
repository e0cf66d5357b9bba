-- The spelling of a request's fields, and the bytes that are kept after them.
use Rattle.std.proofs.Common.{◌≡◌, ℕ, List, ◌++◌, ap, ◌∙◌, append_assoc}
use Rattle.hb_wire.specs.Field.{Piece, spelling}
use Rattle.hb_flow.proofs.Spellings.{spelling_two, spelling_three}

pub spelling_five : (out one two three four five new kept : List ℕ) (a b c d e : List Piece) → one ≡ out ++ spelling a → two ≡ one ++ spelling b → three ≡ two ++ spelling c
    → four ≡ three ++ spelling d → five ≡ four ++ spelling e → new ≡ five ++ kept → new ≡ out ++ (spelling (a ++ b ++ c ++ d ++ e) ++ kept)
spelling_five out one two three four five new kept a b c d e f g h i j k =
    let fields : five ≡ out ++ spelling (a ++ b ++ c ++ d ++ e) =
    spelling_two out four five (a ++ b ++ c ++ d) e (spelling_two out three four (a ++ b ++ c) d (spelling_three out one two three a b c f g h) i) j in
    k ∙ ap (λ (x : List ℕ). x ++ kept) fields ∙ append_assoc out (spelling (a ++ b ++ c ++ d ++ e)) kept
