-- Bytes that stand behind others, or wait.
use Rattle.std.proofs.Common.{◌≡◌, ℕ, List, ◌++◌, length, take, arith, ap, ◌∙◌, drop, sym}
use Rattle.std.proofs.Math.Seq.{take-append_seam, drop-append_seam}
use Rattle.std.specs.Prelude.{reverse}
use Rattle.std.proofs.lemmas.List.{reverse-append, reverse-reverse, take-append-drop, take_all}

pub front_same : (old now : List ℕ) → now ≡ old → take (length old) now ≡ old
front_same old now e = ap (take (length old)) e ∙ take_all (length old) old (omega arith)

pub front_more : (old now more : List ℕ) → now ≡ old ++ more → take (length old) now ≡ old
front_more old now more e = ap (take (length old)) e ∙ take-append_seam old more

-- what is put behind them and turned round stands before them
pub held_before : (held frame : List ℕ) → reverse (take (length held) (held ++ frame) ++ reverse (drop (length held) (held ++ frame))) ≡ frame ++ reverse held
held_before held frame =
    ap (λ (xs : List ℕ). reverse (xs ++ reverse (drop (length held) (held ++ frame)))) (take-append_seam held frame)
    ∙ ap (λ (xs : List ℕ). reverse (held ++ reverse xs)) (drop-append_seam held frame)
    ∙ reverse-append held (reverse frame)
    ∙ ap (λ (xs : List ℕ). xs ++ reverse held) (reverse-reverse frame)

-- what was taken, and the rest
pub taken_rest : (waiting : List ℕ) (count : ℕ) → waiting ≡ take count waiting ++ drop count waiting
taken_rest waiting count = sym (take-append-drop count waiting)
