-- The looks by which a list of looks has grown.
use Rattle.std.proofs.Common.{◌≡◌, List, [], ◌∷◌, ◌++◌, length, arith, drop, sym, ap, ◌∙◌, append_assoc, subst}
use Rattle.std.specs.List.{All}
use Rattle.std.proofs.Math.Seq.{drop-append_seam}
use Rattle.std.proofs.lemmas.List.{append-nil, drop_all}
use Rattle.std.proofs.lemmas.List.Elements.{All-append, All-nil, All-cons}
use Rattle.hb_look.specs.Looks.{LookMade, added}

-- by these
pub added_these : (old all more : List LookMade) → all ≡ old ++ more → added old all ≡ more
added_these old all more e = ap (drop (length old)) e ∙ drop-append_seam old more

-- by none
pub none_added : (old all : List LookMade) → all ≡ old → added old all ≡ []
none_added old all e = ap (drop (length old)) e ∙ drop_all (length old) old (omega arith)

pub listed_none : (old all : List LookMade) → all ≡ old → all ≡ old ++ added old all
listed_none old all e = e ∙ sym (append-nil old) ∙ ap (λ (ls : List LookMade). old ++ ls) (sym (none_added old all e))

pub listed_these : (old all more : List LookMade) → all ≡ old ++ more → all ≡ old ++ added old all
listed_these old all more e = e ∙ ap (λ (ls : List LookMade). old ++ ls) (sym (added_these old all more e))

pub all_none : (P : LookMade → Type 0) (old all : List LookMade) → all ≡ old → All P (added old all)
all_none P old all e = subst (All P) (sym (none_added old all e)) (All-nil P)

pub all_one : (P : LookMade → Type 0) (old all : List LookMade) (look : LookMade) → all ≡ old ++ look ∷ [] → P look → All P (added old all)
all_one P old all look e is = subst (All P) (sym (added_these old all (look ∷ []) e)) (All-cons P look [] is (All-nil P))

-- in two stretches
pub added_both : (a b c : List LookMade) → b ≡ a ++ added a b → c ≡ b ++ added b c → added a c ≡ added a b ++ added b c
added_both a b c first second =
    ap (drop (length a)) (second ∙ ap (λ (ls : List LookMade). ls ++ added b c) first ∙ append_assoc a (added a b) (added b c))
    ∙ drop-append_seam a (added a b ++ added b c)

pub listed_both : (a b c : List LookMade) → b ≡ a ++ added a b → c ≡ b ++ added b c → c ≡ a ++ added a c
listed_both a b c first second =
    second ∙ ap (λ (ls : List LookMade). ls ++ added b c) first ∙ append_assoc a (added a b) (added b c)
    ∙ ap (λ (ls : List LookMade). a ++ ls) (sym (added_both a b c first second))

pub all_both : (P : LookMade → Type 0) (a b c : List LookMade) → b ≡ a ++ added a b → c ≡ b ++ added b c → All P (added a b) → All P (added b c) → All P (added a c)
all_both P a b c first second one two = subst (All P) (sym (added_both a b c first second)) (All-append P (added a b) (added b c) one two)
