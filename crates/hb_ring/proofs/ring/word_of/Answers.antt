use Rattle.std.proofs.Common.{ℕ, List, [], ◌∷◌, ◌++◌, ◌≡◌, ◌<◌, ◌≤◌, ◌-◌, ◌+◌, length, take, drop, get_or, inl, inr, sym, ap, ◌∙◌, subst, arith}
use Rattle.std.specs.Int.{w64, to_le_bytes, from_le_bytes}
use Rattle.std.proofs.lemmas.List.{take_all, length-drop, get_or-drop, get_or-take, get_or_past, get_or-replicate, get_or_append_left, get_or-append_right, length-take, length-append}
use Rattle.std.proofs.lemmas.Bool.{cases_lt}
use Rattle.hb_ring.proofs.Copies.{word_spells}
use Rattle.hb_ring.proofs.ring.word_of.Goals as goal

pub returns-in-Some : goal.returns-in-Some
returns-in-Some c =
    let left : List ℕ = drop c.args.from c.args.bytes.now in
    let long : length left ≡ length c.args.bytes.now - c.args.from = length-drop c.args.from c.args.bytes.now in
    let same : take (length c.args.bytes.now - c.args.from) left ≡ left = take_all (length c.args.bytes.now - c.args.from) left (omega (arith, long)) in
    let small : (i : ℕ) → get_or left i 0 < 256 = λ i. subst (λ (x : ℕ). x < 256) (sym (get_or-drop c.args.from c.args.bytes.now i 0)) (c.type_inv.bytes (c.args.from + i)).fits in
    let word : List ℕ = c.in-Some.word.now in
    let first : word ≡ take 8 left = c.in-Some.ensures.cases.same ∙ ap (take 8) same in
    let enough : 8 ≤ length left = subst (λ (l : List ℕ). 8 ≤ length l) same c.in-Some.ensures.cases.enough in
    let cut = ap length first ∙ length-take 8 left in
    ap (λ (n : ℕ). take n (to_le_bytes w64 c.from_le_bytes.result)) (sym long)
    ∙ word_spells left word c.from_le_bytes.result (omega (arith, cut, enough)) small
    (λ i below. ap (λ (l : List ℕ). get_or l i 0) first ∙ get_or-take 8 left i 0 (omega (arith, below)))
    (λ i past. get_or_past word i 0 (omega (arith, past, cut, enough))) c.from_le_bytes.ensures

pub returns-in-None : goal.returns-in-None
returns-in-None c =
    let left : List ℕ = drop c.args.from c.args.bytes.now in
    let long : length left ≡ length c.args.bytes.now - c.args.from = length-drop c.args.from c.args.bytes.now in
    let same : take (length c.args.bytes.now - c.args.from) left ≡ left = take_all (length c.args.bytes.now - c.args.from) left (omega (arith, long)) in
    let small : (i : ℕ) → get_or left i 0 < 256 = λ i. subst (λ (x : ℕ). x < 256) (sym (get_or-drop c.args.from c.args.bytes.now i 0)) (c.type_inv.bytes (c.args.from + i)).fits in
    let front : List ℕ = c.copy_from_slice.new.self in
    let size : ℕ = length (take (length c.args.bytes.now - c.args.from) left) in
    let few : size < 8 = c.in-None.ensures.cases in
    let copied : front ≡ left = c.copy_from_slice.ensures.after ∙ same in
    let zeros : List ℕ = 0 ∷ 0 ∷ 0 ∷ 0 ∷ 0 ∷ 0 ∷ 0 ∷ 0 ∷ [] in
    let word : List ℕ = front ++ drop size zeros in
    let is : c.from_le_bytes-in-None.result ≡ from_le_bytes w64 word = c.from_le_bytes-in-None.ensures in
    let here : length front ≡ size = ap length c.copy_from_slice.ensures.after in
    let equal : size ≡ length left = ap length same in
    let all = length-append front (drop size zeros) in
    let some = length-drop size zeros in
    let none : (i : ℕ) → get_or zeros i 0 ≡ 0 = λ i. elim (cases_lt i 8) [
      | inl below ↦ get_or-replicate 8 i 0 0 below
      | inr past ↦ get_or_past zeros i 0 past
    ] in
    ap (λ (n : ℕ). take n (to_le_bytes w64 c.from_le_bytes-in-None.result)) (sym long)
    ∙ word_spells left word c.from_le_bytes-in-None.result (omega (arith, all, some, here, few)) small
    (λ i below. get_or_append_left front (drop size zeros) 0 i (omega (arith, below, here, equal)) ∙ ap (λ (l : List ℕ). get_or l i 0) copied)
    (λ i past. get_or-append_right front (drop size zeros) size i 0 here (omega (arith, past, equal, few)) ∙ get_or-drop size zeros (i - size) 0 ∙ none (size + (i - size))) is
