-- Where words lie: words of different slots, and of different places in a slot, are different words.
use Rattle.std.proofs.Common.{◌≡◌, ◌≢◌, ℕ, suc, ◌+◌, ◌*◌, ◌%◌, ◌<◌, ◌≤◌, List, length, set, get_or, inl, inr, ap, ◌∙◌, arith, mul-le-mul_right, suc-mul}
use Rattle.std.proofs.Math.Nat.{mod-lt}
use Rattle.std.proofs.lemmas.Bool.{cases_lt}
use Rattle.std.proofs.Common.{get_or-set_other}
use Rattle.atomic_table.proofs.Lists.{one_turn}
use Rattle.hb_ring_rule.specs.declared.shape.Shape.{Shape}
use Rattle.hb_ring_rule.specs.Layout.{word_count, slot_at, Begins}
use Rattle.hb_ring_rule.specs.Records.{words_for, IsPart, IsWhole}

next_row : (a b m : ℕ) → a < b → a * m + m ≤ b * m
next_row a b m below = let step : suc a * m ≤ b * m = mul-le-mul_right m below in omega (arith, suc-mul a m, step)

row_within : (a b m k : ℕ) → a < b → k < m → a * m + k < b * m
row_within a b m k below inside = let step = next_row a b m below in omega (arith, step, inside)

-- a word of a slot is within the ring
pub slot_within : (shape : Shape) (position k : ℕ) → k ≤ shape.slot_words → slot_at shape position + k < word_count shape
slot_within shape position k inside =
    let n : ℕ = shape.capacity + 1 in
    let r : ℕ = position % n in
    let m : ℕ = shape.slot_words + 1 in
    let rest : r < n = mod-lt position {m = n} (omega arith) in
    let row : r * m + k < n * m = row_within r n m k rest (omega (arith, inside)) in
    omega (arith, row)

-- one word is in one row, at one place
one_row : (a b m j k : ℕ) → j < m → k < m → a * m + j ≡ b * m + k → (a ≡ b) × (j ≡ k)
one_row a b m j k inside within same = elim (cases_lt a b) [
  | inl below ↦ let step = next_row a b m below in absurd (omega (arith, step, inside, same))
  | inr above ↦ elim (cases_lt b a) [
    | inl below ↦ let step = next_row b a m below in absurd (omega (arith, step, within, same))
    | inr under ↦ let equal : a ≡ b = omega (arith, above, under) in let rows : a * m ≡ b * m = ap (λ (x : ℕ). x * m) equal in (equal, omega (arith, rows, same))
  ]
]

pub one_place : (shape : Shape) (p q j k : ℕ) → j ≤ shape.slot_words → k ≤ shape.slot_words → slot_at shape p + j ≡ slot_at shape q + k
    → (p % (shape.capacity + 1) ≡ q % (shape.capacity + 1)) × (j ≡ k)
one_place shape p q j k inside within same =
    let a : ℕ = p % (shape.capacity + 1) in
    let b : ℕ = q % (shape.capacity + 1) in
    let m : ℕ = shape.slot_words + 1 in
    let rows : a * m + j ≡ b * m + k = omega (arith, same) in
    one_row a b m j k (omega (arith, inside)) (omega (arith, within)) rows

-- two positions that are less than a turn apart have different slots
pub other_slot : (shape : Shape) (p q j k : ℕ) → j ≤ shape.slot_words → k ≤ shape.slot_words → p < q → q ≤ p + shape.capacity → slot_at shape p + j ≢ slot_at shape q + k
other_slot shape p q j k inside within below near same =
    let turn = one_turn p q (shape.capacity + 1) (omega (arith, below)) (omega (arith, near)) (one_place shape p q j k inside within same).0 in
    omega (arith, below, turn)

-- words that begin somewhere still do, where another word is set
pub begins_still : (ring : List ℕ) (at word start : ℕ) (words : List ℕ) → ((k : ℕ) → k < length words → start + k ≢ at) → Begins ring start words → Begins (set ring at word) start words
begins_still ring at word start words apart begin k inside = get_or-set_other ring at (start + k) word 0 (apart k inside) ∙ begin k inside

-- how many words a record has
pub words_fit : (slot_words bytes : ℕ) → bytes ≤ 8 * slot_words → words_for bytes ≤ slot_words
words_fit slot_words bytes fits = omega (arith, fits)

pub part_fits : (slot_words : ℕ) (words : List ℕ) → IsPart slot_words words → length words ≤ 1 + slot_words
part_fits slot_words words part = let room = words_fit slot_words (get_or words 0 0) part.fits in omega (arith, part.count, room)

pub whole_fits : (slot_words : ℕ) (words : List ℕ) → IsWhole slot_words words → length words ≤ 1 + slot_words
whole_fits slot_words words whole = let room = words_fit slot_words (get_or words 0 0) whole.fits in omega (arith, whole.count, room)
