-- The bytes of a varint, written one after another.
use Rattle.std.proofs.Common.{◌≡◌, ℕ, zero, suc, ◌+◌, ◌-◌, ◌*◌, ◌/◌, ◌%◌, ◌^◌, ◌<◌, ◌≤◌, List, [], ◌∷◌, ◌++◌, length, take, set, refl, sym, ap, ◌∙◌, arith, append_assoc}
use Rattle.std.proofs.lemmas.Bool.{lt-ltb, le-ltb}
use Rattle.std.proofs.lemmas.List.{take_more_set, length-set}
use Rattle.hb_wire.specs.Varint.{varint, varint_of}
use Rattle.hb_wire.proofs.Limits.{limit_step}

-- what the bytes written so far and the number that is left stand for
pub record Stands (bytes : List ℕ) (size left value : ℕ) : Type 0 where
  pub len : length bytes ≡ 10
  pub room : size ≤ 9
  pub below : left < 2 * 128 ^ (9 - size)
  pub so_far : take size bytes ++ varint_of (9 - size) left ≡ varint value

pub of_last : (more n : ℕ) → n < 128 → varint_of more n ≡ n ∷ []
unfolding varint_of
of_last zero n lt = refl
of_last (suc more) n lt = rw (lt-ltb n 128 lt) refl

pub of_more : (more n : ℕ) → 0 < more → 128 ≤ n → varint_of more n ≡ (n % 128 + 128) ∷ varint_of (more - 1) (n / 128)
unfolding varint_of
of_more zero n lt le = elim lt [ ]
of_more (suc more) n lt le = let e : suc more - 1 ≡ more = omega arith in rw (e, le-ltb n 128 le) refl

pub more_left : (more n : ℕ) → n < 2 * 128 ^ more → 128 ≤ n → 0 < more
more_left zero n lt le = absurd (omega arith)
more_left (suc more) n lt le = omega arith

pub rest_below : (more n : ℕ) → n < 2 * 128 ^ more → 0 < more → n / 128 < 2 * 128 ^ (more - 1)
rest_below more n lt pos = omega (arith, limit_step more pos)

pub starts : (bytes : List ℕ) (value : ℕ) → length bytes ≡ 10 → value < 2 ^ 64 → Stands bytes 0 value value
unfolding varint
starts bytes value len lt = record { len = len; room = omega arith; below = omega arith; so_far = refl }

pub goes_on : (bytes : List ℕ) (size left value : ℕ) → Stands bytes size left value → 128 ≤ left → Stands (set bytes size (left % 128 + 128)) (size + 1) (left / 128) value
goes_on bytes size left value kept le =
    let len = kept.len in
    let pos : 0 < 9 - size = more_left (9 - size) left kept.below le in
    let e : 9 - (size + 1) ≡ 9 - size - 1 = omega arith in
    let within : size < length bytes = omega arith in
    let room = kept.room in
    record {
      len = length-set bytes size (left % 128 + 128) ∙ len;
      room = omega arith;
      below = rw e (rest_below (9 - size) left kept.below pos);
      so_far = rw (e, take_more_set bytes size (left % 128 + 128) within, append_assoc (take size bytes) ((left % 128 + 128) ∷ []) (varint_of (9 - size - 1) (left / 128)))
          (ap (λ (x : List ℕ). take size bytes ++ x) (sym (of_more (9 - size) left pos le)) ∙ kept.so_far);
    }

pub ends : (bytes : List ℕ) (size left value : ℕ) → Stands bytes size left value → left < 128 → take (size + 1) (set bytes size left) ≡ varint value
ends bytes size left value kept lt =
    let len = kept.len in
    let room = kept.room in
    let within : size < length bytes = omega arith in
    take_more_set bytes size left within ∙ ap (λ (x : List ℕ). take size bytes ++ x) (sym (of_last (9 - size) left lt)) ∙ kept.so_far
