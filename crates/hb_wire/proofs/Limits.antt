-- How far a varint's number goes, and how reading steps.
use Rattle.std.proofs.Common.{◌≡◌, ℕ, zero, suc, ◌+◌, ◌-◌, ◌*◌, ◌^◌, ◌<◌, ◌≤◌, List, ◌∷◌, Some, None, refl, arith, lit<}
use Rattle.std.specs.Option.{option_map}
use Rattle.std.proofs.lemmas.Bool.{lt-ltb, le-ltb}
use Rattle.std.proofs.Math.Nat.{pow-le-pow_right, pow-suc}
use Rattle.hb_wire.specs.Reading.{varint_from}

pub limit_step : (more : ℕ) → 0 < more → 2 * 128 ^ more ≡ 128 * (2 * 128 ^ (more - 1))
limit_step zero lt = elim lt [ ]
limit_step (suc more) lt = let e : suc more - 1 ≡ more = omega arith in rw (e, pow-suc) (omega arith)

pub limit_top : (more : ℕ) → more ≤ 9 → 2 * 128 ^ more ≤ 2 ^ 64
limit_top more le = let h : 128 ^ more ≤ 128 ^ 9 = pow-le-pow_right (lit< tt) le in omega arith

pub limit_all : (more : ℕ) → 2 ≤ 2 * 128 ^ more
limit_all more = let k : 0 ≤ more = omega arith in let h : 128 ^ 0 ≤ 128 ^ more = pow-le-pow_right (lit< tt) k in omega arith

pub limit_one : (more : ℕ) → 0 < more → 256 ≤ 2 * 128 ^ more
limit_one more lt = let k : 1 ≤ more = omega arith in let h : 128 ^ 1 ≤ 128 ^ more = pow-le-pow_right (lit< tt) k in omega arith

pub step_last : (more b : ℕ) (bytes : List ℕ) → more ≡ 0 → b < 2 → varint_from more (b ∷ bytes) ≡ Some (b, 1)
unfolding varint_from
step_last more b bytes e lt = rw (e, lt-ltb b 2 lt) refl

pub step_past : (more b : ℕ) (bytes : List ℕ) → more ≡ 0 → 2 ≤ b → varint_from more (b ∷ bytes) ≡ None
unfolding varint_from
step_past more b bytes e le = rw (e, le-ltb b 2 le) refl

pub step_ends : (more b : ℕ) (bytes : List ℕ) → 0 < more → b < 128 → varint_from more (b ∷ bytes) ≡ Some (b, 1)
unfolding varint_from
step_ends zero b bytes lt le = elim lt [ ]
step_ends (suc more) b bytes lt le = rw (lt-ltb b 128 le) refl

pub step_on : (more b : ℕ) (bytes : List ℕ) → 0 < more → 128 ≤ b → varint_from more (b ∷ bytes) ≡ option_map (λ rest. (b - 128 + 128 * rest.0, rest.1 + 1)) (varint_from (more - 1) bytes)
unfolding varint_from
step_on zero b bytes lt le = elim lt [ ]
step_on (suc more) b bytes lt le = let e : suc more - 1 ≡ more = omega arith in rw (e, le-ltb b 128 le) refl

pub ruleset read_rules = (limit_step, limit_top, limit_all, limit_one, step_last, step_past, step_ends, step_on)
