-- Which calls of a form in memory fail.
use Rattle.std.specs.Prelude.{ℕ, ◌+◌, ◌-◌, ◌^◌, ◌==◌, Bool, List, min}
use Rattle.std.specs.List.{list_any}

-- a count after one more; it stops at the greatest value of its type
abbrev pub one_more : ℕ → ℕ
one_more count = min (count + 1) (2 ^ 64 - 1)

-- the call of this number is one of those that are to fail
abbrev pub is_planned : List ℕ → ℕ → Bool
is_planned fails number = list_any (λ n. n == number) fails
