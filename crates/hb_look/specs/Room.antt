-- A buffer for one record.
use Rattle.std.specs.Prelude.{ℕ, List}

-- the bytes that are in it, and how many it has room for
pub record Filled : Type 0 where
  pub bytes : List ℕ
  pub room : ℕ
