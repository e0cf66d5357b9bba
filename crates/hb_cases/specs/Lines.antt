-- Which lines of a table are cases.
use Rattle.std.specs.Prelude.{ℕ, List, length, slice_index, ◌<◌, ◌≢◌}

-- a line, without blanks around it, that is neither empty nor begins with `#`, which is 35
pub record IsCase (line : List ℕ) : Type 0 where
  pub some : 0 < length line
  pub case : slice_index line 0 ≢ 35
