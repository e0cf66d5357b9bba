-- The limits of the calls. In code it is `LONGEST_NAME`.
use Rattle.std.specs.Prelude.{ℕ}

-- the bytes of a node's name, at most
abbrev pub longest_name : ℕ
longest_name = 63
