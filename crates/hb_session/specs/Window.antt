-- The window of a log.
use Rattle.std.specs.Prelude.{ℕ, ◌-◌, List, length, drop, min}

-- the positions of the last `cap` records of the first `top`: from `window_start top cap` up to
-- `top`
abbrev pub window_start : ℕ → ℕ → ℕ
window_start top cap = top - min top cap

-- the last `cap` items of a list, in their order
abbrev pub window : {A : Type 0} → ℕ → List A → List A
window cap log = drop (window_start (length log) cap) log
