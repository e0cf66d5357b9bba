-- The options of `observe`: pairs of a name and a value, in any order.
use Rattle.std.specs.Prelude.{ℕ, Bool, true, false, ◌&&◌, List, [], ◌∷◌, codes, bytes_eq, Option, Some, None, is_none, if◌then◌else◌}
use Rattle.std.specs.List.{list_any}

-- a name that an option may have
abbrev pub is_option : List ℕ → Bool
is_option name = list_any (bytes_eq name) (codes "--capacity" ∷ codes "--slot" ∷ codes "--node"
    ∷ codes "--last" ∷ codes "--first" ∷ codes "--output" ∷ [])

-- the value of the option of this name, where it stands
abbrev pub value : List ℕ → List (List ℕ) → Option (List ℕ)
value name (option ∷ text ∷ rest) = if bytes_eq option name then Some text else value name rest
value name _ = None

-- an option may have this name, and none of the later ones has it
abbrev pub is_new : List ℕ → List (List ℕ) → Bool
is_new name later = is_option name && is_none (value name later)

-- pairs of a name and a value, each name at most once
abbrev pub are_options : List (List ℕ) → Bool
are_options [] = true
are_options (option ∷ []) = false
are_options (option ∷ text ∷ rest) = is_new option rest && are_options rest
