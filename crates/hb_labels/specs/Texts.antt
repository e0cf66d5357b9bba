-- Names, and pieces of text with spaces around them.
use Rattle.std.specs.Prelude.{◌≡◌, ℕ, Bool, true, ◌==◌, ◌||◌, List, [], ◌∷◌, ◌++◌, codes}
use Rattle.std.specs.List.{AllByRecursion}
use Rattle.std.specs.Char.{is_ascii_alphanumeric}

-- an ASCII letter or digit, `-`, `_`, `.` or `/`
abbrev pub is_name_byte : ℕ → Bool
is_name_byte b = is_ascii_alphanumeric b || b == 45 || b == 95 || b == 46 || b == 47

-- a space
abbrev pub is_space : ℕ → Bool
is_space b = b == 32

-- the text has only the bytes of names (it may be empty)
abbrev pub IsName : List ℕ → Type 0
IsName text = AllByRecursion (λ b. is_name_byte b ≡ true) text

-- the text has only spaces, or nothing
abbrev pub AreSpaces : List ℕ → Type 0
AreSpaces text = AllByRecursion (λ b. is_space b ≡ true) text

-- the text is these pieces in their order, with any spaces before, between and behind them
abbrev pub Spaced : List ℕ → List (List ℕ) → Type 0
Spaced text [] = AreSpaces text
Spaced text (piece ∷ pieces) = (gap rest : List ℕ) × AreSpaces gap × (text ≡ gap ++ piece ++ rest)
    × Spaced rest pieces

-- the text is one item or more with commas between them, each spelled as `Spells` says
abbrev pub Joined : {A : Type 0} → (List ℕ → A → Type 0) → List ℕ → List A → Type 0
Joined Spells text [] = ⊥
Joined Spells text (item ∷ []) = Spells text item
Joined Spells text (item ∷ next ∷ items) = (front rest : List ℕ)
    × (text ≡ front ++ codes "," ++ rest) × Spells front item × Joined Spells rest (next ∷ items)
