-- Which texts spell which spans.
use Rattle.std.specs.Prelude.{◌≡◌, ℕ, ◌-◌, ◌*◌, ◌^◌, ◌≤◌, ◌⊎◌, min, List, ◌++◌, codes}
use Rattle.std.specs.Str.Parse.{IsNumeral, digits_value}

-- the text is a number in one or more decimal digits, at most 1,000,000,000
abbrev pub SpellsNumber : List ℕ → ℕ → Type 0
SpellsNumber text number =
    IsNumeral 10 text × (number ≡ digits_value 10 text) × (number ≤ 1_000_000_000)

-- the unit has so many nanoseconds
abbrev pub IsUnit : List ℕ → ℕ → Type 0
IsUnit text nanos =
    ((text ≡ codes "ms") × (nanos ≡ 1_000_000))
    ⊎ (((text ≡ codes "s") × (nanos ≡ 1_000_000_000))
    ⊎ (((text ≡ codes "m") × (nanos ≡ 60_000_000_000))
    ⊎ ((text ≡ codes "h") × (nanos ≡ 3_600_000_000_000))))

-- the text is a number and a unit, and the span stops at 2^64 - 1 nanoseconds
pub record SpellsSpan (text : List ℕ) (nanos : ℕ) : Type 0 where
  pub digits : List ℕ
  pub unit : List ℕ
  pub number : ℕ
  pub scale : ℕ
  pub is_number : SpellsNumber digits number
  pub is_unit : IsUnit unit scale
  pub spelled : text ≡ digits ++ unit
  pub value : nanos ≡ min (number * scale) (2 ^ 64 - 1)
