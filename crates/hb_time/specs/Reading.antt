-- What private calls read: pieces from the front or the end of a text.
use Rattle.std.specs.Prelude.{◌≡◌, ℕ, ◌<◌, List, ◌++◌, Option, option_map}
use Rattle.std.specs.Borrow.{Bor}
use Rattle.hb_time.specs.declared.day.Day.{Day}
use Rattle.hb_time.specs.Spans.{IsUnit}

-- what a call took from the front of a text, and what stands behind it
abbrev pub taken : {X : Type 0} → Option (X × Bor (List ℕ)) → Option (X × List ℕ)
taken found = option_map (λ both. (both.0, both.1.now)) found

-- what stands before, and what a call took from the end
abbrev pub given : {X : Type 0} → Option (Bor (List ℕ) × X) → Option (List ℕ × X)
given found = option_map (λ both. (both.0.now, both.1)) found

-- the parts of a day that four, two and two digits can spell
pub record FitsDigits (day : Day) : Type 0 where
  pub year : day.year < 10_000
  pub month : day.month < 100
  pub day_of_month : day.day < 100

-- the text is these bytes and a unit of so many nanoseconds
abbrev pub EndsInUnit : List ℕ → List ℕ → ℕ → Type 0
EndsInUnit text digits scale = (unit : List ℕ) × IsUnit unit scale × (text ≡ digits ++ unit)
