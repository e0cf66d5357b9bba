-- The Gregorian calendar, taken back to the year 0 as ISO 8601 does, with its days counted from
-- 0000-01-01.
use Rattle.std.specs.Prelude.{ℕ, zero, suc, ◌+◌, ◌-◌, ◌%◌, ◌<◌, ◌≤◌, Bool, not, ◌&&◌, ◌||◌, ◌==◌, if◌then◌else◌}
use Rattle.hb_time.specs.declared.day.Day.{Day}

-- every fourth year has a day more, but of the centuries only every fourth
abbrev pub is_leap : ℕ → Bool
is_leap year = (year % 4 == 0) && (not (year % 100 == 0) || (year % 400 == 0))

-- how many days a year has
abbrev pub days_of_year : ℕ → ℕ
days_of_year year = if is_leap year then 366 else 365

-- and a month of it
abbrev pub days_of_month : ℕ → ℕ → ℕ
days_of_month year month =
    if month == 2 then (if is_leap year then 29 else 28)
    else (if (month == 4) || (month == 6) || (month == 9) || (month == 11) then 30 else 31)

-- the days from 0000-01-01 to the first of January of this year
unfoldable pub days_before_year : ℕ → ℕ
days_before_year zero = 0
days_before_year (suc year) = days_before_year year + days_of_year year

-- the days of the first so many months of the year
unfoldable pub days_of_months : ℕ → ℕ → ℕ
days_of_months year zero = 0
days_of_months year (suc month) = days_of_months year month + days_of_month year (suc month)

-- the calendar has the day, and its year has four digits
pub record IsDay (day : Day) : Type 0 where
  pub year : day.year < 10_000
  pub month : (1 ≤ day.month) × (day.month ≤ 12)
  pub day_of_month : (1 ≤ day.day) × (day.day ≤ days_of_month day.year day.month)

-- the days from 0000-01-01 to the day
unfoldable pub day_number : Day → ℕ
day_number day =
    days_before_year day.year + days_of_months day.year (day.month - 1) + (day.day - 1)
