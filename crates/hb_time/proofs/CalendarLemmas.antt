-- The calendar's day numbers are the kit's.
use Rattle.std.proofs.Common.{Result, Ok, Err, Some, IfOk, to_z, w8, w16, ◌≡◌, ℕ, zero, suc, ◌+◌, ◌-◌, ◌<◌, ◌≤◌, refl, sym, ap, ◌∙◌, arith, ℤ, pos, negsuc, ◌-ℤ◌, ◌≤ℤ◌, unsigned_abs, subst}
use Rattle.std.proofs.lemmas.Int.{by_lt_z, ints}
use Rattle.jiff_core.specs.declared.civil.date.Date.{Date}
use Rattle.jiff_core.specs.Calendar.{days_of_years, days_of_months as months_there, days_in_month, day_count, days_from_civil, IsCivilDate}
use Rattle.std.specs.Result.{result_ok}
use Rattle.hb_time.specs.Reading.{FitsDigits}
use Rattle.jiff_core.specs.Date.{epoch_day, IsYmd}
use Rattle.jiff_core.proofs.SignedLemmas.{signed_arith}
use Rattle.jiff_core.proofs.MarchLemmas.{leap_day, leap_day-shift, days_in_year-leap_day, days_of_years-suc, day_count-early}
use Rattle.jiff_core.proofs.CalendarLemmas.{day_count-epoch, day_count-end, days_from_civil-day_count, day_count_bounds, day_count-lt_year}
use Rattle.jiff_core.proofs.DateLemmas.{epoch_day_injective, civil}
use Rattle.hb_time.specs.declared.day.Day.{Day}
use Rattle.hb_time.specs.Calendar.{days_of_year, days_of_month, days_before_year, days_of_months, day_number, IsDay}

year_days : (year : ℕ) → days_of_year year ≡ 365 + leap_day (pos year)
year_days year = days_in_year-leap_day (pos year)

years_more : (year : ℕ) → days_before_year (suc year) ≡ days_before_year year + days_of_year year
unfolding days_before_year
years_more year = refl

years_none : days_before_year 0 ≡ 0
unfolding days_before_year
years_none = refl

-- the kit counts from the year -10000, which is ten thousand years before
years : (year : ℕ) → days_of_years (year + 10_000) ≡ days_of_years 10_000 + days_before_year year
years zero = omega (arith, years_none)
years (suc year) =
    let next : suc year + 10_000 ≡ suc (year + 10_000) = omega arith in
    rw next (omega (arith, years year, years_more year, year_days year, days_of_years-suc (year + 10_000), leap_day-shift (pos year) (year + 10_000) refl))

months : (year month : ℕ) → months_there (pos year) month ≡ days_of_months year month
unfolding months_there days_of_months
months year zero = refl
months year (suc month) = ap (λ n. n + days_of_month year (suc month)) (months year month)

count_parts : (year month day : ℕ) → day_count (pos year) month day ≡ days_of_years (year + 10_000) + (months_there (pos year) (month - 1) + day - 1)
unfolding day_count
count_parts year month day = refl

months_none : (year : ℕ) → days_of_months year 0 ≡ 0
unfolding days_of_months
months_none year = refl

start : days_of_years 10_000 ≡ 3_652_425
start =
    omega (arith, count_parts 0 1 1, months 0 0, months_none 0, day_count-early (pos 0) 9_999 1 1 refl (omega arith) (omega arith) (omega arith))

first_of : (year : ℕ) → day_count (pos year) 1 1 ≡ 3_652_425 + days_before_year year
first_of year = omega (arith, start, years year, count_parts year 1 1, months year 0, months_none year)

pub years_to_1 : days_before_year 1 ≡ 366
years_to_1 = omega (arith, years_none, years_more 0)

pub years_to_1970 : days_before_year 1_970 ≡ 719_528
years_to_1970 = omega (arith, first_of 1_970, day_count-epoch)

pub years_to_10000 : days_before_year 10_000 ≡ 3_652_425
years_to_10000 = omega (arith, first_of 10_000, day_count-end)

number_parts : (day : Day) → day_number day ≡ days_before_year day.year + days_of_months day.year (day.month - 1) + (day.day - 1)
unfolding day_number
number_parts day = refl

count_of : (day : Day) → 1 ≤ day.day → day_count (pos day.year) day.month day.day ≡ 3_652_425 + day_number day
count_of day low =
    omega (arith, start, years day.year, count_parts day.year day.month day.day, months day.year (day.month - 1), number_parts day)

-- the kit's day number of a day
pub epoch_of : (day : Day) → 1 ≤ day.day → days_from_civil (pos day.year) day.month day.day ≡ pos (day_number day) -ℤ pos 719_528
epoch_of day low =
    omega (arith, signed_arith, count_of day low, days_from_civil-day_count (pos day.year) day.month day.day)

-- a day of ours is one of the kit's
pub civil_of : (day : Day) → IsDay day → IsCivilDate (pos day.year) day.month day.day
civil_of day h =
    let year = h.year in
    ((omega (arith, signed_arith), omega (arith, signed_arith)), h.month, h.day_of_month)

date_of : (day : Day) → IsDay day → Date
date_of day h =
    let civil = civil_of day h in
    record { year = pos day.year; month = day.month; day = day.day; year_in = civil.0; month_in = civil.1; day_in = civil.2 }

pub number_bound : (day : Day) → IsDay day → day_number day < 3_652_425
number_bound day h = omega (arith, count_of day h.day_of_month.0, day_count_bounds (pos day.year) day.month day.day (civil_of day h))

-- a day number is that of one day
pub one_day : (a b : Day) → IsDay a → IsDay b → day_number a ≡ day_number b → a ≡ b
unfolding date_of
one_day a b h k e =
    let there = epoch_of a h.day_of_month.0 ∙ ap (λ n. pos n -ℤ pos 719_528) e ∙ sym (epoch_of b k.day_of_month.0) in
    let same = epoch_day_injective (date_of a h) (date_of b k) there in
    let year : a.year ≡ b.year = cc in
    λ i. record { year = year i; month = same.1 i; day = same.2 i }

pub whole : (z : ℤ) → pos 0 ≤ℤ z → z ≡ pos (unsigned_abs z)
whole (pos n) h = refl
whole (negsuc n) h = absurd (omega (arith, signed_arith))

-- the kit's date of a day number in the years from 1 on has that year, as a natural number
pub year_of : (date : Date) (number : ℕ) → 366 ≤ number → epoch_day date ≡ pos number -ℤ pos 719_528 → date.year ≡ pos (unsigned_abs date.year)
year_of date number low e =
    by_lt_z date.year (pos 1)
    (λ lt. absurd (omega (arith, signed_arith, days_from_civil-day_count date.year date.month date.day, day_count-lt_year date.year date.month date.day (pos 1) 1 1 (civil date) (omega arith) lt, first_of 1, years_to_1)))
    (λ ge. whole date.year (omega (arith, signed_arith)))

pub number_at : (date : Date) (number : ℕ) → 366 ≤ number → epoch_day date ≡ pos number -ℤ pos 719_528 → day_number (record { year = unsigned_abs date.year; month = date.month; day = date.day }) ≡ number
number_at date number low e =
    let day : Day = record { year = unsigned_abs date.year; month = date.month; day = date.day } in
    let ours = epoch_of day date.day_in.0 in
    let year = year_of date number low e in
    let same = subst (λ (y : ℤ). days_from_civil y date.month date.day ≡ pos number -ℤ pos 719_528) year e in
    let both = sym ours ∙ same in
    omega (arith, signed_arith)

-- the parts of a date of the kit are a day of ours
pub same_day : (date : Date) (day : Day) → date.year ≡ pos day.year → date.month ≡ day.month → date.day ≡ day.day → IsDay day
same_day date day year month last =
    let in_year = date.year_in in
    let in_month = subst (λ (m : ℕ). (1 ≤ m) × (m ≤ 12)) month date.month_in in
    let in_day = subst (λ (y : ℤ). (1 ≤ date.day) × (date.day ≤ days_in_month y date.month)) year date.day_in in
    let of_month = subst (λ (m : ℕ). (1 ≤ date.day) × (date.day ≤ days_of_month day.year m)) month in_day in
    record {
      year = omega (arith, signed_arith);
      month = in_month;
      day_of_month = subst (λ (d : ℕ). (1 ≤ d) × (d ≤ days_of_month day.year day.month)) last of_month;
    }

pub same_epoch : (date : Date) (day : Day) → date.year ≡ pos day.year → date.month ≡ day.month → date.day ≡ day.day → epoch_day date ≡ pos (day_number day) -ℤ pos 719_528
same_epoch date day year month last =
    let low = subst (λ (d : ℕ). 1 ≤ d) last date.day_in.0 in
    subst (λ (y : ℤ). days_from_civil y date.month date.day ≡ pos (day_number day) -ℤ pos 719_528) (sym year)
    (subst (λ (m : ℕ). days_from_civil (pos day.year) m date.day ≡ pos (day_number day) -ℤ pos 719_528) (sym month)
    (subst (λ (d : ℕ). days_from_civil (pos day.year) day.month d ≡ pos (day_number day) -ℤ pos 719_528) (sym last) (epoch_of day low)))

byte : (n : ℕ) → n < 100 → to_z w8 n ≡ pos n
byte n h = omega (arith, ints)

word : (n : ℕ) → n < 10_000 → to_z w16 n ≡ pos n
word n h = omega (arith, ints)

-- the kit's date of the parts of a day, where it has one
pub of_new : {E : Type 0} (found : Result Date E) (date : Date) (day : Day) → FitsDigits day → IfOk found (IsYmd (to_z w16 day.year) (to_z w8 day.month) (to_z w8 day.day)) → result_ok found ≡ Some date → IsDay day × (epoch_day date ≡ pos (day_number day) -ℤ pos 719_528)
of_new (Ok x) date day fits h e =
    let same : x ≡ date = cc in
    let parts = subst (IsYmd (to_z w16 day.year) (to_z w8 day.month) (to_z w8 day.day)) same h in
    let year = parts.0 ∙ word day.year fits.year in
    let months = parts.1 ∙ byte day.month fits.month in
    let days = parts.2 ∙ byte day.day fits.day_of_month in
    let month : date.month ≡ day.month = cc in
    let last : date.day ≡ day.day = cc in
    (same_day date day year month last, same_epoch date day year month last)
of_new (Err e) date day fits h k = absurd cc
