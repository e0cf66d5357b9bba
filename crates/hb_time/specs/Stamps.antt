-- Moments of UTC, as seconds and nanoseconds.
use Rattle.std.specs.Prelude.{ℕ, ◌+◌, ◌*◌, ◌/◌, ◌%◌, ◌^◌, ◌<◌, ℤ, pos, ◌-ℤ◌, ◌<ℤ◌, ◌≤ℤ◌}
use Rattle.hb_time.specs.declared.clock.Clock.{Clock}
use Rattle.hb_time.specs.declared.day.Day.{Day}
use Rattle.hb_time.specs.declared.stamp.Stamp.{Stamp}
use Rattle.hb_time.specs.Calendar.{days_before_year, day_number}

-- a moment in nanoseconds since 1970-01-01T00:00:00Z as a stamp: the whole seconds, and the rest
abbrev pub stamp_of : ℕ → Stamp
stamp_of moment = record { secs = pos (moment / 10 ^ 9); nanos = pos (moment % 10 ^ 9) }

-- the time of day exists, and is not in a leap second
pub record IsClock (clock : Clock) : Type 0 where
  pub hour : clock.hour < 24
  pub minute : clock.minute < 60
  pub second : clock.second < 60

-- the seconds from midnight to this time of day
abbrev pub clock_seconds : Clock → ℕ
clock_seconds clock = 3_600 * clock.hour + 60 * clock.minute + clock.second

-- the seconds from 0000-01-01T00:00:00 to this time of this day
abbrev pub seconds : Day → Clock → ℕ
seconds day clock = 86_400 * day_number day + clock_seconds clock

-- the same second, counted from 1970-01-01T00:00:00
abbrev pub since_1970 : ℕ → ℤ
since_1970 second = pos second -ℤ pos (86_400 * days_before_year 1970)

-- the first second of a year, counted so
abbrev pub year_start : ℕ → ℤ
year_start year = since_1970 (86_400 * days_before_year year)

-- the stamp's year is 1 to 9999, and its nanoseconds are less than a second
pub record IsPrintable (stamp : Stamp) : Type 0 where
  pub not_before : year_start 1 ≤ℤ stamp.secs
  pub before : stamp.secs <ℤ year_start 10_000
  pub not_negative : pos 0 ≤ℤ stamp.nanos
  pub nanos : stamp.nanos <ℤ pos 1_000_000_000
