-- Which texts of RFC 3339 spell which stamps, and which one is written.
use Rattle.std.specs.Prelude.{◌≡◌, ℕ, zero, suc, ◌+◌, ◌-◌, ◌*◌, ◌/◌, ◌%◌, ◌^◌, ◌<◌, ◌≤◌, ◌⊎◌, ◌==◌, List, [], ◌∷◌, ◌++◌, codes, if◌then◌else◌, pos}
use Rattle.hb_time.specs.declared.clock.Clock.{Clock}
use Rattle.hb_time.specs.declared.day.Day.{Day}
use Rattle.hb_time.specs.declared.offset.Offset.{Offset}
use Rattle.hb_time.specs.declared.offset.Offset.TheVariants.{Ahead, Behind}
use Rattle.hb_time.specs.declared.stamp.Stamp.{Stamp}
use Rattle.hb_time.specs.Calendar.{IsDay}
use Rattle.hb_time.specs.Stamps.{IsClock, seconds, since_1970, IsPrintable}

-- the last so many digits of the number in decimal, with zeros before it where it has fewer
unfoldable pub padded : ℕ → ℕ → List ℕ
padded zero number = []
padded (suc width) number = padded width (number / 10) ++ (48 + number % 10) ∷ []

-- YYYY-MM-DD
abbrev pub day_text : Day → List ℕ
day_text day = padded 4 day.year ++ codes "-" ++ padded 2 day.month ++ codes "-" ++ padded 2 day.day

-- HH:MM:SS
abbrev pub clock_text : Clock → List ℕ
clock_text clock =
    padded 2 clock.hour ++ codes ":" ++ padded 2 clock.minute ++ codes ":" ++ padded 2 clock.second

-- a point, and one to nine digits of a fraction of a second
pub record SpellsDigits (text : List ℕ) (nanos : ℕ) : Type 0 where
  pub width : ℕ
  pub number : ℕ
  pub some : 1 ≤ width
  pub most : width ≤ 9
  pub fits : number < 10 ^ width
  pub spelled : text ≡ codes "." ++ padded width number
  pub value : nanos ≡ number * 10 ^ (9 - width)

-- the text is a fraction of a second of so many nanoseconds, or of none
abbrev pub SpellsFraction : List ℕ → ℕ → Type 0
SpellsFraction text nanos = ((text ≡ []) × (nanos ≡ 0)) ⊎ SpellsDigits text nanos

-- HH:MM, to 23:59
pub record SpellsMinutes (text : List ℕ) (minutes : ℕ) : Type 0 where
  pub hour : ℕ
  pub minute : ℕ
  pub hours : hour < 24
  pub below : minute < 60
  pub spelled : text ≡ padded 2 hour ++ codes ":" ++ padded 2 minute
  pub value : minutes ≡ 60 * hour + minute

-- the text is a sign and HH:MM
abbrev pub SpellsSigned : List ℕ → List ℕ → ℕ → Type 0
SpellsSigned sign text minutes = (rest : List ℕ) × SpellsMinutes rest minutes
    × (text ≡ sign ++ rest)

-- how far the local time is ahead of UTC, or behind it
abbrev pub SpellsOffset : List ℕ → Offset → Type 0
SpellsOffset text (Ahead minutes) =
    ((text ≡ codes "Z") × (minutes ≡ 0)) ⊎ SpellsSigned (codes "+") text minutes
SpellsOffset text (Behind minutes) = SpellsSigned (codes "-") text minutes

-- the second of UTC is the local one: the offset is subtracted
abbrev pub InUtc : ℕ → Offset → ℕ → Type 0
InUtc local (Ahead minutes) utc = utc + 60 * minutes ≡ local
InUtc local (Behind minutes) utc = utc ≡ local + 60 * minutes

-- a fraction of a second of so many nanoseconds, and behind it the offset
pub record SpellsEnd (text : List ℕ) (nanos : ℕ) (offset : Offset) : Type 0 where
  pub fraction : List ℕ
  pub zone : List ℕ
  pub is_fraction : SpellsFraction fraction nanos
  pub is_zone : SpellsOffset zone offset
  pub spelled : text ≡ fraction ++ zone

-- the stamp is this second of UTC, and so many nanoseconds
pub record IsAt (utc nanos : ℕ) (stamp : Stamp) : Type 0 where
  pub second : stamp.secs ≡ since_1970 utc
  pub nanosecond : stamp.nanos ≡ pos nanos
  pub printable : IsPrintable stamp

-- the text spells the stamp
pub record SpellsStamp (text : List ℕ) (stamp : Stamp) : Type 0 where
  pub day : Day
  pub clock : Clock
  pub rest : List ℕ
  pub nanos : ℕ
  pub offset : Offset
  pub utc : ℕ
  pub is_day : IsDay day
  pub is_clock : IsClock clock
  pub is_end : SpellsEnd rest nanos offset
  pub spelled : text ≡ day_text day ++ codes "T" ++ clock_text clock ++ rest
  pub in_utc : InUtc (seconds day clock) offset utc
  pub at : IsAt utc nanos stamp

-- the fewest of 0, 3, 6 and 9 digits that are exact
abbrev pub shortest : ℕ → List ℕ
shortest nanos =
    if nanos == 0 then []
    else (if nanos % 1_000_000 == 0 then codes "." ++ padded 3 (nanos / 1_000_000)
    else (if nanos % 1_000 == 0 then codes "." ++ padded 6 (nanos / 1_000)
    else codes "." ++ padded 9 nanos))

-- the text is the one that is written of the stamp
pub record IsWritten (text : List ℕ) (stamp : Stamp) : Type 0 where
  pub day : Day
  pub clock : Clock
  pub nanos : ℕ
  pub is_day : IsDay day
  pub is_clock : IsClock clock
  pub at : IsAt (seconds day clock) nanos stamp
  pub spelled : text ≡ day_text day ++ codes "T" ++ clock_text clock ++ shortest nanos ++ codes "Z"
