-- What looks found of the positions of a span, one after another.
use Rattle.std.specs.Prelude.{ℕ, suc, ◌-◌, ◌==◌, Bool, false, List, [], ◌∷◌, length, take, replicate, Option, Some, None}
use Rattle.std.specs.List.{flat_map}
use Rattle.std.specs.Option.{option_map, option_map_or}
use Rattle.hb_look.specs.Looks.{Found, Got, Gone, NotYet, LookMade}
use Rattle.hb_flow.specs.declared.event.Event.{Event}
use Rattle.hb_session.specs.declared.span.Span.{Span}
use Rattle.hb_session.specs.Events.{event_of_record}

-- the event of the record that was got
abbrev pub event_found : Found → Option Event
event_found (Got bytes) = event_of_record bytes
event_found (Gone next) = None
event_found NotYet = None

-- a position: its record was read, and holds this event, if any; or it was found overwritten at
-- this moment
pub data Mark : Type 0 where
  Read : (event : Option Event) → Mark
  Over : (moment : ℕ) → Mark

-- the positions that a look passed over: the one that it got, or all that were gone
abbrev pub passed_over : ℕ → ℕ → Found → List Mark
passed_over position moment (Got bytes) = Read (event_of_record bytes) ∷ []
passed_over position moment (Gone next) = replicate (next - position) (Over moment)
passed_over position moment NotYet = []

abbrev pub marks_of : LookMade → List Mark
marks_of look = passed_over look.position look.moment look.found

-- how many positions a span has, where it ends
abbrev pub size_of : Span → Option ℕ
size_of span = option_map (λ end. end - span.start) span.end

-- items up to a count, where there is one
abbrev pub upto : {A : Type 0} → Option ℕ → List A → List A
upto None items = items
upto (Some count) items = take count items

-- the positions of a span that a run of looks passed over
abbrev pub marks : Span → List LookMade → List Mark
marks span looks = upto (size_of span) (flat_map marks_of looks)

-- these are all of them
abbrev pub is_through : Span → List LookMade → Bool
is_through span looks =
    option_map_or (λ size. length (marks span looks) == size) (size_of span) false

-- a record that was read, or a stretch: neighbouring positions that were overwritten, and when the
-- last of them was found so
pub data Part : Type 0 where
  Record : (event : Option Event) → Part
  Stretch : (count moment : ℕ) → Part

-- one more overwritten position before parts
abbrev pub with_over : ℕ → List Part → List Part
with_over moment [] = Stretch 1 moment ∷ []
with_over moment (Record event ∷ parts) = Stretch 1 moment ∷ Record event ∷ parts
with_over moment (Stretch count last ∷ parts) = Stretch (suc count) last ∷ parts

-- positions with their stretches, each as long as it can be
abbrev pub parts_of : List Mark → List Part
parts_of [] = []
parts_of (Read event ∷ marks) = Record event ∷ parts_of marks
parts_of (Over moment ∷ marks) = with_over moment (parts_of marks)

-- parts without a stretch that ends them, since it may go on
abbrev pub closed : List Part → List Part
closed [] = []
closed (Record event ∷ parts) = Record event ∷ closed parts
closed (Stretch count moment ∷ []) = []
closed (Stretch count moment ∷ part ∷ parts) = Stretch count moment ∷ closed (part ∷ parts)
