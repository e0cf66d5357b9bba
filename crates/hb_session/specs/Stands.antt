-- When a source, as it stands, is that of the looks that were made for it.
use Rattle.std.specs.Prelude.{◌≡◌, ℕ, ◌+◌, ◌-◌, ◌<◌, ◌≤◌, min, Bool, false, List, [], ◌∷◌, ◌++◌, length, reverse, Option, Some, None}
use Rattle.std.specs.Option.{option_map_or, ForSome}
use Rattle.hb_look.specs.Looks.{LookMade, reach}
use Rattle.hb_session.specs.declared.counts.Counts.{Counts}
use Rattle.hb_session.specs.declared.loss.Loss.{Loss}
use Rattle.hb_session.specs.declared.span.Span.{Span}
use Rattle.hb_session.specs.declared.way.Way.{Way}
use Rattle.hb_session.specs.declared.way.Way.TheVariants as ways
use Rattle.hb_session.specs.Openings.{Opening, Reading, Backwards, Forwards, forward_end, readings}
use Rattle.hb_session.specs.Events.{flows}
use Rattle.hb_session.specs.Marks.{marks, Part, Stretch, parts_of, closed}
use Rattle.hb_session.specs.Forward.{forward, sums}
use Rattle.hb_session.specs.Backward.{read_newest}
use Rattle.hb_session.specs.Replies.{shared, going, has_ended, AreMade}
use Rattle.hb_session.specs.Steps.{Forward, Backward, bytes_of, no_counts}
use Rattle.hb_session.specs.Ways.{counts_by}

-- what a source has: how it was opened, how its window is read, and whether it has ended
pub record Source : Type 0 where
  pub opening : Opening
  pub way : Way
  pub ended : Bool

abbrev pub counts_of : Source → Counts
counts_of s = counts_by s.way

-- how many positions of the window are left, where reading ends with it
abbrev pub left_by : Opening → Way → ℕ
left_by o (ways.Forward f) = option_map_or (λ end. min (end - f.place) o.size) f.end 0
left_by o (ways.Backward b) = o.size - b.passed

abbrev pub left : Source → ℕ
left s = left_by s.opening s.way

-- a way has a position to look at, and reading forwards ends where the opening says
abbrev pub HasRoom : Opening → Way → Type 0
HasRoom o (ways.Forward f) = (f.end ≡ forward_end o) × (o.low ≤ f.place)
    × ForSome f.end (λ end. f.place < end)
HasRoom o (ways.Backward b) = b.passed < o.size

-- a loss as a stretch that may go on
abbrev pub open_part : Option Loss → List Part
open_part None = []
open_part (Some loss) = Stretch loss.count loss.moment ∷ []

-- what is known of a span that is read forwards, by its own looks
pub record IsForwardAt (o : Opening) (span : Span) (f : Forward) (own : List LookMade)
    : Type 0 where
  pub place : f.place ≡ span.start + length (marks span own)
  pub end : f.end ≡ span.end
  pub reach : reach span.start own ≡ f.place
  pub flows : f.flows ≡ flows (forward o span own)
  pub loss : parts_of (marks span own) ≡ closed (parts_of (marks span own)) ++ open_part f.loss

-- before its end
pub record IsOnForward (o : Opening) (f : Forward) (looks : List LookMade) : Type 0 where
  pub span : Span
  pub own : List LookMade
  pub going : going o looks ≡ Some (record { reading = Forwards span; looks = own })
  pub at : IsForwardAt o span f own

-- what is known of a window that is read backwards, by its own looks
pub record IsBackwardAt (o : Opening) (b : Backward) (own : List LookMade) : Type 0 where
  pub passed : b.passed ≡ length own
  pub flows : b.flows ≡ flows (read_newest o.request own)
  pub held : b.held ≡ bytes_of o (reverse (read_newest o.request own))

-- before its end all looks are its own
pub record IsOnBackward (o : Opening) (b : Backward) (looks : List LookMade) : Type 0 where
  pub going : going o looks ≡ Some (record { reading = Backwards; looks = looks })
  pub at : IsBackwardAt o b looks

abbrev pub IsOn : Opening → Way → List LookMade → Type 0
IsOn o (ways.Forward f) looks = IsOnForward o f looks
IsOn o (ways.Backward b) looks = IsOnBackward o b looks

-- the sums of what is read forwards
abbrev pub counted_by : Opening → List Reading → List LookMade → Counts
counted_by o [] looks = no_counts
counted_by o (Backwards ∷ readings) looks = counted_by o readings (shared o Backwards looks).1
counted_by o (Forwards span ∷ readings) looks =
    sums o.request (marks span (shared o (Forwards span) looks).0)

abbrev pub counted : Opening → List LookMade → Counts
counted o looks = counted_by o (readings o) looks

-- A source stands for the looks that were made for it.
pub record SourceStandsFor (s : Source) (looks : List LookMade) : Type 0 where
  pub made : AreMade s.opening looks
  pub ended : s.ended ≡ has_ended s.opening looks
  pub counts : counts_of s ≡ counted s.opening looks
  pub on : s.ended ≡ false → IsOn s.opening s.way looks
