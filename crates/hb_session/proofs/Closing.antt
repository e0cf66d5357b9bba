-- What follows a way that has come to its end, or has not.
use Rattle.std.proofs.Common.{◌≡◌, ℕ, Bool, true, false, List, [], ◌∷◌, None, refl}
use Rattle.hb_session.specs.declared.way.Way.{Way}
use Rattle.hb_session.specs.declared.way.Way.TheVariants as ways
use Rattle.hb_session.specs.Openings.{Opening, top}
use Rattle.hb_session.specs.Replies.{spelled, status_frame}
use Rattle.hb_session.specs.Steps.{Step, forward_unread, no_counts}
use Rattle.hb_session.specs.Ways.{counts_by, is_followed, closed_by}

-- a step was closed to this
pub record IsClosed (step : Step Way) (way : Way) (bytes : List ℕ) (over : Bool) : Type 0 where
  pub state : way ≡ step.state
  pub put : bytes ≡ step.put
  pub ended : over ≡ step.ended

still_by : (o : Opening) (followed : Bool) (way : Way) → IsClosed (closed_by o followed way [] false) way [] false
still_by o true way = record { state = refl; put = refl; ended = refl }
still_by o false way = record { state = refl; put = refl; ended = refl }

pub closed_still : (o : Opening) (followed : Bool) (way : Way) (last : Bool) → last ≡ false → IsClosed (closed_by o followed way [] last) way [] false
closed_still o followed way true not = absurd cc
closed_still o followed way false not = still_by o followed way

pub closed_next : (o : Opening) (followed last : Bool) (way : Way) → last ≡ true → followed ≡ true
    → IsClosed (closed_by o followed way [] last) (ways.Forward (forward_unread (record { start = top o; end = None }))) [] false
closed_next o true true way is follows = record { state = refl; put = refl; ended = refl }
closed_next o true false way is follows = absurd cc
closed_next o false last way is follows = absurd cc

pub closed_end : (o : Opening) (followed last : Bool) (way : Way) → last ≡ true → followed ≡ false
    → IsClosed (closed_by o followed way [] last) way (spelled (status_frame ∷ [])) true
closed_end o false true way is not = record { state = refl; put = refl; ended = refl }
closed_end o false false way is not = absurd cc
closed_end o true last way is not = absurd cc

-- the sums of a way stay as it is closed
counts_by_case : (o : Opening) (followed last : Bool) (put : List ℕ) (way : Way) → counts_by way ≡ no_counts → counts_by (closed_by o followed way put last).state ≡ no_counts
counts_by_case o true true put way none = refl
counts_by_case o true false put way none = none
counts_by_case o false last put way none = none

pub counts_closed : (o : Opening) (way : Way) (put : List ℕ) (last : Bool) → counts_by (closed_by o (is_followed o way) way put last).state ≡ counts_by way
counts_closed o (ways.Forward f) put last = refl
counts_closed o (ways.Backward b) put last = counts_by_case o o.request.follow last put (ways.Backward b) refl
