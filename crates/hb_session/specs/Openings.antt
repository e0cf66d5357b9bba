-- What a reply was opened with, and how it is read by that.
use Rattle.std.specs.Prelude.{ℕ, ◌+◌, min, Bool, not, ◌&&◌, nat_lt, nat_le, List, [], ◌∷◌, Option, Some, None, if◌then◌else◌}
use Rattle.std.specs.Option.{is_none}
use Rattle.hb_api.specs.declared.request.GetFlowsRequest.{GetFlowsRequest}
use Rattle.hb_session.specs.declared.span.Span.{Span}
use Rattle.hb_session.specs.Window.{window_start}

-- the request, the node's name, and the window's first position and size
pub record Opening : Type 0 where
  pub request : GetFlowsRequest
  pub name : List ℕ
  pub low : ℕ
  pub size : ℕ

-- the window of a ring of this capacity at a top: the last `cap` positions below it, or all of them
abbrev pub opened : GetFlowsRequest → List ℕ → ℕ → ℕ → Opening
opened request name top cap = record {
  request = request;
  name = name;
  low = window_start top cap;
  size = min top cap;
}

-- where the window ends: how many records the ring had when the reply was opened
abbrev pub top : Opening → ℕ
top o = o.low + o.size

-- so many flows are as many as were asked for
abbrev pub are_enough : GetFlowsRequest → ℕ → Bool
are_enough request flows = nat_lt 0 request.number && nat_le request.number flows

-- a reading: the window from its newest position backwards, or a span forwards
pub data Reading : Type 0 where
  Backwards : Reading
  Forwards : (span : Span) → Reading

-- the last events of the window are asked for: it is read backwards
abbrev pub is_backward : GetFlowsRequest → Bool
is_backward request = nat_lt 0 request.number && not request.first

-- where reading forwards ends: with the window, or nowhere where the reply follows
abbrev pub forward_end : Opening → Option ℕ
forward_end o = if o.request.follow then None else Some (top o)

-- where it starts: with the window, or behind it where none of the window is asked for
abbrev pub forward_start : Opening → ℕ
forward_start o = if o.request.follow && is_none o.request.since then top o else o.low

-- what is read behind a window that is read backwards: what comes, where the reply follows
abbrev pub readings_behind : Opening → List Reading
readings_behind o =
    if o.request.follow then Forwards (record { start = top o; end = None }) ∷ [] else []

-- the readings of a reply, one after another
abbrev pub readings : Opening → List Reading
readings o = if is_backward o.request then Backwards ∷ readings_behind o
    else Forwards (record { start = forward_start o; end = forward_end o }) ∷ []
