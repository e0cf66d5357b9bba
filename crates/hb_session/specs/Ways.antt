-- The way in which a reply is read: one of the two, then another where the reply goes on behind the
-- window, and the status frame where it ends.
use Rattle.std.specs.Prelude.{ℕ, ◌==◌, Bool, false, not, ◌&&◌, List, [], ◌∷◌, ◌++◌, Option, None, if◌then◌else◌}
use Rattle.hb_flow.specs.declared.event.Event.{Event}
use Rattle.hb_session.specs.declared.counts.Counts.{Counts}
use Rattle.hb_session.specs.declared.way.Way.{Way}
use Rattle.hb_session.specs.declared.way.Way.TheVariants as ways
use Rattle.hb_session.specs.Openings.{Opening, top, is_backward, forward_start, forward_end}
use Rattle.hb_session.specs.Replies.{spelled, status_frame}
use Rattle.hb_session.specs.Steps.{Step, forward_unread, is_at_end, forward_read, forward_gone, backward_unread, backward_place, backward_read, backward_gone, no_counts}

-- the first one, of which nothing was read yet
abbrev pub way_unread : Opening → Way
way_unread o = if is_backward o.request then ways.Backward backward_unread
    else ways.Forward (forward_unread (record { start = forward_start o; end = forward_end o }))

-- the position that is looked at next
abbrev pub next_place : Opening → Way → ℕ
next_place o (ways.Forward f) = f.place
next_place o (ways.Backward b) = backward_place o b

-- the sums of what was read forwards
abbrev pub counts_by : Way → Counts
counts_by (ways.Forward f) = f.counts
counts_by (ways.Backward b) = no_counts

-- each position was read
abbrev pub is_read : Opening → Way → Bool
is_read o (ways.Forward f) = is_at_end f
is_read o (ways.Backward b) = b.passed == o.size

-- another way follows where this one ends
abbrev pub is_followed : Opening → Way → Bool
is_followed o (ways.Forward f) = false
is_followed o (ways.Backward b) = o.request.follow

-- What follows a step of a way, where it was the way's last: another way or, where none is to
-- follow, the status.
abbrev pub closed_by : Opening → Bool → Way → List ℕ → Bool → Step Way
closed_by o followed way put last = record {
  state = if followed && last
      then ways.Forward (forward_unread (record { start = top o; end = None })) else way;
  put = put ++ (if not followed && last then spelled (status_frame ∷ []) else []);
  ended = not followed && last;
}

abbrev pub closed : {State : Type 0} → Opening → (State → Way) → Step State → Step Way
closed o way step =
    closed_by o (is_followed o (way step.state)) (way step.state) step.put step.ended

-- before the first look
abbrev pub way_opened : Opening → Step Way
way_opened o =
    closed_by o (is_followed o (way_unread o)) (way_unread o) [] (is_read o (way_unread o))

-- a record was read
abbrev pub way_read : Opening → Way → Option Event → Step Way
way_read o (ways.Forward f) event = closed o ways.Forward (forward_read o f event)
way_read o (ways.Backward b) event = closed o ways.Backward (backward_read o b event)

-- a position was found overwritten, and so was each before `next`
abbrev pub way_gone : Opening → Way → ℕ → ℕ → Step Way
way_gone o (ways.Forward f) next moment = closed o ways.Forward (forward_gone o f next moment)
way_gone o (ways.Backward b) next moment = closed o ways.Backward (backward_gone o b moment)
