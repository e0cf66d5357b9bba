-- The two ways of reading, as they stand after looks, and what one more look makes of them.
use Rattle.std.specs.Prelude.{ℕ, ◌+◌, ◌-◌, min, Bool, true, false, ◌&&◌, ◌||◌, ◌==◌, List, [], ◌∷◌, ◌++◌, Option, Some, None, cond, if◌then◌else◌}
use Rattle.std.specs.Option.{is_none, option_map_or}
use Rattle.hb_flow.specs.declared.event.Event.{Event}
use Rattle.hb_session.specs.declared.counts.Counts.{Counts}
use Rattle.hb_session.specs.declared.loss.Loss.{Loss}
use Rattle.hb_session.specs.declared.span.Span.{Span}
use Rattle.hb_session.specs.Openings.{Opening, top, are_enough}
use Rattle.hb_session.specs.Events.{lost_event, passes, is_flow}
use Rattle.hb_session.specs.Marks.{Record}
use Rattle.hb_session.specs.Forward.{given_of, are_given, is_late}
use Rattle.hb_session.specs.Replies.{event_frames, spelled}

-- what one more look makes of a way of reading: how it stands then, the bytes that are put, and
-- whether it has ended
pub record Step (State : Type 0) : Type 0 where
  pub state : State
  pub put : List ℕ
  pub ended : Bool

-- the bytes of the frames of events
abbrev pub bytes_of : Opening → List Event → List ℕ
bytes_of o events = spelled (event_frames o.name events)

-- ---- forwards

-- the next position, the end of what is read, where there is one, how many flows were given, a
-- stretch that may go on, and the sums
pub record Forward : Type 0 where
  pub place : ℕ
  pub end : Option ℕ
  pub flows : ℕ
  pub loss : Option Loss
  pub counts : Counts

abbrev pub no_counts : Counts
no_counts = record { given = 0; skipped = 0; lost = 0 }

-- of which nothing was read yet
abbrev pub forward_unread : Span → Forward
forward_unread span = record {
  place = span.start;
  end = span.end;
  flows = 0;
  loss = None;
  counts = no_counts;
}

-- the end is reached
abbrev pub is_at_end : Forward → Bool
is_at_end f = option_map_or (λ end. f.place == end) f.end false

-- the end is reached, or as many flows were given as were asked for, or one came that is too late
abbrev pub forward_is_over : Opening → Forward → Bool → Bool
forward_is_over o f late = is_at_end f || (are_given o.request f.flows || late)

abbrev pub loss_events : Option Loss → List Event
loss_events None = []
loss_events (Some loss) = lost_event loss.count loss.moment ∷ []

abbrev pub loss_count : Option Loss → ℕ
loss_count None = 0
loss_count (Some loss) = loss.count

-- an event was read that passes
abbrev pub given : Forward → Event → Forward
given f event = record {
  place = f.place + 1;
  end = f.end;
  flows = f.flows + cond (is_flow event) 1 0;
  loss = None;
  counts = record f.counts { given = f.counts.given + 1 };
}

-- a record was read that is passed over
abbrev pub skipped : Forward → Forward
skipped f = record f {
  place = f.place + 1;
  loss = None;
  counts = record f.counts { skipped = f.counts.skipped + 1 };
}

-- one or the other
abbrev pub given_or_skipped : Opening → Forward → Option Event → Forward
given_or_skipped o f None = skipped f
given_or_skipped o f (Some event) = if passes o.request event then given f event else skipped f

-- a record was read: it ends a stretch
abbrev pub forward_read : Opening → Forward → Option Event → Step Forward
forward_read o f event = record {
  state = given_or_skipped o f event;
  put = bytes_of o (loss_events f.loss) ++ bytes_of o (given_of o.request (Record event));
  ended = forward_is_over o (given_or_skipped o f event)
      (is_none f.end && is_late o f.place event);
}

-- so many more positions were found overwritten
abbrev pub lost : Forward → ℕ → ℕ → Forward
lost f count moment = record f {
  place = f.place + count;
  loss = Some (record { count = loss_count f.loss + count; moment = moment });
  counts = record f.counts { lost = f.counts.lost + count };
}

-- at the end the stretch ends too
abbrev pub lost_at_end : Opening → Forward → Step Forward
lost_at_end o f = record {
  state = f;
  put = if forward_is_over o f false then bytes_of o (loss_events f.loss) else [];
  ended = forward_is_over o f false;
}

-- as many positions were found overwritten as are before `next`, or before the end
abbrev pub forward_gone : Opening → Forward → ℕ → ℕ → Step Forward
forward_gone o f next moment =
    lost_at_end o (lost f (option_map_or (λ end. min next end) f.end next - f.place) moment)

-- ---- backwards

-- how many positions of the window were passed over, how many flows were read that pass, and the
-- bytes of the frames that are held until the end is reached, in ring order
pub record Backward : Type 0 where
  pub passed : ℕ
  pub flows : ℕ
  pub held : List ℕ

abbrev pub backward_unread : Backward
backward_unread = record { passed = 0; flows = 0; held = [] }

abbrev pub backward_place : Opening → Backward → ℕ
backward_place o b = top o - 1 - b.passed

-- the window is read, or there are as many flows as were asked for
abbrev pub backward_is_over : Opening → Backward → Bool
backward_is_over o b = (b.passed == o.size) || are_enough o.request b.flows

-- a record was read: its event is held where it passes
abbrev pub kept : Opening → Backward → Option Event → Backward
kept o b None = record b { passed = b.passed + 1 }
kept o b (Some event) = if passes o.request event
    then record {
      passed = b.passed + 1;
      flows = b.flows + cond (is_flow event) 1 0;
      held = bytes_of o (event ∷ []) ++ b.held;
    }
    else record b { passed = b.passed + 1 }

-- what was held is put, and the reply ends
abbrev pub released : Backward → Step Backward
released b = record { state = record b { held = [] }; put = b.held; ended = true }

abbrev pub held_on : Backward → Step Backward
held_on b = record { state = b; put = []; ended = false }

abbrev pub backward_read : Opening → Backward → Option Event → Step Backward
backward_read o b event = if backward_is_over o (kept o b event)
    then released (kept o b event) else held_on (kept o b event)

-- a position was found overwritten, and so is each before it
abbrev pub backward_gone : Opening → Backward → ℕ → Step Backward
backward_gone o b moment =
    released (record b {
      passed = o.size;
      held = bytes_of o (lost_event (o.size - b.passed) moment ∷ []) ++ b.held;
    })
