-- What a node keeps of events.
use Rattle.std.specs.Prelude.{ℕ, nat_le, List, length, map, if◌then◌else◌}
use Rattle.hb_flow.specs.Messages.{record_bytes, oversized}
use Rattle.hb_flow.specs.declared.event.Event.{Event}

-- what a ring with slots of this many bytes keeps of an event: one whose record is longer is
-- replaced
abbrev pub kept : ℕ → Event → Event
kept slot event = if nat_le (length (record_bytes event)) slot then event else oversized event

-- the log that it has of events: the records of what it keeps
abbrev pub log_of : ℕ → List Event → List (List ℕ)
log_of slot events = map (λ event. record_bytes (kept slot event)) events
