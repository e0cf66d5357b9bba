use Rattle.std.proofs.Common.{◌≡◌, ◌≤◌, List, length}
use Rattle.hb_flow.specs.declared.response.GetFlowsResponse.{GetFlowsResponse}
use Rattle.hb_recording.specs.Reading.{HasGiven}
use Rattle.hb_recording.proofs.reader.RecordingReader.next.Given as goal

-- frames that are no message were passed
abbrev pub invariant-loop-self : goal.invariant-loop-self
invariant-loop-self l = record {
  file : l.self.file ≡ l.fn.self.file;
  shorter : length l.self.rest ≤ length l.fn.self.rest;
  stands : (given : List GetFlowsResponse) → HasGiven l.fn.self given → HasGiven l.self given;
}

abbrev pub decreases-loop-self : goal.decreases-loop-self
decreases-loop-self l = length l.self.rest
