-- A sink in memory: what it is, and what a write answers and leaves.
use Rattle.std.specs.Prelude.{ℕ, ◌++◌, List, length, take, min, if◌then◌else◌}
use Rattle.hb_edge.specs.declared.sink.Sunk.{Sunk}
use Rattle.hb_edge.specs.declared.sink.Sunk.TheVariants.{Took, Failed}
use Rattle.hb_edge.specs.Plan.{one_more, is_planned}

-- the bytes that it took, the most that one write takes, the numbers of the calls to fail, how
-- many calls there were, how many failed, and in how many memory was refused
pub record SinkState : Type 0 where
  pub bytes : List ℕ
  pub most : ℕ
  pub fails : List ℕ
  pub calls : ℕ
  pub faults : ℕ
  pub refusals : ℕ

-- a write fails where the plan says so, else takes as much as it may
abbrev pub sink_answer : SinkState → List ℕ → Sunk
sink_answer s piece = if is_planned s.fails (one_more s.calls) then Failed
    else Took (min (length piece) s.most)

-- the sink after a write for which memory was not refused
abbrev pub sink_after : SinkState → List ℕ → SinkState
sink_after s piece = if is_planned s.fails (one_more s.calls)
    then record s { calls = one_more s.calls; faults = one_more s.faults }
    else record s {
      calls = one_more s.calls;
      bytes = s.bytes ++ take (min (length piece) s.most) piece;
    }
