use Rattle.std.proofs.Common.{length, ◌-◌, ◌≡◌, ◌≤◌, ◌++◌, take, Some}
use Rattle.std.specs.Option.{ForSome}
use Rattle.hb_files.proofs.writing.write_whole.Given as goal

abbrev pub invariant-loop-at : goal.invariant-loop-at
invariant-loop-at g l = record {
  within : l.at ≤ length l.bytes;
  later : g.K.Sink.faults l.fn.out ≤ g.K.Sink.faults l.out;
  fixed : g.K.Sink.fixed l.out ≡ g.K.Sink.fixed l.fn.out;
  told : ForSome (g.K.Sink.held l.fn.out) (λ held. g.K.Sink.held l.out ≡ Some (held ++ take l.at l.bytes));
}

abbrev pub decreases-loop-at : goal.decreases-loop-at
decreases-loop-at g l = length l.bytes - l.at
