use Rattle.std.proofs.Common.{◌≡◌, ◌≤◌, ◌+◌, ◌*◌, length}
use Rattle.hb_look.specs.Progress.{HasPut}
use Rattle.hubblet.proofs.Filled.{HasFilled}
use Rattle.hubblet.proofs.filling.fill.Given as goal

-- what is kept of what was given was put, and each response took five bytes at least
abbrev pub invariant-loop-response : goal.invariant-loop-response
invariant-loop-response g l = record {
  file : l.reader.file ≡ l.file;
  room : 5 * g.W.Keep.written l.writer + length l.reader.rest ≤ length l.file;
  filled : HasFilled l.reader l.slot_bytes (HasPut g.W.Keep.stands_for g.W.Keep.written g.W.Keep.longest g.W.Keep.fixed l.fn.writer l.writer);
}

abbrev pub decreases-loop-response : goal.decreases-loop-response
decreases-loop-response g l = length l.reader.rest
