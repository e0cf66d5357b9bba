use Rattle.std.proofs.Common.{refl}
use Rattle.hb_wire.proofs.Writes.{starts, goes_on, ends}
use Rattle.hb_wire.proofs.writing.varint_bytes.Goals as goal

pub loop-left-init : goal.loop-left-init
loop-left-init c = starts _ _ refl c.ranges.value.fits

pub loop-left-preserved : goal.loop-left-preserved
loop-left-preserved c = goes_on _ _ _ _ c.loop-left.invariant c.loop-left-test.true

pub returns-clause-bytes : goal.returns-clause-bytes
returns-clause-bytes c = ends _ _ _ _ c.loop-left.invariant c.loop-left-test.false
