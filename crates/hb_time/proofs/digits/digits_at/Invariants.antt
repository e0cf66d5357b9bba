use Rattle.std.proofs.Common.{◌-◌}
use Rattle.hb_time.proofs.DigitLemmas.{Standing}
use Rattle.hb_time.proofs.digits.digits_at.Given as goal

abbrev pub invariant-loop-count : goal.invariant-loop-count
invariant-loop-count l = Standing l.text l.most l.number l.count

abbrev pub decreases-loop-count : goal.decreases-loop-count
decreases-loop-count l = l.most - l.count
