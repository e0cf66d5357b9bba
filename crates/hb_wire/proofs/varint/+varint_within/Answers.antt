use Rattle.std.proofs.Common.{◌<◌, arith}
use Rattle.hb_wire.proofs.Limits.{limit_step, limit_top}
use Rattle.hb_wire.proofs.varint.+varint_within.Goals as goal

pub overflow_mul-result : goal.overflow_mul-result
overflow_mul-result t c =
    let lt : 0 < c.args.more = omega arith in
    omega (arith, limit_step c.args.more lt, limit_top c.args.more c.requires, c.in_ok-high-in-len1-up.ensures.below)

pub overflow_add-result : goal.overflow_add-result
overflow_add-result t c =
    let lt : 0 < c.args.more = omega arith in
    omega (arith, limit_step c.args.more lt, limit_top c.args.more c.requires, c.in_ok-high-in-len1-up.ensures.below)
