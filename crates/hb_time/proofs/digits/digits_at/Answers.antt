use Rattle.std.proofs.Common.{arith, refl}
use Rattle.hb_time.proofs.DigitLemmas.{nothing, one_more, small_yet}
use Rattle.hb_time.proofs.digits.digits_at.Goals as goal

pub loop-count-init : goal.loop-count-init
loop-count-init c = nothing c.args.text.now c.args.most

pub overflow_mul-number : goal.overflow_mul-number
overflow_mul-number c =
    let small = small_yet _ _ _ _ c.loop-count.invariant c.requires c.loop-count-test.true in
    omega arith

pub overflow_add-number : goal.overflow_add-number
overflow_add-number c =
    let small = small_yet _ _ _ _ c.loop-count.invariant c.requires c.loop-count-test.true in
    let digit = c.if-is_ascii_digit.ensures.cases in
    omega (arith, digit)

pub loop-count-preserved : goal.loop-count-preserved
loop-count-preserved c =
    let digit = c.if-is_ascii_digit.ensures.cases in
    let test = c.if-count-text.true in
    rw c.from.ensures (one_more _ _ _ _ _ c.loop-count.invariant c.loop-count-test.true test refl digit)
