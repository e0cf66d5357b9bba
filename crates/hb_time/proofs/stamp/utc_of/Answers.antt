use Rattle.std.proofs.Common.{arith}
use Rattle.jiff_core.proofs.SignedLemmas.{signed_arith}
use Rattle.hb_time.proofs.StampLemmas.{within, utc_is, utc_at}
use Rattle.hb_time.proofs.stamp.utc_of.Goals as goal

pub overflow_add-result : goal.overflow_add-result
overflow_add-result c =
    let w = within c.args.stamp c.requires in
    let low = w.low in
    let high = w.high in
    omega (arith, signed_arith)

pub overflow_cast-result : goal.overflow_cast-result
overflow_cast-result c =
    let u = utc_is _ _ (within c.args.stamp c.requires) in
    rw u.1 (tt, omega arith)

pub returns-clause-at : goal.returns-clause-at
returns-clause-at c =
    let u = utc_is _ _ (within c.args.stamp c.requires) in
    rw u.1 (utc_at c.args.stamp u.0 c.requires u.2)

pub returns-clause-bounds : goal.returns-clause-bounds
returns-clause-bounds c =
    let u = utc_is _ _ (within c.args.stamp c.requires) in
    rw u.1 (u.3, u.4)
