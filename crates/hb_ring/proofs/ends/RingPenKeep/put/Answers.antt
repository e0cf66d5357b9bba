use Rattle.std.proofs.Common.{refl}
use Rattle.hb_ring.proofs.Loans.{pen_same}
use Rattle.hb_ring.proofs.ends.RingPenKeep.put.Goals as goal

pub returns-clause-kept : goal.returns-clause-kept
returns-clause-kept c = λ other.
    let pass = c.args.self.now.pass in
    let same = c.write.ensures.kept other in
    pen_same _ _ refl (λ i. record { ref_ptr = pass.ref_ptr; ghost_name = pass.ghost_name; now = same i })
