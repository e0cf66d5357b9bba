-- Two of a writer's ends are one where their loans are.
use Rattle.std.proofs.Common.{◌≡◌}
use Rattle.std.proofs.Math.Nat.{ℕ_set}
use mathlib.Core.HLevel.{is_prop→PathP}
use base.Stored.{Coded-set}
use Rattle.atomic_table.specs.Seated.{table_id_coded}
use Rattle.hb_ring.specs.declared.ends.RingPen.{RingPen}
use Rattle.hb_ring.specs.Passes.{IsWriterOf}

pub pen_same : (a b : RingPen) → a.ring ≡ b.ring → a.pass ≡ b.pass → a ≡ b
pen_same a b ring pass = λ i. record {
  ring = ring i;
  pass = pass i;
  of = is_prop→PathP (λ j. IsWriterOf (ring j).now (pass j).now)
      (λ j p q k. (Coded-set table_id_coded _ _ p.0 q.0 k, ℕ_set _ _ p.1 q.1 k, ℕ_set _ _ p.2 q.2 k)) a.of b.of i;
}
