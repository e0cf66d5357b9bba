use Rattle.std.proofs.Common.{ap, ◌∙◌, rules}
use Rattle.hb_ring_rule.specs.Views.{Reads}
use Rattle.hb_ring_rule.proofs.SeatSteps.{split_at_reader}
use Rattle.hb_ring_rule.proofs.table.RingTable.twin.Goals as goal

pub split_seat-requires : goal.split_seat-requires
split_seat-requires c =
    let keyed = c.self.inside.keyed ∙ ap (λ t. t.shape) c.self.view_is in
    let mine = ap (λ m. m.0) c.seat.invariant ∙ ap (λ s. Reads s.view) c.seat.view_is in
    (search rules, search rules, split_at_reader _ _ _ _ _ keyed mine)
