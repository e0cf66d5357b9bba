use Rattle.std.proofs.Common.{ap, ◌∙◌, refl, rules}
use Rattle.hb_ring_rule.specs.Plays.{with_joined, confirmed_play}
use Rattle.hb_ring_rule.proofs.WriterSteps.{confirm_allowed, at_writer}
use Rattle.hb_ring_rule.proofs.SeatSteps.{join_at}
use Rattle.hb_ring_rule.proofs.table.RingTable.join.Goals as goal

pub join_seat-requires : goal.join_seat-requires
join_seat-requires c =
    let mine = ap (λ m. m.0) c.seat.invariant in
    let its = ap (λ m. m.0) c.reader.invariant in
    let no_slots = ap (λ m. m.1) c.reader.invariant in
    (search rules, search rules, no_slots, search rules, join_at _ _ _ _ _ _ _ mine its)

pub load-requires : goal.load-requires
load-requires c =
    let before = c.seat.inside.seat.me.0 in
    let other = c.reader.inside.seat.me.0 in
    let mine = c.join_seat.ensures.2 ∙ ap (λ m. (with_joined before other, m.1)) c.seat.invariant in
    (search rules, search rules, at_writer _ _ _ _ _ _ 0 (λ n. n) confirmed_play refl mine (confirm_allowed _ _ _ _ _ _))
