use Rattle.std.proofs.Common.{[], ap, ◌∙◌, rules}
use Rattle.hb_ring_rule.specs.Views.{Reads}
use Rattle.hb_ring_rule.specs.Plays.{looked_up_play}
use Rattle.hb_ring_rule.proofs.ReaderSteps.{look_up_allowed, at_reader}
use Rattle.hb_ring_rule.proofs.table.RingTable.look_up_as.Goals as goal

pub load-requires : goal.load-requires
load-requires g c =
    let keyed = c.self.inside.keyed ∙ ap (λ t. t.shape) c.self.view_is in
    let mine = c.seat.invariant ∙ ap (λ s. (Reads s.view, [])) c.seat.view_is in (
      search rules,
      search rules,
      at_reader _ _ _ _ _ _ 0 (λ n. n) (looked_up_play g.J.Asked.position g.J.Asked.moment) keyed mine
          (look_up_allowed _ _ _ _ _ _ _ c.requires.idle),
    )
