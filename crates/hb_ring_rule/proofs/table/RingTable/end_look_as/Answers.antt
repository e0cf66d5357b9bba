use Rattle.std.proofs.Common.{[], ap, ◌∙◌, rules}
use Rattle.hb_ring_rule.specs.Views.{Reads}
use Rattle.hb_ring_rule.specs.Plays.{ended_play}
use Rattle.hb_ring_rule.proofs.ReaderSteps.{end_allowed, at_reader}
use Rattle.hb_ring_rule.proofs.table.RingTable.end_look_as.Goals as goal

pub load-requires : goal.load-requires
load-requires g c =
    let keyed = c.self.inside.keyed ∙ ap (λ t. t.shape) c.self.view_is in
    let mine = c.seat.invariant ∙ ap (λ s. (Reads s.view, [])) c.seat.view_is in (
      search rules,
      search rules,
      at_reader _ _ _ _ _ _ 1 (λ n. n) (ended_play g.J.Asked.moment) keyed mine
          (end_allowed _ _ _ _ _ _ c.requires.busy c.requires.whole),
    )
