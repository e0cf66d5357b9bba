use Rattle.std.proofs.Common.{[], ap, ◌∙◌, rules}
use Rattle.hb_ring_rule.specs.Views.{Writes}
use Rattle.hb_ring_rule.specs.Plays.{finished_play}
use Rattle.hb_ring_rule.proofs.WriterSteps.{finish_allowed, at_writer}
use Rattle.hb_ring_rule.proofs.table.RingTable.finish.Goals as goal

pub store-requires : goal.store-requires
store-requires c =
    let keyed = c.self.inside.keyed ∙ ap (λ t. t.shape) c.self.view_is in
    let mine = c.seat.invariant ∙ ap (λ s. (Writes s.view, [])) c.seat.view_is in (
      search rules,
      search rules,
      at_writer _ _ _ _ _ _ 0 (λ _. c.args.finished) (λ me _. finished_play me c.args.finished) keyed mine
          (finish_allowed _ _ _ _ _ _ c.requires.busy c.requires.whole c.requires.next),
    )
