use Rattle.std.proofs.Common.{[], ap, ◌∙◌, rules}
use Rattle.hb_ring_rule.specs.Views.{Writes}
use Rattle.hb_ring_rule.specs.Plays.{stored_play}
use Rattle.hb_ring_rule.proofs.WriterSteps.{store_allowed, word_within, at_writer}
use Rattle.hb_ring_rule.proofs.table.RingTable.store.Goals as goal

pub store-requires : goal.store-requires
store-requires c =
    let keyed = c.self.inside.keyed ∙ ap (λ t. t.shape) c.self.view_is in
    let mine = c.seat.invariant ∙ ap (λ s. (Writes s.view, [])) c.seat.view_is in
    let inside = word_within _ _ _ _ c.requires.next c.requires.part in (
      search rules,
      search rules,
      at_writer _ _ _ _ _ _ c.args.at (λ _. c.args.word) (λ me _. stored_play me c.args.word) keyed mine
          (store_allowed _ _ _ _ _ _ _ c.requires.next c.requires.part),
    )
