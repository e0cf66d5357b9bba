use Rattle.std.proofs.Common.{[], ap, ◌∙◌, rules}
use Rattle.hb_ring_rule.specs.Views.{Reads}
use Rattle.hb_ring_rule.specs.Plays.{word_play}
use Rattle.hb_ring_rule.proofs.ReaderSteps.{word_allowed, read_within, at_reader}
use Rattle.hb_ring_rule.proofs.table.RingTable.load_word.Goals as goal

pub load-requires : goal.load-requires
load-requires c =
    let keyed = c.self.inside.keyed ∙ ap (λ t. t.shape) c.self.view_is in
    let mine = c.seat.invariant ∙ ap (λ s. (Reads s.view, [])) c.seat.view_is in
    let inside = read_within _ _ _ c.requires.next c.requires.room c.requires.count in (
      search rules,
      search rules,
      at_reader _ _ _ _ _ _ c.args.at (λ n. n) word_play keyed mine
          (word_allowed _ _ _ _ _ _ c.requires.next c.requires.count),
    )
