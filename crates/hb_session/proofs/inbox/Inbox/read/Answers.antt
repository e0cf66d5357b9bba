use Rattle.std.proofs.Common.{rules, ◌≡◌, List, ℕ, [], subst, sym}
use Rattle.hb_edge.specs.Link.{HasMoved}
use Rattle.hb_edge.proofs.Moves.{moved_none}
use Rattle.hb_session.proofs.inbox.Inbox.read.Goals as goal

-- nothing is read once the end was
pub returns-else-ne-clause-moved : goal.returns-else-ne-clause-moved
returns-else-ne-clause-moved g c =
    let none : c.args.self.now.piece ≡ [] = search rules in
    subst (λ (p : List ℕ). HasMoved g.L.Link.shown g.L.Link.held g.L.Link.after g.L.Link.fixed c.args.link.now c.args.link.now p []) (sym none)
    (moved_none g.L.Link.shown g.L.Link.held g.L.Link.after g.L.Link.fixed c.args.link.now)
