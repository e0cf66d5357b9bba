use Rattle.std.proofs.Common.{rules}
use Rattle.hb_edge.specs.Link.{moved_of}
use Rattle.hb_session.proofs.Sessions.{sent_gained}
use Rattle.hb_session.proofs.session.NodeSession.send_on.Goals as goal

pub returns-clause-turned : goal.returns-clause-turned
returns-clause-turned g c =
    sent_gained _ _ (moved_of c.args.self.now.waiting c.send-moved.result) c.requires.going.0 (search rules) (search rules) (search rules)
