use Rattle.std.proofs.Common.{rules}
use Rattle.hb_session.proofs.Clients.{asked_for, asked_ended}
use Rattle.hb_session.proofs.inbox.Inbox.hear.Goals as goal

pub returns-clause-input : goal.returns-clause-input
returns-clause-input g c = asked_for c.args.input.now c.feed.new.self c.stop_of.new.input c.read.new.self.piece c.read.new.self.last c.stop_of.result (search rules) c.stop_of.ensures.stays c.stop_of.ensures.gave c.stop_of.ensures.reads (search rules)

pub returns-clause-ended : goal.returns-clause-ended
returns-clause-ended g c = asked_ended _ c.feed.new.self _ _ (search rules) (search rules) (search rules)
