use Rattle.std.proofs.Common.{◌≡◌, ◌∙◌, ap, subst, sym}
use Rattle.std.specs.List.{fold}
use Rattle.hb_flow.specs.Fields.{parts}
use Rattle.hb_flow.specs.Steps.{lost_event_after}
use Rattle.hb_flow.specs.declared.lost_event.LostEvent.{LostEvent}
use Rattle.hb_flow.specs.Messages.{read_lost_event, LostEventFits}
use Rattle.hb_flow.proofs.LostEvents.{lost_read_is}
use Rattle.hb_flow.proofs.Fitting.{lost_event_fits}
use Rattle.hb_flow.proofs.lost_event.LostEvent.read.Goals as goal

read : (c : goal.In-Ok-merge) → c.merge.new.message ≡ read_lost_event c.args.bytes.now
read c =
    c.in-Ok-merge.ensures.1 ∙ ap (λ (e : LostEvent). fold lost_event_after e (parts c.args.bytes.now)) c.in-Ok.ensures
    ∙ lost_read_is c.args.bytes.now (λ i. (c.type_inv.bytes i).fits) c.in-Ok-merge.ensures.0

pub returns-in-Ok-merge-clause-reads : goal.returns-in-Ok-merge-clause-reads
returns-in-Ok-merge-clause-reads c = (c.in-Ok-merge.ensures.0, read c)

pub returns-in-Ok-merge-clause-fits : goal.returns-in-Ok-merge-clause-fits
returns-in-Ok-merge-clause-fits c = subst LostEventFits (sym (read c)) (lost_event_fits c.args.bytes.now (λ i. (c.type_inv.bytes i).fits) c.in-Ok-merge.ensures.0)
