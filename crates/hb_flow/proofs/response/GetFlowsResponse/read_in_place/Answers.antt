use Rattle.std.proofs.Common.{◌≡◌, ◌∙◌, ap, subst, sym}
use Rattle.std.specs.List.{fold}
use Rattle.hb_flow.specs.Fields.{parts}
use Rattle.hb_flow.specs.Steps.{response_after}
use Rattle.hb_flow.specs.declared.response.GetFlowsResponse.{GetFlowsResponse}
use Rattle.hb_flow.specs.Messages.{read_response, ResponseFits}
use Rattle.hb_flow.proofs.Reading.{read_is}
use Rattle.hb_flow.proofs.Fitting.{response_fits}
use Rattle.hb_flow.proofs.response.GetFlowsResponse.read_in_place.Goals as goal

read : (c : goal.In-Ok-merge) → c.merge.new.message ≡ read_response c.args.bytes.now
read c =
    c.in-Ok-merge.ensures.1 ∙ ap (λ (r : GetFlowsResponse). fold response_after r (parts c.args.bytes.now)) c.in-Ok.ensures.empty
    ∙ read_is c.args.bytes.now (λ i. (c.type_inv.bytes i).fits) c.in-Ok-merge.ensures.0

pub returns-in-Ok-merge-clause-reads : goal.returns-in-Ok-merge-clause-reads
returns-in-Ok-merge-clause-reads c = (c.in-Ok-merge.ensures.0, read c)

pub returns-in-Ok-merge-clause-fits : goal.returns-in-Ok-merge-clause-fits
returns-in-Ok-merge-clause-fits c = subst ResponseFits (sym (read c)) (response_fits c.args.bytes.now (λ i. (c.type_inv.bytes i).fits) c.in-Ok-merge.ensures.0)
