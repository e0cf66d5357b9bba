use Rattle.std.proofs.Common.{◌≡◌, ◌∙◌, ap, subst, sym}
use Rattle.std.specs.List.{fold}
use Rattle.hb_flow.specs.Fields.{parts}
use Rattle.hb_api.specs.declared.request.GetFlowsRequest.{GetFlowsRequest}
use Rattle.hb_api.specs.Steps.{request_after}
use Rattle.hb_api.specs.Requests.{read_request, RequestFits}
use Rattle.hb_api.proofs.ByNumber.{read_is}
use Rattle.hb_api.proofs.Fitting.{request_fits}
use Rattle.hb_api.proofs.request.GetFlowsRequest.read.Goals as goal

read : (c : goal.In-Ok-merge) → c.merge.new.message ≡ read_request c.args.bytes.now
read c =
    c.in-Ok-merge.ensures.1 ∙ ap (λ (r : GetFlowsRequest). fold request_after r (parts c.args.bytes.now)) c.in-Ok.ensures.empty
    ∙ read_is c.args.bytes.now (λ i. (c.type_inv.bytes i).fits) c.in-Ok-merge.ensures.0

pub returns-in-Ok-merge-clause-reads : goal.returns-in-Ok-merge-clause-reads
returns-in-Ok-merge-clause-reads c = (c.in-Ok-merge.ensures.0, read c)

pub returns-in-Ok-merge-clause-fits : goal.returns-in-Ok-merge-clause-fits
returns-in-Ok-merge-clause-fits c = subst RequestFits (sym (read c)) (request_fits c.args.bytes.now (λ i. (c.type_inv.bytes i).fits) c.in-Ok-merge.ensures.0)
