-- A request after one more field: how it is read, one field after another.
use Rattle.std.specs.Prelude.{ℕ, false, List, [], Some, None, ◌++◌, ◌==◌, if◌then◌else◌}
use Rattle.hb_wire.specs.Field.{Content, Varint, Fixed64, Body, Fixed32}
use Rattle.hb_flow.specs.Fields.{Part}
use Rattle.hb_flow.specs.Steps.{stamp_merged}
use Rattle.hb_api.specs.declared.request.GetFlowsRequest.{GetFlowsRequest}
use Rattle.hb_api.specs.Requests.{is_true}

-- a GetFlowsRequest with no field
abbrev pub no_request : GetFlowsRequest
no_request = record {
  number = 0;
  first = false;
  follow = false;
  since = None;
  until = None;
  unknown = [];
}

-- a GetFlowsRequest with the bytes of a field that is not known
abbrev pub request_keeping : GetFlowsRequest → List ℕ → GetFlowsRequest
request_keeping r raw = record r { unknown = r.unknown ++ raw }

-- a GetFlowsRequest with what a field of this number holds
abbrev pub request_with : GetFlowsRequest → List ℕ → ℕ → Content → GetFlowsRequest
request_with r raw number (Varint value) =
    if number == 1 then record r { number = value }
    else if number == 3 then record r { follow = is_true value }
    else if number == 9 then record r { first = is_true value }
    else request_keeping r raw
request_with r raw number (Body body) =
    if number == 7 then record r { since = Some (stamp_merged r.since body) }
    else if number == 8 then record r { until = Some (stamp_merged r.until body) }
    else request_keeping r raw
request_with r raw number (Fixed64 value) = request_keeping r raw
request_with r raw number (Fixed32 value) = request_keeping r raw

-- a GetFlowsRequest with one more field
abbrev pub request_after : GetFlowsRequest → Part → GetFlowsRequest
request_after r part = request_with r part.raw part.field.number part.field.content
