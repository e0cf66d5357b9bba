-- A response in which nothing is long fits a frame.
use Rattle.std.proofs.Common.{◌≡◌, ◌≤◌, length, Option, ap, arith}
use Rattle.hb_flow.specs.Messages.{response_bytes}
use Rattle.hb_flow.specs.declared.response.GetFlowsResponse.{GetFlowsResponse}
use Rattle.hb_flow.specs.declared.response_types.ResponseTypes.{ResponseTypes}
use Rattle.hb_flow.proofs.Sizes.{open_length, response_length}

pub small : (r : GetFlowsResponse) (held : Option ResponseTypes) → r.response_types ≡ held → open_length held ≤ 32000 → length r.node_name ≤ 16000 → length r.unknown ≤ 16000
    → length (response_bytes r) ≤ 65536
small r held is little name others = omega (arith, response_length r, ap open_length is, little, name, others)
