-- The requests that are refused.
use Rattle.std.specs.Prelude.{◌≡◌, ◌⊎◌, ℕ, ◌&&◌, List, Option, Some, None, if◌then◌else◌, codes}
use Rattle.hb_api.specs.declared.request.GetFlowsRequest.{GetFlowsRequest}
use Rattle.hb_api.specs.Requests.{is_masked}
use Rattle.hb_session.specs.declared.turn.OpenFault.{OpenFault}
use Rattle.hb_session.specs.declared.turn.OpenFault.TheVariants as faults

-- why a call is refused: gRPC's status code, and a text
pub record Status : Type 0 where
  pub code : ℕ
  pub text : List ℕ

-- gRPC's INVALID_ARGUMENT and UNIMPLEMENTED
abbrev pub invalid_argument : ℕ
invalid_argument = 3

abbrev pub unimplemented : ℕ
unimplemented = 12

-- The status of the first check that refuses a request: the first flows cannot be followed, and
-- masks are not built.
abbrev pub refusal : GetFlowsRequest → Option Status
refusal request = if request.first && request.follow
    then Some (record { code = invalid_argument; text = codes "first with follow" })
    else if is_masked request
    then Some (record { code = unimplemented; text = codes "field mask" })
    else None

-- why no session was opened for a request: it is refused with this status, or for want of memory
abbrev pub IsRefusal : GetFlowsRequest → OpenFault → Type 0
IsRefusal request fault = (fault ≡ faults.NoMemory) ⊎ ((status : Status)
    × (refusal request ≡ Some status) × (fault ≡ faults.BadRequest status.code status.text))
