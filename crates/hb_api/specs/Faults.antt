-- The first fault of a request's bytes, by its place, and all that they have.
use Rattle.std.specs.Prelude.{◌≡◌, ◌⊎◌, ℕ, List, Option, None, ◌==◌, if◌then◌else◌}
use Rattle.hb_flow.specs.Faults.{Check, message_fault, stamp_check}
use Rattle.hb_flow.specs.AllFaults.{Inside, InMessage, InStamp}
use Rattle.hb_schema.specs.declared.fault.DecodeFault.{DecodeFault}

-- what is wrong in the body of a GetFlowsRequest's field: of since or until
unfoldable pub request_check : Check
request_check number place body =
    if number == 7 then message_fault stamp_check place body
    else if number == 8 then message_fault stamp_check place body
    else None

-- the first fault of a GetFlowsRequest
abbrev pub request_fault : List ℕ → Option DecodeFault
request_fault bytes = message_fault request_check 0 bytes

-- the faults in a GetFlowsRequest's field: of since or until
abbrev pub InRequest : Inside
InRequest number place body fault = ((number ≡ 7) × InMessage InStamp place body fault)
    ⊎ ((number ≡ 8) × InMessage InStamp place body fault)

-- those of a GetFlowsRequest
abbrev pub HasFault : List ℕ → DecodeFault → Type 0
HasFault bytes fault = InMessage InRequest 0 bytes fault
