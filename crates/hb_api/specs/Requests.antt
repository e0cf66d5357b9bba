-- What the bytes of a request read as, number by number, and its one canonical spelling. Of
-- numbers the last counts, the bodies of a Timestamp are read as one, and the bytes of fields
-- that are not known are kept.
use Rattle.std.specs.Prelude.{ℕ, zero, suc, ◌<◌, ◌^◌, Bool, true, false, List, [], ◌∷◌, ◌++◌, is_some, IfSome, if◌then◌else◌}
use Rattle.std.specs.Option.{option_map}
use Rattle.hb_wire.specs.Field.{spelling}
use Rattle.hb_flow.specs.Fields.{Part, parts, numbers, bodies, last_or, joined, Row, unknown}
use Rattle.hb_flow.specs.Messages.{read_stamp, stamp_bytes, number_field, message_field, SpellUnknown, StampFits}
use Rattle.hb_api.specs.declared.request.GetFlowsRequest.{GetFlowsRequest}

-- a number as a bool: true where it is not 0
abbrev pub is_true : ℕ → Bool
is_true zero = false
is_true (suc n) = true

-- the number in a varint of a bool
abbrev pub of_bool : Bool → ℕ
of_bool b = if b then 1 else 0

-- GetFlowsRequest: number=1 uint64, follow=3 bool, since=7 Timestamp, until=8 Timestamp, first=9
-- bool
abbrev pub request_row : Row
request_row = (1, 0) ∷ (3, 0) ∷ (7, 2) ∷ (8, 2) ∷ (9, 0) ∷ []

-- the GetFlowsRequest that bytes read as
unfoldable pub read_request : List ℕ → GetFlowsRequest
read_request bytes = record {
  number = last_or 0 (numbers 1 (parts bytes));
  first = is_true (last_or 0 (numbers 9 (parts bytes)));
  follow = is_true (last_or 0 (numbers 3 (parts bytes)));
  since = option_map read_stamp (joined (bodies 7 (parts bytes)));
  until = option_map read_stamp (joined (bodies 8 (parts bytes)));
  unknown = unknown request_row (parts bytes);
}

-- a GetFlowsRequest's canonical spelling: its fields, and then the bytes of those that are not
-- known
unfoldable pub request_bytes : GetFlowsRequest → List ℕ
request_bytes r = spelling (number_field 1 r.number
    ++ number_field 3 (of_bool r.follow)
    ++ message_field 7 (option_map stamp_bytes r.since)
    ++ message_field 8 (option_map stamp_bytes r.until)
    ++ number_field 9 (of_bool r.first)) ++ r.unknown

-- among these fields is a field mask: field_mask=10, a message
abbrev pub have_mask : List Part → Bool
have_mask ps = is_some (joined (bodies 10 ps))

-- a request has a field mask, which is not read: it is among the fields that are not known
abbrev pub is_masked : GetFlowsRequest → Bool
is_masked request = have_mask (parts request.unknown)

-- a uint64 has 64 bits, and each part fits
pub record RequestFits (r : GetFlowsRequest) : Type 0 where
  pub number : r.number < 2 ^ 64
  pub since : IfSome r.since StampFits
  pub until : IfSome r.until StampFits
  pub unknown : SpellUnknown request_row r.unknown
