-- What the value of each option says, or what its absence says.
use Rattle.std.specs.Prelude.{ℕ, ◌+◌, ◌%◌, ◌^◌, Bool, true, false, ◌&&◌, ◌||◌, ◌==◌, nat_lt, nat_le, List, length, codes, bytes_eq, Option, Some, None, option_map, option_and_then, if◌then◌else◌}
use Rattle.std.specs.Char.{is_ascii_digit, is_ascii_lowercase}
use Rattle.std.specs.Int.{is_power_of_two}
use Rattle.std.specs.List.{list_all}
use Rattle.std.specs.Str.{all_ascii_digits}
use Rattle.std.specs.Str.Parse.{digits_value}
use Rattle.hb_api.specs.Limits.{longest_name}
use Rattle.hb_api.specs.Steps.{no_request}
use Rattle.hb_api.specs.declared.request.GetFlowsRequest.{GetFlowsRequest}
use Rattle.hb_look.specs.Limits.{largest_capacity, longest_record}
use Rattle.hb_words.specs.Limits.{default_capacity, default_slot, default_node}

-- the number below 2^64 that one or more decimal digits write
abbrev pub number : List ℕ → Option ℕ
number text =
    if nat_lt 0 (length text) && all_ascii_digits text && nat_lt (digits_value 10 text) (2 ^ 64)
    then Some (digits_value 10 text) else None

-- the number that a text writes, where it passes a test
abbrev pub number_that : (ℕ → Bool) → List ℕ → Option ℕ
number_that test text = option_and_then (λ n. if test n then Some n else None) (number text)

-- 1, 3, 7, and so on up to the largest: one less than a power of two
abbrev pub is_capacity : ℕ → Bool
is_capacity n = nat_le 1 n && nat_le n largest_capacity && is_power_of_two (n + 1)

-- the capacity of the ring
abbrev pub capacity : Option (List ℕ) → Option ℕ
capacity None = Some default_capacity
capacity (Some text) = number_that is_capacity text

-- a multiple of 8 from 64 to the longest record
abbrev pub is_slot : ℕ → Bool
is_slot n = (n % 8 == 0) && nat_le 64 n && nat_le n longest_record

-- the bytes of a slot of the ring
abbrev pub slot : Option (List ℕ) → Option ℕ
slot None = Some default_slot
slot (Some text) = number_that is_slot text

-- a to z, 0 to 9, and -
abbrev pub is_name_letter : ℕ → Bool
is_name_letter c = is_ascii_lowercase c || is_ascii_digit c || (c == 45)

-- a name that a node may have
abbrev pub is_name : List ℕ → Bool
is_name text =
    nat_le 1 (length text) && nat_le (length text) longest_name && list_all is_name_letter text

-- the name of the node
abbrev pub node : Option (List ℕ) → Option (List ℕ)
node None = Some default_node
node (Some text) = if is_name text then Some text else None

-- the request for so many flows, from the first one on or back from the last
abbrev pub flows : Bool → ℕ → GetFlowsRequest
flows first number = record no_request { number = number; first = first }

-- the request of --last and --first, of which one may stand; without them all flows are asked for
abbrev pub request : Option (List ℕ) → Option (List ℕ) → Option GetFlowsRequest
request None None = Some (flows false 0)
request (Some last) None = option_map (flows false) (number_that (nat_lt 0) last)
request None (Some first) = option_map (flows true) (number_that (nat_lt 0) first)
request (Some last) (Some first) = None

-- the value of --output is frames
abbrev pub is_frames : Option (List ℕ) → Bool
is_frames None = false
is_frames (Some form) = bytes_eq form (codes "frames")
