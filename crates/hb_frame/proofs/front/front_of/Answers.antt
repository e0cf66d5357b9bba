use Rattle.std.proofs.Common.{◌≡◌, ◌<◌, ◌≤◌, ◌+◌, ◌^◌, length, get_or, sym, subst, arith, rules}
use Rattle.hb_frame.proofs.Begins.{length_in, has_long_body, has_no_body, has_no_head, has_no_byte}
use Rattle.hb_frame.specs.Cut.{HasLongBody}
use Rattle.hb_frame.proofs.front.front_of.Goals.{in_default-via-then-bytes-lt1, in_default-via-in-len1-up+else-kind-gt-CANCEL+then-bytes-lt5}
use Rattle.hb_frame.proofs.front.front_of.Goals as goal

pub returns-then-size-gt-BODY : goal.returns-then-size-gt-BODY
returns-then-size-gt-BODY c =
    let bytes = c.args.bytes.now in
    let known : get_or bytes 0 0 ≤ 3 = search rules in
    let size : c.from_be_bytes-length.result ≡ length_in bytes = search rules in
    let over : 65536 < c.from_be_bytes-length.result = search rules in
    let small : c.from_be_bytes-length.result < 2 ^ 32 = search rules in
    record {
      front = subst (HasLongBody bytes) (sym size)
          (has_long_body bytes (λ i. (c.type_inv.bytes i).fits) c.in-len5-up.len_at_least known (omega (arith, over, size)) (omega (arith, small, size)));
    }

pub returns-then-size-rest : goal.returns-then-size-rest
returns-then-size-rest c =
    let bytes = c.args.bytes.now in
    let known : get_or bytes 0 0 ≤ 3 = search rules in
    let size : c.from_be_bytes-length.result ≡ length_in bytes = search rules in
    let short : c.from_be_bytes-length.result ≤ 65536 = search rules in
    let less : length bytes < 5 + c.from_be_bytes-length.result = search rules in
    record {
      front = has_no_body bytes (λ i. (c.type_inv.bytes i).fits) c.in-len5-up.len_at_least known (omega (arith, short, size)) (omega (arith, less, size));
    }

pub returns-in_default : goal.returns-in_default
returns-in_default c =
    elim c.in_default.branch [
      | in_default-via-then-bytes-lt1 w ↦ record { front = has_no_byte c.args.bytes.now (search rules) }
      | in_default-via-in-len1-up+else-kind-gt-CANCEL+then-bytes-lt5 w ↦
          record { front = has_no_head c.args.bytes.now (search rules) (search rules) }
    ]
