use Rattle.hb_ip.specs.declared.addr.Addr.TheVariants.{V4, V6}
use Rattle.hb_ip.proofs.Addresses.{exact_address, no_address}
use Rattle.hb_ip.proofs.addr.read_addr.Goals as goal

pub returns-in-Ok-V4 : goal.returns-in-Ok-V4
returns-in-Ok-V4 c =
    let text = rw c.in-Ok-V4.field-0-is at c.in-Ok-V4.ensures in
    record { exact = exact_address c.args.text.now (V4 c.to_bits.result) (c.in-Ok-V4.ip, text, c.to_bits.ensures) }

pub returns-in-Ok-V6 : goal.returns-in-Ok-V6
returns-in-Ok-V6 c =
    let text = rw c.in-Ok-V6.field-0-is at c.in-Ok-V6.ensures in
    record { exact = exact_address c.args.text.now (V6 c.to_bits-in-Ok-V6.result) (c.in-Ok-V6.ip, text, c.to_bits-in-Ok-V6.ensures) }

pub returns-in-Err : goal.returns-in-Err
returns-in-Err c = record { exact = no_address c.args.text.now c.in-Err.ensures }
