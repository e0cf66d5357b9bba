use Rattle.std.proofs.Common.{◌≡◌, length, ap, rules, arith}
use Rattle.hb_flow.specs.Messages.{record_bytes, oversized}
use Rattle.hb_observer.proofs.KeptLemmas.{oversized_short}
use Rattle.hb_observer.proofs.ingesting.spell.Goals as goal

pub returns-clause-short : goal.returns-clause-short
returns-clause-short c =
    let bytes : c.record_of-2.new.out.items ≡ record_bytes (oversized c.args.event.now) = search rules in
    omega (arith, ap length bytes, oversized_short c.args.event.now, c.requires.slot)
