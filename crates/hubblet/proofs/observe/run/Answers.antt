use Rattle.std.proofs.Common.{rules, map}
use Rattle.std.specs.Prelude.{string_bytes}
use Rattle.hb_edge.specs.Causes.{Rose}
use Rattle.hubblet.specs.Observe.{Observed}
use Rattle.hubblet.proofs.Completed.{completes, within}
use Rattle.hubblet.proofs.observe.run.Goals as goal

pub observe-requires : goal.observe-requires
observe-requires g c =
    let limits = within (map string_bytes c.args.words.now) c.in-Ok-Observe.field-0 c.in-Ok-Observe.ensures.ok in
    record { limits = rw limits.1 limits.2 }

pub returns-in-Ok-Observe-clause-completes : goal.returns-in-Ok-Observe-clause-completes
returns-in-Ok-Observe-clause-completes g c = λ j file files is told has sound.
    let read_failed = Rose (g.S.Shelf.faults c.args.shelf.now) (g.S.Shelf.faults c.observe.new.shelf) in
    let write_failed = Rose (g.K.Sink.faults c.args.out.now) (g.K.Sink.faults c.observe.new.out) in
    let before = g.K.Sink.held c.args.out.now in
    let after = g.K.Sink.held c.observe.new.out in
    let observed : Observed j (g.S.Shelf.files c.args.shelf.now) read_failed write_failed before after c.observe.result = search rules in
    completes j (g.S.Shelf.files c.args.shelf.now) files file read_failed write_failed before after c.observe.result told has sound observed
