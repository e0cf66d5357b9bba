use Rattle.std.proofs.Common.{◌≡◌, ◌++◌, take}
use Rattle.std.specs.List.{flat_map}
use Rattle.hb_wire.specs.Field.{Body, spelled}
use Rattle.hb_schema.proofs.writing.put_texts.Given as goal

abbrev pub invariant-loop-text : goal.invariant-loop-text
invariant-loop-text l = l.out.items ≡ l.fn.out.items ++ flat_map (λ text. spelled (record { number = l.number; content = Body text })) (take l.text-index l.texts)
