use Rattle.std.proofs.Common.{◌≡◌, ◌++◌, take}
use Rattle.std.specs.List.{flat_map}
use Rattle.hb_wire.specs.Varint.{varint}
use Rattle.hb_schema.specs.Writing.{varint_of}
use Rattle.hb_schema.proofs.writing.put_varints.Given as goal

abbrev pub invariant-loop-value : goal.invariant-loop-value
invariant-loop-value g l = l.out.items ≡ l.fn.out.items
    ++ flat_map (λ value. varint (varint_of g.N.Number.kind (g.N.Number.value value))) (take l.value-index l.values)
