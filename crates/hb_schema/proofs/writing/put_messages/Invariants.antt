use Rattle.std.proofs.Common.{◌≡◌, ◌++◌, take}
use Rattle.std.specs.List.{flat_map}
use Rattle.hb_wire.specs.Field.{Body, spelled}
use Rattle.hb_schema.specs.Writing.{writes}
use Rattle.hb_schema.proofs.writing.put_messages.Given as goal

abbrev pub invariant-loop-message : goal.invariant-loop-message
invariant-loop-message g l = l.out.items ≡ l.fn.out.items
    ++ flat_map (λ message. spelled (record { number = l.number; content = Body (writes g.M.Message.shape (g.M.Message.view message)) })) (take l.message-index l.messages)
