use Rattle.std.proofs.Common.{◌≡◌, rules}
use Rattle.hb_edge.proofs.Stored.{file_of_plain_put, file_of_plain_others}
use Rattle.hb_edge.proofs.mem_shelf.MemShelf.put.Goals as goal

pub returns-clause-ok : goal.returns-clause-ok
returns-clause-ok c =
    let same : c.in_ok-file.file.items ≡ c.args.bytes.now = search rules in
    file_of_plain_put c.args.name.now c.args.bytes.now c.in_ok-key.key c.in_ok-file.file c.self.inside.stored c.insert.new.self
    c.in_ok-insert.ensures.updates c.in_ok-key.ensures.ok same

pub returns-clause-others : goal.returns-clause-others
returns-clause-others c q ne =
    rw (← c.self.view_is) (file_of_plain_others c.args.name.now c.in_ok-key.key c.in_ok-file.file c.self.inside.stored c.insert.new.self
    c.in_ok-insert.ensures.updates c.in_ok-key.ensures.ok q ne)
