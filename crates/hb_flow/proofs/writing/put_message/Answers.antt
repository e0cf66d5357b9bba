use Rattle.std.proofs.Common.{◌≡◌, length, rules}
use Rattle.std.proofs.lemmas.Result.{on_ok_weaker}
use Rattle.hb_flow.proofs.Spellings.{body_closed}
use Rattle.hb_flow.proofs.writing.put_message.Goals as goal

pub returns-clause-ok : goal.returns-clause-ok
returns-clause-ok g c =
    let place : c.len-start.result ≡ length c.write_tag.new.out.items = search rules in
    on_ok_weaker c.close_body.result
    (λ closed. body_closed c.args.out.now.items c.write_tag.new.out.items c.put.new.out.items c.close_body.new.out.items (g.M.Message.spelled c.args.message.now)
    c.args.number c.len-start.result c.in_ok-write_tag.ensures.ok c.in_ok-put.ensures.ok place closed)
    c.close_body.ensures.ok
