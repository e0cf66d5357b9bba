use Rattle.std.proofs.Common.{◌≡◌, rules}
use Rattle.hubblet.proofs.observe.observe.Goals as goal

pub returns-in-Ok-clause-ends : goal.returns-in-Ok-clause-ends
returns-in-Ok-clause-ends g c =
    let sent : c.sent.result.now ≡ c.in-Ok.link.taken = search rules in (
      c.in-Err-write_whole.ensures.cause,
      c.in-Ok.link.taken,
      c.in-Ok.ensures.ok,
      rw sent at c.in-Err-write_whole.ensures.err,
    )
