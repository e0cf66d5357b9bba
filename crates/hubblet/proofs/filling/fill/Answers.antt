use Rattle.std.proofs.Common.{◌∙◌, arith, rules, subst, List, [], ◌∷◌, ℕ}
use Rattle.hb_look.specs.Progress.{HasPut}
use Rattle.hb_observer.specs.Kept.{log_of}
use Rattle.hb_recording.specs.Recording.{IsBadAfter, events}
use Rattle.hubblet.proofs.Filled.{filled_more, response_few}
use Rattle.hubblet.proofs.filling.fill.Goals as goal

pub loop-response-preserved : goal.loop-response-preserved
loop-response-preserved g c =
    let inv = c.loop-response.invariant in
    let put : HasPut g.W.Keep.stands_for g.W.Keep.written g.W.Keep.longest g.W.Keep.fixed c.loop-response.writer c.put.new.writer
    (log_of c.args.slot_bytes (events (c.next.new.response ∷ []))) = search rules in record {
      file = c.in-Response.ensures.file ∙ inv.file;
      room = omega (arith, inv.room, c.in-Response.ensures.further, put.counted, response_few c.args.slot_bytes c.next.new.response);
      filled = filled_more g.W.Keep.stands_for g.W.Keep.written g.W.Keep.longest g.W.Keep.fixed c.args.writer.now c.loop-response.writer c.put.new.writer
          c.loop-response.reader c.next.new.self c.args.slot_bytes c.next.new.response inv.filled
          (c.in-Response.ensures.stands inv.filled.responses inv.filled.given) put;
    }

pub returns-in-Bad-clause-err : goal.returns-in-Bad-clause-err
returns-in-Bad-clause-err g c =
    let inv = c.loop-response.invariant in (
      inv.filled.responses,
      subst (λ (f : List ℕ). IsBadAfter f inv.filled.responses c.in-Bad.at) inv.file
          ((c.in-Bad.ensures.bad inv.filled.responses c.in-Bad.at inv.filled.given (search rules)).0 (search rules)),
    )
