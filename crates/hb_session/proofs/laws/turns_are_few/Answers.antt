use Rattle.std.proofs.Common.{length}
use Rattle.hb_session.specs.Replies.{owed, spelled}
use Rattle.hb_session.specs.Sessions.{all_looks}
use Rattle.hb_session.proofs.Looks.{few_turns}
use Rattle.hb_session.proofs.laws.turns_are_few.Goals as goal

pub returns : goal.returns
returns c = record {
  few = λ o turns alone made leads taken moved. few_turns o turns (length (spelled (owed o (all_looks turns)))) alone made leads taken moved;
}
