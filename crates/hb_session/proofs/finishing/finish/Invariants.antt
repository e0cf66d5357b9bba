use Rattle.std.proofs.Common.{◌≡◌, None, Some, ℕ, max, ◌<◌, ◌+◌, ◌*◌, ◌^◌, List, length}
use Rattle.std.specs.List.{All}
use Rattle.std.specs.Option.{ForSome}
use Rattle.hb_edge.specs.Link.{HasMoved}
use Rattle.hb_look.specs.Looks.{added, after}
use Rattle.hb_look.specs.Progress.{HasLooked}
use Rattle.hb_session.specs.declared.turn.Turn.{Turn}
use Rattle.hb_session.specs.Stands.{left}
use Rattle.hb_session.specs.Clients.{IsFed}
use Rattle.hb_session.specs.Sessions.{HaveTurned, IsPassed}
use Rattle.hb_session.proofs.finishing.finish.Given as goal

-- what the turns so far have done
abbrev pub invariant-loop-answer : goal.invariant-loop-answer
invariant-loop-answer g l = (heard : List ℕ) × (bytes : List ℕ)
    × HaveTurned l.fn.session l.session (added (g.R.Look.reader l.fn.reader).looks (g.R.Look.reader l.reader).looks) bytes
    × HasMoved g.L.Link.shown g.L.Link.held g.L.Link.after g.L.Link.fixed l.fn.link l.link heard bytes
    × HasLooked g.R.Look.reader g.R.Look.tells g.R.Look.fixed l.fn.reader l.reader
    × All (λ look. (look.moment ≡ max l.fn.session.moment l.fn.now) × (look.position < after look))
    (added (g.R.Look.reader l.fn.reader).looks (g.R.Look.reader l.reader).looks)
    × ForSome (g.L.Link.held l.fn.link) (λ _. IsPassed g.L.Link.answer g.L.Link.after l.fn.link l.link)
    × IsFed l.fn.input l.input heard
    × (l.fn.session.answer ≡ None → l.session.answer ≡ None)
    × ((answer : Turn) → l.fn.session.answer ≡ Some answer
    → (l.session ≡ l.fn.session) × (l.reader ≡ l.fn.reader) × (l.input ≡ l.fn.input) × (l.link ≡ l.fn.link))
    × (max l.session.moment l.now ≡ max l.fn.session.moment l.fn.now)

-- positions that are left, and then bytes that wait
abbrev pub decreases-loop-answer : goal.decreases-loop-answer
decreases-loop-answer g l = left l.session.source * 2 ^ 64 + length l.session.waiting
