use Rattle.std.proofs.Common.{rules, ◌≡◌, ◌∙◌, true, false, List, refl, sym, ap, arith}
use Rattle.hb_look.specs.Looks.{LookMade, added}
use Rattle.hb_look.proofs.Added.{none_added}
use Rattle.hb_session.specs.Stands.{Source, HasRoom, left}
use Rattle.hb_session.proofs.Sessions.{worked_turned, starved_turned, unmoved_turned, no_answer}
use Rattle.hb_session.proofs.Worked.{room_left}
use Rattle.hb_session.proofs.session.NodeSession.look_on.Goals as goal
use Rattle.hb_session.proofs.session.NodeSession.look_on.Goals.{in-More, in-Idle, in-Spent, in-NoMemory}

pub returns-clause-turned : goal.returns-clause-turned
returns-clause-turned g c =
    let more : List LookMade = added (g.R.Look.reader c.args.reader.now).looks (g.R.Look.reader c.work-worked.new.reader).looks in
    let s : Source = c.args.self.now.source in
    let same : s ≡ c.self-inside.inside.0.0 = search rules in
    let room : HasRoom s.opening s.way = search rules in
    elim c.match-worked.branch [
      | in-More w ↦
          let near = c.work-worked.ensures.more w.in-More.is in
          let closer = λ (ends : s.opening.request.follow ≡ false). near.0 (sym (ap (λ (x : Source). x.opening.request.follow) same) ∙ ends) in
          worked_turned _ _ _ more same c.requires.going.0 c.requires.going.1 (search rules) _ _ _ (c.work-worked.ensures.worked (search rules)) refl (search rules) (search rules)
          (λ ends. let less = closer ends in omega (arith, near.1.0, less, ap left same)) (λ ends. let less = closer ends in omega (arith, near.1.0, less, ap left same))
      | in-Idle w ↦
          let waits = c.work-worked.ensures.idle w.in-Idle.is in
          let follows : s.opening.request.follow ≡ true = ap (λ (x : Source). x.opening.request.follow) same ∙ waits.0 in
          worked_turned _ _ _ more same c.requires.going.0 c.requires.going.1 (search rules) _ _ _ (c.work-worked.ensures.worked (search rules)) refl (search rules) (search rules)
          (λ ends. absurd (let both : true ≡ false = sym follows ∙ ends in cc)) (λ ends. absurd (let both : true ≡ false = sym follows ∙ ends in cc))
      | in-Spent w ↦
          let unmoved = c.work-worked.ensures.unmoved w.in-Spent.is in
          unmoved_turned _ _ more _ (none_added (g.R.Look.reader c.args.reader.now).looks (g.R.Look.reader c.work-worked.new.reader).looks (ap (λ r. (g.R.Look.reader r).looks) unmoved.1)) refl
          (search rules) (search rules) (search rules) (λ e. absurd (no_answer (sym c.requires.going.0 ∙ e)))
      | in-NoMemory w ↦
          starved_turned _ _ more c.requires.going.0 c.requires.going.1 (search rules) (search rules) (search rules) _ same c.work-worked.ensures.opening
          (λ ends. let some = room_left s.opening s.way room ends in omega (arith, some)) c.work-worked.ensures.made c.work-worked.ensures.counted
    ]
