use Rattle.std.proofs.Common.{◌≡◌, ◌≢◌, ◌∙◌, ◌++◌, ◌<◌, ◌≤◌, ◌^◌, ℕ, List, [], length, ap, subst, arith, rules, refl, max, inl, inr}
use Rattle.std.specs.List.{All}
use Rattle.std.proofs.lemmas.List.Elements.{All-weaker}
use Rattle.hb_edge.specs.MemLink.{LinkState}
use Rattle.hb_look.specs.Looks.{added, after}
use Rattle.hb_session.specs.Openings.{Opening, opened}
use Rattle.hb_session.specs.Replies.{AreMade}
use Rattle.hb_session.specs.Sessions.{IsWhole}
use Rattle.hb_session.specs.declared.turn.Turn.TheVariants as Turn
use Rattle.hb_session.proofs.Looks.{is_reply}
use Rattle.hb_session.proofs.Links.{IsFree, free_after, ends_else, same_held}
use Rattle.hb_session.proofs.whole.reply_of.Goals as goal

pub returns-in-Done-clause-ok : goal.returns-in-Done-clause-ok
returns-in-Done-clause-ok g c = λ log tells.
    let top : c.top-top.result ≡ length log = c.top-top.ensures.told log tells in
    let cap = (g.R.Look.reader c.args.reader.now).capacity in
    let same : (g.R.Look.reader c.top-top.new.self).capacity ≡ cap = c.top-top.ensures.looked.later.capacity in
    let capacity : c.capacity.result ≡ cap = c.capacity.ensures.capacity ∙ same in
    let o : Opening = opened c.args.request.now c.args.name.now (length log) cap in
    let before = (g.R.Look.reader c.top-top.new.self).looks in
    let more = added before (g.R.Look.reader c.finish.new.reader).looks in
    let turned = c.finish.ensures.turned in
    let looked = c.finish.ensures.looked in
    let session = c.in_ok-session.session in
    let moment : ℕ = max session.moment 0 in
    let is : session.source.opening ≡ o =
    c.in_ok-session.ensures.opening ∙ ap (λ (n : ℕ). opened c.args.request.now c.args.name.now n c.capacity.result) top
    ∙ ap (λ (n : ℕ). opened c.args.request.now c.args.name.now (length log) n) capacity in
    let made : AreMade session.source.opening more = subst (λ (x : Opening). AreMade x more) turned.2.opening (turned.2.stands [] [] c.in_ok-session.ensures.stands).made in
    let answered : c.finish.result ≢ Turn.NoMemory = search rules in
    let whole : IsWhole session.source.opening more turned.1 = (turned.5 [] [] c.in_ok-session.ensures.stands c.in_ok-session.ensures.going.0 answered).0 c.in-Done.is in
    let at_ring : All (λ look. look.capacity ≡ cap) more = subst (λ (n : ℕ). All (λ look. look.capacity ≡ n) more) same looked.0.at_ring in
    let moments : All (λ look. look.moment ≡ moment) more =
    All-weaker (λ look. (look.moment ≡ moment) × (look.position < after look)) (λ look. look.moment ≡ moment) (λ look both. both.0) more looked.1 in
    let start : moment ≡ 0 = ap (λ (n : ℕ). max n 0) c.in_ok-session.ensures.going.1 in
    let link : LinkState = c.end.new.self in
    let new : LinkState = c.finish.new.link in
    let held = turned.3.holds (record { taken = link.taken; unread = link.unread; ended = link.ended }) refl in
    let empty : link.taken ≡ [] = search rules in
    let taken : new.taken ≡ link.taken ++ turned.1 = same_held _ _ held.2 in
    let sent : new.taken ≡ turned.1 = taken ∙ ap (λ (x : List ℕ). x ++ turned.1) empty in
    is_reply o session.source.opening log cap moment more c.finish.new.link.taken is c.requires.ends made (looked.0.found log (c.top-top.ensures.looked.told log tells)) at_ring moments start
    whole.0 (sent ∙ whole.1) (omega arith) (omega arith)

pub prove-unreachable-requires : goal.prove-unreachable-requires
prove-unreachable-requires g c =
    let link : LinkState = c.end.new.self in
    let new : LinkState = c.finish.new.link in
    let none : length (g.R.Look.reader c.top-top.new.self).looks ≤ 2 ^ 61 = omega (arith, ap length c.top-top.ensures.looks, ap length c.requires.fresh) in
    let ends = c.finish.ensures.ends c.in_ok-session.ensures.going.0 none in
    let turned = c.finish.ensures.turned in
    elim (turned.3.left (record { taken = link.taken; unread = link.unread; ended = link.ended }) refl) [
      | inl made ↦
          let free : IsFree link = record { planned = search rules; loose = search rules; faults = search rules; waits = search rules } in
          let after : IsFree new = free_after link new made.0 free made.1 in
          let ended = ends (λ rose. omega (arith, rose, free.faults, after.faults)) (λ rose. omega (arith, rose, free.waits, after.waits)) in
          let silent = c.finish.ensures.silent c.in_ok-session.ensures.going.0 (search rules) (record { taken = link.taken; unread = link.unread; ended = link.ended }) refl (search rules) in
          ends_else c.finish.result ended silent (search rules) (search rules)
      | inr failed ↦
          let fed : new.refusals ≡ 0 = search rules in
          omega (arith, failed, fed)
    ]

pub returns-clause-refused : goal.returns-clause-refused
returns-clause-refused g c = inl refl
