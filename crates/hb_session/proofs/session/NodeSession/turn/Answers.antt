use Rattle.std.proofs.Common.{rules, ◌≡◌, ◌∙◌, List, [], None, Some, inl, inr, refl, sym, ap, subst}
use Rattle.hb_edge.specs.Link.{Shown}
use Rattle.hb_edge.proofs.Moves.{moved_none}
use Rattle.hb_look.specs.Looks.{LookMade}
use Rattle.hb_look.proofs.Added.{none_added}
use Rattle.hb_session.specs.Clients.{Heard, HasHeard, IsHeardOf, heard_of, IsInputFor, IsInputAfter, IsStoppedBy}
use Rattle.hb_session.specs.Sessions.{Session, heard_by, ended_by}
use Rattle.hb_session.proofs.Clients.{is_short, some_stopped, some_short, some_fault, none_failed, none_stops, fed_after}
use Rattle.hb_session.proofs.Links.{moved_as, moved_then, written_then}
use Rattle.hb_session.proofs.Sessions.{unmoved_turned, told_turned, none_waits, none_gained, gained_same, gained_still, not_done, no_answer}
use Rattle.hb_session.proofs.session.NodeSession.turn.Goals as goal

-- ---- the session had ended

pub returns-in-Some-clause-turned : goal.returns-in-Some-clause-turned
returns-in-Some-clause-turned g c =
    let looks : List LookMade = (g.R.Look.reader c.args.reader.now).looks in
    (unmoved_turned _ _ _ _ (none_added looks looks refl) (gained_same c.args.self.now) refl refl refl (λ e. e), search rules)

pub returns-in-Some-clause-moved : goal.returns-in-Some-clause-moved
returns-in-Some-clause-moved g c =
    moved_as g.L.Link.shown g.L.Link.held g.L.Link.after g.L.Link.fixed _ _ [] [] _ _ (search rules) (gained_same c.args.self.now)
    (moved_none g.L.Link.shown g.L.Link.held g.L.Link.after g.L.Link.fixed c.args.link.now)

pub returns-in-Some-clause-more : goal.returns-in-Some-clause-more
returns-in-Some-clause-more g c more =
    let is : ended_by c.in-Some.answer ≡ Some c.in-Some.answer = search rules in
    absurd (no_answer (sym (ap ended_by more) ∙ is))

-- ---- it ends for what it heard

pub returns-in-Some-hear-clause-turned : goal.returns-in-Some-hear-clause-turned
returns-in-Some-hear-clause-turned g c =
    let looks : List LookMade = (g.R.Look.reader c.args.reader.now).looks in
    let going : c.args.self.now.answer ≡ None = search rules in
    let new : Session = record {
      source = c.self.inside.source;
      waiting = c.self.inside.outbox;
      sent = c.self.inside.sent;
      moment = c.max-self-inside.result;
      heard = c.hear.new.self;
      answer = c.ending-self-inside.result;
    } in (
      unmoved_turned c.args.self.now new _ _ (none_added looks looks refl) (gained_still c.args.self.now new (search rules)) (search rules) (search rules) (search rules)
          (λ e. absurd (no_answer (sym going ∙ e))),
      search rules,
    )

pub returns-in-Some-hear-clause-exact : goal.returns-in-Some-hear-clause-exact
returns-in-Some-hear-clause-exact g c going h held =
    let inbox : c.self.inside.inbox ≡ c.args.self.now.heard = search rules in
    let exact = c.hear.ensures.exact h held in (
      subst (λ (x : Heard). IsHeardOf g.L.Link.answer c.args.link.now h x c.hear.new.self) inbox exact.0,
      inl (exact.1 ∙ ap (λ (x : Heard). heard_of g.L.Link.after x.last c.args.link.now) inbox, inr (some_stopped c.args.input.now c.hear.new.self c.hear.result _ c.hear.ensures.ended (search rules))),
    )

pub returns-in-Some-hear-clause-more : goal.returns-in-Some-hear-clause-more
returns-in-Some-hear-clause-more g c is =
    absurd (let short = some_short c.args.input.now c.hear.new.self c.hear.result c.in-Some-hear.answer c.hear.ensures.ended (search rules) in let both = sym short ∙ ap is_short is in cc)

pub returns-in-Some-hear-clause-causes : goal.returns-in-Some-hear-clause-causes
returns-in-Some-hear-clause-causes g c going =
    let short = some_short c.args.input.now c.hear.new.self c.hear.result c.in-Some-hear.answer c.hear.ensures.ended (search rules) in
    let fault = some_fault c.args.input.now c.hear.new.self c.hear.result c.in-Some-hear.answer c.hear.ensures.ended (search rules) in (
      λ is. absurd (let both = sym short ∙ ap is_short is in cc),
      λ is. (inr (fault.0 is), c.hear.ensures.heard.faults (fault.0 is)),
      fault.1,
    )

pub returns-in-Some-hear-clause-done : goal.returns-in-Some-hear-clause-done
returns-in-Some-hear-clause-done g c =
    let short = some_short c.args.input.now c.hear.new.self c.hear.result c.in-Some-hear.answer c.hear.ensures.ended (search rules) in
    not_done _ _ _ _ _ (returns-in-Some-hear-clause-turned g c).0 (search rules) (search rules) (λ is. absurd (let both = sym short ∙ ap is_short is in cc))

pub returns-in-Some-hear-clause-spent : goal.returns-in-Some-hear-clause-spent
returns-in-Some-hear-clause-spent g c going not =
    let short = some_short c.args.input.now c.hear.new.self c.hear.result c.in-Some-hear.answer c.hear.ensures.ended (search rules) in (
      λ is. absurd (let both = sym short ∙ ap is_short is in cc),
      λ all. absurd (elim (some_stopped c.args.input.now c.hear.new.self c.hear.result c.in-Some-hear.answer c.hear.ensures.ended (search rules)) [
        | inl stopped ↦ all.2 stopped
        | inr none ↦ not none
      ]),
    )

-- ---- it makes a look

pub returns-then-is_empty-clause-turned : goal.returns-then-is_empty-clause-turned
returns-then-is_empty-clause-turned g c = (
  told_turned _ _ _ _ _ _ _ c.look_on.ensures.turned refl (none_gained c.args.self.now c.look_on.new.self (none_waits c.args.self.now.waiting (search rules)))
      (search rules) (search rules) (search rules) (search rules) (search rules),
  search rules,
)

pub returns-then-is_empty-clause-done : goal.returns-then-is_empty-clause-done
returns-then-is_empty-clause-done g c =
    not_done _ _ _ _ _ (returns-then-is_empty-clause-turned g c).0 (search rules) c.look_on.ensures.going (search rules)

pub returns-then-is_empty-clause-heard : goal.returns-then-is_empty-clause-heard
returns-then-is_empty-clause-heard g c going =
    let inbox : c.self.inside.inbox ≡ c.args.self.now.heard = search rules in
    let same : c.look_on.new.self.heard ≡ c.hear.new.self = search rules in
    let none : c.hear.result ≡ None = search rules in
    let fed : IsInputFor c.args.input.now c.hear.new.input c.hear.new.self.piece None =
    subst (IsInputFor c.args.input.now c.hear.new.input c.hear.new.self.piece) none c.hear.ensures.input in
    let before : Shown = g.L.Link.shown c.args.link.now in
    let after : Shown = g.L.Link.shown c.hear.new.link in (
      subst (λ (x : Heard). HasHeard x c.look_on.new.self.heard before after) inbox (subst (λ (x : Heard). HasHeard c.self.inside.inbox x before after) (sym same) c.hear.ensures.heard),
      subst (λ (x : Heard). IsInputAfter c.args.input.now c.hear.new.input x.piece c.look_on.result) (sym same)
          (fed_after c.args.input.now c.hear.new.input c.hear.new.self.piece c.look_on.result c.look_on.ensures.answers.2 fed),
    )

pub returns-then-is_empty-clause-exact : goal.returns-then-is_empty-clause-exact
returns-then-is_empty-clause-exact g c going h held =
    let inbox : c.self.inside.inbox ≡ c.args.self.now.heard = search rules in
    let same : c.look_on.new.self.heard ≡ c.hear.new.self = search rules in
    let exact = c.hear.ensures.exact h held in (
      subst (λ (x : Heard). IsHeardOf g.L.Link.answer c.args.link.now h x c.look_on.new.self.heard) inbox
          (subst (λ (x : Heard). IsHeardOf g.L.Link.answer c.args.link.now h c.self.inside.inbox x) (sym same) exact.0),
      inl (exact.1 ∙ ap (λ (x : Heard). heard_of g.L.Link.after x.last c.args.link.now) inbox, inl (none_waits c.args.self.now.waiting (search rules))),
    )

pub returns-then-is_empty-clause-stopped : goal.returns-then-is_empty-clause-stopped
returns-then-is_empty-clause-stopped g c going =
    let same : c.look_on.new.self.heard ≡ c.hear.new.self = search rules in
    subst (λ (x : Heard). IsStoppedBy c.args.input.now x.piece x.last c.look_on.result) (sym same)
    (none_stops c.args.input.now c.hear.new.self c.hear.result c.look_on.result c.hear.ensures.ended (search rules) c.look_on.ensures.answers.2)

-- ---- it makes a write

pub returns-clause-turned : goal.returns-clause-turned
returns-clause-turned g c =
    let looks : List LookMade = (g.R.Look.reader c.args.reader.now).looks in (
      told_turned _ _ _ _ _ _ _ c.send_on.ensures.turned (none_added looks looks refl) (search rules)
          (search rules) (search rules) (search rules) (search rules) (search rules),
      search rules,
    )

pub returns-clause-moved : goal.returns-clause-moved
returns-clause-moved g c =
    let same : c.send_on.new.self.heard ≡ c.hear.new.self = search rules in
    let going : c.args.self.now.answer ≡ None = search rules in
    moved_as g.L.Link.shown g.L.Link.held g.L.Link.after g.L.Link.fixed _ _ c.hear.new.self.piece _ _ _
    (ap (λ x. heard_by x c.send_on.new.self.heard.piece) going ∙ ap (λ (x : Heard). x.piece) same) (search rules)
    (moved_then g.L.Link.shown g.L.Link.held g.L.Link.after g.L.Link.fixed _ _ _ _ _ c.hear.ensures.moved c.send_on.ensures.moved)

pub returns-clause-exact : goal.returns-clause-exact
returns-clause-exact g c going h held =
    let inbox : c.self.inside.inbox ≡ c.args.self.now.heard = search rules in
    let same : c.send_on.new.self.heard ≡ c.hear.new.self = search rules in
    let exact = c.hear.ensures.exact h held in
    let moved = c.hear.ensures.moved.holds h held in
    let mid : Session = record {
      source = c.self.inside.source;
      waiting = c.self.inside.outbox;
      sent = c.self.inside.sent;
      moment = c.max-self-inside.result;
      heard = c.hear.new.self;
      answer = c.self.inside.answer;
    } in (
      subst (λ (x : Heard). IsHeardOf g.L.Link.answer c.args.link.now h x c.send_on.new.self.heard) inbox
          (subst (λ (x : Heard). IsHeardOf g.L.Link.answer c.args.link.now h c.self.inside.inbox x) (sym same) exact.0),
      written_then g.L.Link.answer g.L.Link.after c.args.self.now mid c.send_on.new.self.heard c.send_on.result _ c.hear.new.link c.send_on.new.link
          (g.L.Link.shown c.args.link.now).refusals (g.L.Link.shown c.hear.new.link).refusals (g.L.Link.shown c.send_on.new.link).refusals
          (search rules) (search rules) (exact.1 ∙ ap (λ (x : Heard). heard_of g.L.Link.after x.last c.args.link.now) inbox) (search rules)
          (λ failed. none_failed c.args.input.now c.hear.new.self c.hear.result c.send_on.result c.hear.ensures.ended (search rules) c.send_on.ensures.answers.2
          (sym (ap (λ (x : Heard). x.last) same) ∙ failed))
          c.hear.ensures.moved.later.refusals (c.send_on.ensures.exact _ moved.2),
    )

pub returns-clause-stopped : goal.returns-clause-stopped
returns-clause-stopped g c going =
    let same : c.send_on.new.self.heard ≡ c.hear.new.self = search rules in
    subst (λ (x : Heard). IsStoppedBy c.args.input.now x.piece x.last c.send_on.result) (sym same)
    (none_stops c.args.input.now c.hear.new.self c.hear.result c.send_on.result c.hear.ensures.ended (search rules) c.send_on.ensures.answers.2)
