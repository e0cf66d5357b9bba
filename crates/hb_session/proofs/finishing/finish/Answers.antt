use Rattle.std.proofs.Common.{◌≡◌, ◌<◌, ℕ, List, [], ◌++◌, max, None, false, true, inl, inr, refl, sym, ap, ◌∙◌, arith, rules, subst}
use Rattle.hb_edge.specs.declared.link.Moved.{Moved}
use Rattle.hb_edge.proofs.Moves.{moved_none, moved_more, rose_on}
use Rattle.hb_look.specs.Looks.{LookMade, after}
use Rattle.hb_look.proofs.Added.{all_none, all_both, none_added}
use Rattle.hb_look.proofs.Progress.{looked_nothing, looked_both}
use Rattle.hb_session.specs.declared.turn.Turn.{Turn}
use Rattle.hb_session.specs.declared.turn.Turn.TheVariants as turns
use Rattle.hb_session.specs.Openings.{Opening}
use Rattle.hb_session.specs.Clients.{IsFed, IsInputAfter, IsStoppedBy}
use Rattle.hb_session.specs.Sessions.{Session, heard_by, gained, ended_by}
use Rattle.hb_session.proofs.Clients.{fed_none, fed_both, fed_more, client_stops, after_both, stopped_both, silent_still}
use Rattle.hb_session.proofs.Sessions.{unmoved_turned, no_answer}
use Rattle.hb_session.proofs.Turned.{IsMadeAt, open_by, turned_more, done_more, which, not_spent, ends_with, went_on, no_fewer, made_by, spent_memory}
use Rattle.hb_session.proofs.finishing.finish.Goals as goal

pub loop-answer-init : goal.loop-answer-init
loop-answer-init g c =
    let l0 : List LookMade = (g.R.Look.reader c.args.reader.now).looks in (
      [],
      [],
      unmoved_turned _ _ _ _ (none_added l0 l0 refl) refl refl refl refl (λ e. e),
      moved_none g.L.Link.shown g.L.Link.held g.L.Link.after g.L.Link.fixed c.args.link.now,
      looked_nothing g.R.Look.reader g.R.Look.tells g.R.Look.fixed c.args.reader.now,
      all_none (λ look. (look.moment ≡ max c.args.session.now.moment c.args.now) × (look.position < after look)) l0 l0 refl,
      λ h held. ([], refl, tt),
      fed_none c.args.input.now,
      λ e. e,
      λ answer e. (refl, refl, refl, refl),
      refl,
    )

pub returns-then-ne-clause-turned : goal.returns-then-ne-clause-turned
returns-then-ne-clause-turned g c =
    let inv = c.loop-answer.invariant in
    let told = c.turn-answer.ensures in
    let s : Session = c.loop-answer.session in
    let new : Session = c.turn-answer.new.self in
    let p : List ℕ = heard_by s.answer new.heard.piece in
    let k : List ℕ = gained s new in (
      inv.0 ++ p,
      inv.1 ++ k,
      turned_more _ _ _ _ _ _ inv.1 k inv.4.listed told.looked.0.listed
          (λ answer e. let same = told.repeats answer e in (same.1, ap (λ r. (g.R.Look.reader r).looks) same.2)) inv.2 told.turned.0,
      moved_more _ _ _ _ _ _ _ inv.0 p inv.1 k inv.3 told.moved,
      λ going.
          let none : s.answer ≡ None = inv.8 going in
          let here : p ≡ new.heard.piece = ap (λ x. heard_by x new.heard.piece) none in
          let input = c.args.input.now in
          let result : Turn = c.turn-answer.result in
          subst (λ (q : List ℕ). IsInputAfter input c.turn-answer.new.input (inv.0 ++ q) result × IsStoppedBy input (inv.0 ++ q) new.heard.last result) (sym here) (
            after_both input c.loop-answer.input c.turn-answer.new.input inv.0 new.heard.piece result inv.7 (told.heard none).1,
            stopped_both input c.loop-answer.input inv.0 new.heard.piece new.heard.last result inv.7 (told.stopped none),
          ),
      done_more _ _ _ _ _ _ inv.1 k inv.4.listed told.looked.0.listed inv.8 inv.2 told.done,
    )

pub returns-then-ne-clause-looked : goal.returns-then-ne-clause-looked
returns-then-ne-clause-looked g c =
    let inv = c.loop-answer.invariant in
    let told = c.turn-answer.ensures in
    let old : Session = c.args.session.now in (
      looked_both _ _ _ _ _ _ inv.4 told.looked.0,
      all_both (IsMadeAt (max old.moment c.args.now)) _ _ _ inv.4.listed told.looked.0.listed inv.5
          (made_by old c.loop-answer.session c.turn-answer.new.self c.args.now _ _ _ refl told.looked.1.at
          (told.looked.1.moves (ap (λ (o : Opening). o.request.follow) inv.2.opening ∙ c.requires.ends))
          (λ answer e. ap (λ r. (g.R.Look.reader r).looks) (told.repeats answer e).2) told.ended.1 inv.10),
    )

pub returns-then-ne-clause-ends : goal.returns-then-ne-clause-ends
returns-then-ne-clause-ends g c going few no_faults no_waits =
    let inv = c.loop-answer.invariant in
    let told = c.turn-answer.ensures in
    let none : c.loop-answer.session.answer ≡ None = inv.8 going in
    let ends : c.loop-answer.session.source.opening.request.follow ≡ false = ap (λ (o : Opening). o.request.follow) inv.2.opening ∙ c.requires.ends in
    which c.turn-answer.result (search rules)
    (λ e. elim ((told.causes none).0 e) [
      | inl waits ↦ no_waits (rose_on _ _ _ _ inv.3.later.write_waits (omega arith) waits.3)
      | inr follows ↦ absurd (let both : true ≡ false = sym follows.0 ∙ ends in cc)
    ])
    (λ e. no_faults (rose_on _ _ _ _ inv.3.later.faults (omega arith) ((told.causes none).1 e).1))
    (λ e. not_spent _ _ _ _ inv.1 inv.4.listed inv.2 told.turned.1 c.requires.ends few ((told.spent none (spent_memory e)).0 e).0)

pub returns-then-ne-clause-silent : goal.returns-then-ne-clause-silent
returns-then-ne-clause-silent g c going empty h held dry =
    let turned = returns-then-ne-clause-turned g c in
    let front = turned.3.holds h held in
    let last : Moved = c.turn-answer.new.self.heard.last in
    let none : c.loop-answer.session.answer ≡ None = c.loop-answer.invariant.8 going in
    silent_still c.args.input.now turned.0 h.unread front.0 last c.turn-answer.result empty dry front.1
    (client_stops c.args.input.now turned.0 last c.turn-answer.result (c.turn-answer.ensures.causes none).2 (turned.4 going).1)

pub returns-then-ne-clause-causes : goal.returns-then-ne-clause-causes
returns-then-ne-clause-causes g c going =
    let inv = c.loop-answer.invariant in
    let told = c.turn-answer.ensures in
    let none : c.loop-answer.session.answer ≡ None = inv.8 going in
    let ends : c.loop-answer.session.source.opening.request.follow ≡ false = ap (λ (o : Opening). o.request.follow) inv.2.opening ∙ c.requires.ends in (
      λ e. rose_on _ _ _ _ inv.3.later.faults (omega arith) ((told.causes none).1 e).1,
      λ e. no_fewer _ _ told.looked.0.listed ((told.spent none (spent_memory e)).0 e).0,
      λ e. elim ((told.causes none).0 e) [
        | inl waits ↦ rose_on _ _ _ _ inv.3.later.write_waits (omega arith) waits.3
        | inr follows ↦ absurd (let both : true ≡ false = sym follows.0 ∙ ends in cc)
      ],
    )

pub returns-then-ne-clause-last : goal.returns-then-ne-clause-last
returns-then-ne-clause-last g c going h held =
    let inv = c.loop-answer.invariant in
    let told = c.turn-answer.ensures in
    let s : Session = c.loop-answer.session in
    let none : s.answer ≡ None = inv.8 going in
    let ends : s.source.opening.request.follow ≡ false = ap (λ (o : Opening). o.request.follow) inv.2.opening ∙ c.requires.ends in
    let exact = told.exact none _ (inv.3.holds h held).2 in
    ends_with _ _ s _ _ _ _ (inv.6 h held) exact.0.answered (told.heard none).0.ended _ _ _ _ inv.3.later.refusals exact.1 (told.causes none).2
    (λ e. elim ((told.causes none).0 e) [
      | inl waits ↦ waits.0
      | inr follows ↦ absurd (let both : true ≡ false = sym follows.0 ∙ ends in cc)
    ]) (λ e. ((told.causes none).1 e).0)

pub loop-answer-preserved : goal.loop-answer-preserved
loop-answer-preserved g c =
    let inv = c.loop-answer.invariant in
    let told = c.turn-answer.ensures in
    let old : Session = c.args.session.now in
    let s : Session = c.loop-answer.session in
    let new : Session = c.turn-answer.new.self in
    let more : c.turn-answer.result ≡ turns.More = search rules in
    let none : s.answer ≡ None = open_by s new c.turn-answer.result s.answer refl told.ended.0 more (λ answer e. (told.repeats answer e).1) in
    let ends : s.source.opening.request.follow ≡ false = ap (λ (o : Opening). o.request.follow) inv.2.opening ∙ c.requires.ends in
    let p : List ℕ = heard_by s.answer new.heard.piece in
    let here : p ≡ new.heard.piece = ap (λ x. heard_by x new.heard.piece) none in
    let k : List ℕ = gained s new in (
      inv.0 ++ p,
      inv.1 ++ k,
      turned_more _ _ _ _ _ _ inv.1 k inv.4.listed told.looked.0.listed
          (λ answer e. let same = told.repeats answer e in (same.1, ap (λ r. (g.R.Look.reader r).looks) same.2)) inv.2 told.turned.0,
      moved_more _ _ _ _ _ _ _ inv.0 p inv.1 k inv.3 told.moved,
      looked_both _ _ _ _ _ _ inv.4 told.looked.0,
      all_both (IsMadeAt (max old.moment c.args.now)) _ _ _ inv.4.listed told.looked.0.listed inv.5
          (made_by old s new c.args.now _ _ _ refl told.looked.1.at (told.looked.1.moves ends)
          (λ answer e. ap (λ r. (g.R.Look.reader r).looks) (told.repeats answer e).2) told.ended.1 inv.10),
      λ h held.
          let exact = told.exact none _ (inv.3.holds h held).2 in
          went_on _ _ _ _ c.turn-answer.result more
          (ends_with _ _ s _ _ _ _ (inv.6 h held) exact.0.answered (told.heard none).0.ended _ _ _ _ inv.3.later.refusals exact.1 (told.causes none).2
          (λ e. elim ((told.causes none).0 e) [
            | inl waits ↦ waits.0
            | inr follows ↦ absurd (let both : true ≡ false = sym follows.0 ∙ ends in cc)
          ]) (λ e. ((told.causes none).1 e).0)),
      fed_both c.args.input.now c.loop-answer.input c.turn-answer.new.input inv.0 p inv.7 (subst (λ (q : List ℕ). IsFed c.loop-answer.input c.turn-answer.new.input q) (sym here)
          (fed_more c.loop-answer.input c.turn-answer.new.input new.heard.piece c.turn-answer.result (told.heard none).1 more)),
      λ _. told.ended.0 ∙ ap ended_by more,
      λ answer e. absurd (no_answer (sym none ∙ ap (λ (x : Session). x.answer) (inv.9 answer e).0 ∙ e)),
      omega (arith, told.ended.1 none, inv.10),
    )
