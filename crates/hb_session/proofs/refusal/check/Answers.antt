use Rattle.std.proofs.Common.{◌≡◌, ◌∙◌, false, inl, inr, rules}
use Rattle.std.specs.Prelude.{◌&&◌, codes}
use Rattle.hb_api.specs.Requests.{is_masked}
use Rattle.hb_session.specs.Refusals.{invalid_argument, unimplemented}
use Rattle.hb_session.proofs.Bools.{both_true, when_true, when_false}
use Rattle.hb_session.proofs.refusal.check.Goals as goal

pub returns-then-request-2-clause-refused : goal.returns-then-request-2-clause-refused
returns-then-request-2-clause-refused c =
    elim c.refused.ensures [
      | inl none ↦ inl none
      | inr is ↦ inr (record { code = invalid_argument; text = codes "first with follow" }, when_true (c.args.request.now.first && c.args.request.now.follow) _ _ (both_true c.args.request.now.first c.args.request.now.follow (search rules) (search rules)), is)
    ]

pub returns-then-is_masked-clause-refused : goal.returns-then-is_masked-clause-refused
returns-then-is_masked-clause-refused c =
    let not : (c.args.request.now.first && c.args.request.now.follow) ≡ false = search rules in
    elim c.refused-then-is_masked.ensures [
      | inl none ↦ inl none
      | inr is ↦ inr (record { code = unimplemented; text = codes "field mask" }, when_false (c.args.request.now.first && c.args.request.now.follow) _ _ not ∙ when_true (is_masked c.args.request.now) _ _ (search rules), is)
    ]
