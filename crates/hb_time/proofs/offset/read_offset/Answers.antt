use Rattle.std.proofs.Common.{◌≡◌, ◌∷◌, ◌∙◌, ap, Some, None}
use Rattle.hb_time.proofs.OffsetLemmas.{plus, minus}
use Rattle.hb_time.proofs.offset.read_offset.Goals as goal

pub returns-in_err-read_minutes-in-43 : goal.returns-in_err-read_minutes-in-43
returns-in_err-read_minutes-in-43 c =
    let text : c.args.text.now ≡ 43 ∷ c.in_ok-sign.rest.now = c.in_ok-sign.ensures.cases.0 ∙ ap (λ b. b ∷ c.in_ok-sign.rest.now) c.in-43.is in
    record { exact = λ offset. rw c.from_residual-in_err-read_minutes-in-43.ensures (plus _ _ None text c.in_err-read_minutes-in-43.ensures.exact offset) }

pub returns-in_err-read_minutes-in-45 : goal.returns-in_err-read_minutes-in-45
returns-in_err-read_minutes-in-45 c =
    let text : c.args.text.now ≡ 45 ∷ c.in_ok-sign.rest.now = c.in_ok-sign.ensures.cases.0 ∙ ap (λ b. b ∷ c.in_ok-sign.rest.now) c.in-45.is in
    record { exact = λ offset. rw c.from_residual-in_err-read_minutes-in-45.ensures (minus _ _ None text c.in_err-read_minutes-in-45.ensures.exact offset) }

pub returns-in_ok-read_minutes-in-43 : goal.returns-in_ok-read_minutes-in-43
returns-in_ok-read_minutes-in-43 c =
    let text : c.args.text.now ≡ 43 ∷ c.in_ok-sign.rest.now = c.in_ok-sign.ensures.cases.0 ∙ ap (λ b. b ∷ c.in_ok-sign.rest.now) c.in-43.is in
    record { exact = plus _ _ (Some c.in_ok-read_minutes-in-43.field-0) text c.in_ok-read_minutes-in-43.ensures.exact }

pub returns-in_ok-read_minutes-in-45 : goal.returns-in_ok-read_minutes-in-45
returns-in_ok-read_minutes-in-45 c =
    let text : c.args.text.now ≡ 45 ∷ c.in_ok-sign.rest.now = c.in_ok-sign.ensures.cases.0 ∙ ap (λ b. b ∷ c.in_ok-sign.rest.now) c.in-45.is in
    record { exact = minus _ _ (Some c.in_ok-read_minutes-in-45.field-0) text c.in_ok-read_minutes-in-45.ensures.exact }
