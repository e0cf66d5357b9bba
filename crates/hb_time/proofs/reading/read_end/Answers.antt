use Rattle.std.proofs.Common.{◌∷◌, ◌∙◌, ap, arith}
use Rattle.std.proofs.lemmas.List.{take_rest}
use Rattle.hb_time.proofs.EndLemmas.{found_of, no_digits, no_offset, one_end, scaled}
use Rattle.hb_time.proofs.reading.read_end.Goals as goal

pub returns-then-count-eq0-clause-exact : goal.returns-then-count-eq0-clause-exact
returns-then-count-eq0-clause-exact c = λ nanos offset.
    let e = c.digits_at-number.ensures in
    let text = c.in_ok-first.ensures.cases.0 ∙ ap (λ b. b ∷ c.in_ok-first.digits.now) c.if-first-ne46.false in
    let found = found_of _ _ _ e.spelled e.fits e.within e.longest in
    (λ f. absurd cc, λ h. absurd (no_digits _ _ _ _ nanos offset text found c.if-count-eq0.true h))

pub returns-in_err-offset-clause-exact : goal.returns-in_err-offset-clause-exact
returns-in_err-offset-clause-exact c = λ nanos offset.
    let e = c.digits_at-number.ensures in
    let text = c.in_ok-first.ensures.cases.0 ∙ ap (λ b. b ∷ c.in_ok-first.digits.now) c.if-first-ne46.false in
    let found = found_of _ _ _ e.spelled e.fits e.within e.longest in
    let none = c.from_residual-in_err-offset.ensures in
    (λ f. absurd cc, λ h. absurd (no_offset _ _ _ _ nanos offset text found (rw take_rest at c.in_err-offset.ensures.exact) h))

pub overflow_mul-result : goal.overflow_mul-result
overflow_mul-result c =
    let below = scaled _ _ c.digits_at-number.ensures.fits c.digits_at-number.ensures.within.1 in
    rw c.pow.ensures (omega arith)

pub returns-clause-exact : goal.returns-clause-exact
returns-clause-exact c =
    let e = c.digits_at-number.ensures in
    let text = c.in_ok-first.ensures.cases.0 ∙ ap (λ b. b ∷ c.in_ok-first.digits.now) c.if-first-ne46.false in
    let found = found_of _ _ _ e.spelled e.fits e.within e.longest in
    let some = c.if-count-eq0.false in
    rw c.pow.ensures (one_end _ _ _ _ c.in_ok-offset.offset text found (omega arith) (rw take_rest at c.in_ok-offset.ensures.exact))

pub returns-clause-bound : goal.returns-clause-bound
returns-clause-bound c = rw c.pow.ensures (scaled _ _ c.digits_at-number.ensures.fits c.digits_at-number.ensures.within.1)
