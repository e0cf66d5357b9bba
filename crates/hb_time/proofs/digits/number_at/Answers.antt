use Rattle.std.proofs.Common.{◌≡◌, arith}
use Rattle.std.proofs.lemmas.List.{take_rest}
use Rattle.hb_time.proofs.DigitLemmas.{no_number, one_number}
use Rattle.hb_time.proofs.digits.number_at.Goals as goal

pub returns-then-count-width : goal.returns-then-count-width
returns-then-count-width c = record {
  exact = λ n rest. (
    λ e. absurd cc,
    λ h. absurd (no_number c.args.text.now c.args.width _ c.if-count-width.true c.digits_at-number.ensures.longest n rest h.1),
  );
}

pub returns : goal.returns
returns c =
    let is : c.digits_at-number.result.1 ≡ c.args.width = omega (arith, c.if-count-width.false, c.digits_at-number.ensures.within) in
    record {
      exact = λ n rest. rw take_rest
          (one_number c.args.text.now c.args.width c.digits_at-number.result.0 (rw is at c.digits_at-number.ensures.spelled) (rw is at c.digits_at-number.ensures.fits) (rw is at c.digits_at-number.ensures.within.0) n rest);
    }
