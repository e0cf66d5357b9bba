use Rattle.hb_time.proofs.DigitLemmas.{signed_number}
use Rattle.hb_time.proofs.digits.number_before.Goals as goal

pub returns-in-len1-up : goal.returns-in-len1-up
returns-in-len1-up c = record {
  exact = signed_number c.args.text.now c.in_ok-number.rest.now c.args.width c.in_ok-number.number c.args.sign (λ n rest. rw c.in_ok-number.was at (c.number_at.ensures.exact n rest)) c.in-len1-up.len_at_least c.if-first-sign.true;
}
