use Rattle.std.proofs.Common.{arith, ◌∙◌}
use Rattle.hb_words.proofs.Numbers.{number_read}
use Rattle.hb_words.proofs.values.number.Goals as goal

pub returns : goal.returns
returns c = c.ok.ensures.value ∙ number_read c.args.text.now c.parse.result (c.if-starts_with.ensures.byte (omega arith) (omega arith) (λ w o m. m)) c.parse.ensures.value.0
