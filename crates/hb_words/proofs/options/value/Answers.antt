use Rattle.std.proofs.Common.{◌∙◌, string_bytes}
use Rattle.hb_words.proofs.Pairs.{no_value}
use Rattle.hb_words.proofs.options.value.Goals as goal

pub returns : goal.returns
returns c = no_value string_bytes c.args.name.now c.loop-rest.rest.now c.in_default.len_below ∙ c.loop-rest.invariant.same
