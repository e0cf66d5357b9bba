use Rattle.std.proofs.Common.{◌∙◌, string_bytes}
use Rattle.hb_words.proofs.Pairs.{one_word, new_first, old_first}
use Rattle.hb_words.proofs.options.+are_options.Goals as goal

pub returns-in_default : goal.returns-in_default
returns-in_default t c = one_word string_bytes c.args.options.now c.in_default.len_at_least c.in_default.len_below

pub returns-then-is_new : goal.returns-then-is_new
returns-then-is_new t c = c.are_options.ensures
    ∙ new_first string_bytes c.args.options.now c.option-item.result c.as_str.result.now c.in-len2-up.len_at_least c.option-item.is c.as_str.ensures.value c.if-is_new.ensures

pub returns-else-is_new : goal.returns-else-is_new
returns-else-is_new t c = c.if-is_new.false
    ∙ old_first string_bytes c.args.options.now c.option-item.result c.as_str.result.now c.in-len2-up.len_at_least c.option-item.is c.as_str.ensures.value c.if-is_new.ensures
