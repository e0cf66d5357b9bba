use Rattle.std.proofs.Common.{rules, tests, ◌∙◌, ap, sym}
use Rattle.std.specs.List.{list_all}
use Rattle.std.proofs.lemmas.Iterator.{YieldsList-from_slice}
use Rattle.std.proofs.lemmas.Iterator.Search.{all_from_yields_List}
use Rattle.hb_words.specs.Values.{is_name_letter}
use Rattle.hb_words.proofs.Numbers.{name_by_letters}
use Rattle.hb_words.proofs.values.is_name.Goals as goal

pub returns : goal.returns
returns c =
    all_from_yields_List is_name_letter _ _ c.all.result c.all.ensures.ran (YieldsList-from_slice c.as_bytes.result.now (cc)) (λ x b q k. search (rules, tests))
    ∙ ap (list_all is_name_letter) c.as_bytes.ensures.value
    ∙ sym (name_by_letters c.args.text.now c.if-is_empty.ensures c.if-text-gt-LONGEST_NAME.false)
