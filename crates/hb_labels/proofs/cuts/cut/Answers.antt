use Rattle.std.proofs.Common.{◌≡◌, ◌+◌, drop, ap, ◌∙◌, arith, refl}
use Rattle.std.proofs.lemmas.List.{drop-drop}
use Rattle.hb_labels.proofs.cuts.cut.Goals as goal

pub returns : goal.returns
returns c =
    let cut = c.in_ok-at.ensures in
    let front = c.split_at.ensures.front in
    let more : c.split_at-2.result.1.now ≡ drop (c.in_ok-at.at + 1) c.args.text.now = c.split_at-2.ensures.back ∙ ap (drop 1) c.split_at.ensures.back ∙ drop-drop 1 c.in_ok-at.at c.args.text.now in
    let len = c.split_at.ensures.back_len in
    let len2 = c.split_at-2.ensures.back_len in
    (omega arith, cut.1 ∙ rw (front, more) refl)
