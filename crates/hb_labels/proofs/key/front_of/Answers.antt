use Rattle.std.proofs.Common.{subst, sym}
use Rattle.hb_labels.specs.Texts.{IsName, is_name_byte}
use Rattle.hb_labels.proofs.Spans.{front_each}
use Rattle.hb_labels.proofs.key.front_of.Goals as goal

pub text_of-requires : goal.text_of-requires
text_of-requires c = subst IsName (sym c.name_at.ensures.name) (front_each is_name_byte c.args.text.now)
