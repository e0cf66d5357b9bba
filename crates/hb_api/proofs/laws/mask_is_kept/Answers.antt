use Rattle.hb_api.proofs.Masks.{mask_kept}
use Rattle.hb_api.proofs.laws.mask_is_kept.Goals as goal

pub returns : goal.returns
returns c = record { kept = mask_kept }
