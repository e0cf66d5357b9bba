use Rattle.hb_frame.proofs.Cuts.{cut_once}
use Rattle.hb_frame.proofs.Each.{cut_each, cut_frames, cut_begins}
use Rattle.hb_frame.proofs.laws.one_cut.Goals as goal

pub returns : goal.returns
returns c = record {
  each = cut_each;
  one = λ bytes x y fs gs. cut_once bytes fs gs x y;
  first = λ bytes more x y fs gs. cut_begins bytes more fs gs x y;
  put = cut_frames;
}
