use Rattle.hb_time.proofs.ReadingLemmas.{one_day_front}
use Rattle.hb_time.proofs.day.day_front.Goals as goal

pub returns : goal.returns
returns c = record { exact = one_day_front _ _ _ _ _ _ _ c.in_ok-year.ensures.exact c.in_ok-month.ensures.exact c.in_ok-day.ensures.exact }
