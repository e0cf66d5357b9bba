use Rattle.hb_time.specs.Texts.{padded}
use Rattle.hb_time.proofs.writing.clock_bytes.Goals as goal

pub returns : goal.returns
unfolding padded
returns c = rw (c.last_digit.ensures, c.last_digit-2.ensures, c.last_digit-3.ensures, c.last_digit-4.ensures, c.last_digit-5.ensures, c.last_digit-6.ensures)
