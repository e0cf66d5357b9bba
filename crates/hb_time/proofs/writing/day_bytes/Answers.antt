use Rattle.std.proofs.Common.{◌≡◌, ◌/◌, arith}
use Rattle.hb_time.specs.Texts.{padded}
use Rattle.hb_time.proofs.writing.day_bytes.Goals as goal

pub returns : goal.returns
unfolding padded
returns c =
    let thousands : c.args.day.year / 1_000 ≡ c.args.day.year / 10 / 10 / 10 = omega arith in
    let hundreds : c.args.day.year / 100 ≡ c.args.day.year / 10 / 10 = omega arith in
    rw (c.last_digit.ensures, c.last_digit-2.ensures, c.last_digit-3.ensures, c.last_digit-4.ensures, c.last_digit-5.ensures, c.last_digit-6.ensures, c.last_digit-7.ensures, c.last_digit-8.ensures, thousands, hundreds)
