use Rattle.std.proofs.Common.{sym}
use Rattle.hb_time.proofs.WritingLemmas.{three, six, nine}
use Rattle.hb_time.proofs.writing.fraction_bytes.Goals as goal

pub returns-then-nanos-eq0-2-clause-bytes : goal.returns-then-nanos-eq0-2-clause-bytes
returns-then-nanos-eq0-2-clause-bytes c = rw (c.last_digit.ensures, c.last_digit-2.ensures, c.last_digit-3.ensures) (sym (three c.args.nanos c.if-nanos-eq0.false c.if-nanos-eq0-2.true))

pub returns-then-nanos-eq0-3-clause-bytes : goal.returns-then-nanos-eq0-3-clause-bytes
returns-then-nanos-eq0-3-clause-bytes c =
    rw (c.last_digit.ensures, c.last_digit-2.ensures, c.last_digit-3.ensures, c.last_digit-4.ensures, c.last_digit-5.ensures, c.last_digit-6.ensures) (sym (six c.args.nanos c.if-nanos-eq0.false c.if-nanos-eq0-2.false c.if-nanos-eq0-3.true))

pub returns-clause-bytes : goal.returns-clause-bytes
returns-clause-bytes c =
    rw (c.last_digit.ensures, c.last_digit-2.ensures, c.last_digit-3.ensures, c.last_digit-4.ensures, c.last_digit-5.ensures, c.last_digit-6.ensures, c.last_digit-7.ensures, c.last_digit-8.ensures, c.last_digit-9.ensures) (sym (nine c.args.nanos c.if-nanos-eq0.false c.if-nanos-eq0-2.false c.if-nanos-eq0-3.false))
