use Rattle.hb_time.proofs.StampLemmas.{exact_at, none_at, second_of, nanos_of}
use Rattle.hb_time.proofs.stamp.stamp_at.Goals as goal

pub returns-then-not-printable : goal.returns-then-not-printable
returns-then-not-printable c =
    let secs = second_of c.args.utc c.requires.utc in
    let nanos = nanos_of c.args.nanos c.requires.nanos in
    record {
      exact = λ other. (
        λ e. absurd cc,
        λ k. absurd (none_at c.args.utc c.args.nanos _ secs nanos (λ p. let t = c.printable.ensures.exact.1 p in let f = c.if-not-printable.true in absurd cc) other k),
      );
    }

pub returns : goal.returns
returns c =
    let secs = second_of c.args.utc c.requires.utc in
    let nanos = nanos_of c.args.nanos c.requires.nanos in
    record { exact = exact_at c.args.utc c.args.nanos _ secs nanos (c.printable.ensures.exact.0 c.if-not-printable.false) }
