use Rattle.std.proofs.Common.{lit≤}
use Rattle.std.proofs.lemmas.Str.Pattern.{strip_suffix_char}
use Rattle.hb_time.proofs.SpanLemmas.{in_ms, in_s, in_none}
use Rattle.hb_time.proofs.span.split_unit.Goals as goal

pub returns-in-Some-strip_suffix : goal.returns-in-Some-strip_suffix
returns-in-Some-strip_suffix c =
    let one = rw c.in-Some.is at (strip_suffix_char 115 c.args.text.now c.strip_suffix.result c.strip_suffix.ensures.cases (lit≤ tt)) in
    let two = rw c.in-Some-strip_suffix.is at (strip_suffix_char 109 c.in-Some.front.now c.strip_suffix-in-Some.result c.strip_suffix-in-Some.ensures.cases (lit≤ tt)) in
    record { exact = in_ms _ _ _ one two }

pub returns-in-None : goal.returns-in-None
returns-in-None c =
    let one = rw c.in-Some.is at (strip_suffix_char 115 c.args.text.now c.strip_suffix.result c.strip_suffix.ensures.cases (lit≤ tt)) in
    let two = rw c.in-None.is at (strip_suffix_char 109 c.in-Some.front.now c.strip_suffix-in-Some.result c.strip_suffix-in-Some.ensures.cases (lit≤ tt)) in
    record { exact = in_s _ _ one two }

pub returns-in-None-strip_suffix : goal.returns-in-None-strip_suffix
returns-in-None-strip_suffix c =
    let one = rw c.in_default.is at (strip_suffix_char 115 c.args.text.now c.strip_suffix.result c.strip_suffix.ensures.cases (lit≤ tt)) in
    let two = rw c.in_default-strip_suffix.is at (strip_suffix_char 109 c.args.text.now c.strip_suffix-2.result c.strip_suffix-2.ensures.cases (lit≤ tt)) in
    let three = rw c.in-None-strip_suffix.is at (strip_suffix_char 104 c.args.text.now c.strip_suffix-3.result c.strip_suffix-3.ensures.cases (lit≤ tt)) in
    record { exact = in_none _ one two three }
