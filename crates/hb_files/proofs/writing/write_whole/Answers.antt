use Rattle.std.proofs.Common.{arith, ◌∙◌, ◌++◌, ap, take, Some}
use Rattle.hb_files.proofs.Written.{written_more}
use Rattle.hb_files.proofs.writing.write_whole.Goals as goal

pub loop-at-preserved : goal.loop-at-preserved
loop-at-preserved g c = record {
  within = omega (arith, c.in-Took.ensures.within);
  later = omega (arith, c.loop-at.invariant.later, c.write.ensures.later);
  fixed = c.write.ensures.fixed ∙ c.loop-at.invariant.fixed;
  told = λ held told. c.in-Took.ensures.told (held ++ take c.loop-at.at c.args.bytes.now) (c.loop-at.invariant.told held told)
      ∙ ap Some (written_more held c.args.bytes.now c.loop-at.at c.in-Took.count);
}
