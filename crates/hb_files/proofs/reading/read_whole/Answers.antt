use Rattle.std.proofs.Common.{◌≡◌, ◌<◌, ◌^◌, ◌∙◌, ◌++◌, refl, length, take, true, arith, rules}
use Rattle.std.specs.Prelude.{is_ok}
use Rattle.hb_files.proofs.Whole.{has_read_none, has_read_on, has_read_all, has_read_past}
use Rattle.hb_files.proofs.reading.read_whole.Goals as goal

pub loop-shelf-init : goal.loop-shelf-init
loop-shelf-init g c = let e = c.new-bytes.ensures.items in record {
  room = c.in-Ok.ensures.len;
  later = omega arith;
  kept = refl;
  fixed = refl;
  front = λ files told. rw e (has_read_none (files c.args.name.now));
}

pub loop-shelf-preserved : goal.loop-shelf-preserved
loop-shelf-preserved g c = record {
  room = c.loop-shelf.invariant.room;
  later = omega (arith, c.loop-shelf.invariant.later, c.read.ensures.later);
  kept = c.read.ensures.kept ∙ c.loop-shelf.invariant.kept;
  fixed = c.read.ensures.fixed ∙ c.loop-shelf.invariant.fixed;
  front = λ files told.
      let taken : is_ok c.extend_from_slice.result ≡ true = search rules in
      let new : c.extend_from_slice.new.self.items ≡ c.loop-shelf.bytes.items ++ take c.in-Took.count c.deref.result.now = rw taken at c.extend_from_slice.ensures.items in
      has_read_on (files c.args.name.now) c.loop-shelf.bytes.items c.deref.result.now c.extend_from_slice.new.self.items c.read.new.buf c.loop-shelf.buffer.items
      c.len-in-loop-shelf.result c.loop-shelf.buffer.len c.in-Took.count (c.loop-shelf.invariant.front files told) (search rules)
      (c.in-Took.ensures.told files (c.loop-shelf.invariant.kept ∙ told)) (omega (arith, c.read.ensures.room, c.as_mut_slice.ensures.len)) c.deref.ensures.value new;
}

pub returns-in-End-clause-ok : goal.returns-in-End-clause-ok
returns-in-End-clause-ok g c =
    let at : c.len-in-loop-shelf.result ≡ length c.loop-shelf.bytes.items = search rules in (
      omega (arith, at, c.loop-shelf-test.true),
      λ files told.
          has_read_all (files c.args.name.now) c.loop-shelf.bytes.items c.read.new.buf (c.loop-shelf.invariant.front files told)
          (rw at at (c.in-End.ensures.told files (c.loop-shelf.invariant.kept ∙ told))),
    )

pub returns-clause-err : goal.returns-clause-err
returns-clause-err g c = λ files told.
    let past : 2 ^ 30 < length c.loop-shelf.bytes.items = search rules in
    has_read_past (files c.args.name.now) c.loop-shelf.bytes.items (2 ^ 30) (c.loop-shelf.invariant.front files told) past
