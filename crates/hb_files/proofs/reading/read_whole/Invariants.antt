use Rattle.std.proofs.Common.{◌≡◌, ◌≤◌, ◌^◌, ◌+◌, ◌-◌, vec_len}
use Rattle.std.specs.Option.{ForSome}
use Rattle.hb_files.proofs.Whole.{HasRead}
use Rattle.hb_files.proofs.reading.read_whole.Given as goal

abbrev pub invariant-loop-shelf : goal.invariant-loop-shelf
invariant-loop-shelf g l = record {
  room : vec_len l.buffer ≡ 2 ^ 16;
  later : g.S.Shelf.faults l.fn.shelf ≤ g.S.Shelf.faults l.shelf;
  kept : g.S.Shelf.files l.shelf ≡ g.S.Shelf.files l.fn.shelf;
  fixed : g.S.Shelf.fixed l.shelf ≡ g.S.Shelf.fixed l.fn.shelf;
  front : ForSome (g.S.Shelf.files l.fn.shelf) (λ files. HasRead (files l.name) l.bytes.items);
}

-- how far the bytes are from the limit
abbrev pub decreases-loop-shelf : goal.decreases-loop-shelf
decreases-loop-shelf g l = (2 ^ 30 + 1) - vec_len l.bytes
