use Rattle.std.proofs.Common.{ℕ, List, ◌+◌, ◌++◌, length, sym, ap, ◌∙◌, subst, arith}
use Rattle.hb_ring_rule.specs.Views.{Stage, words_of}
use Rattle.hb_ring.proofs.Copies.{IsReading, reading_next, reading_size}
use Rattle.hb_ring.proofs.ring.Ring.load.Goals as goal

pub add-requires : goal.add-requires
add-requires c =
    let size : ℕ = c.load_word-bytes.result in
    let inside = c.loop-k-test.true in
    let end = c.div_ceil-k-end.ensures in
    let so_far = reading_size c.args.seat.now c.loop-k.seat c.args.position size c.loop-k.k c.loop-k.out.bytes c.loop-k.invariant.0 in
    let fits = c.load_word-bytes.ensures.fits (ap (λ (s : Stage). length (words_of s)) c.requires.busy) in
    let longest = c.requires.longest in
    let room = c.requires.room in
    let same = c.loop-k.invariant.1 in
    record { room = omega (arith, so_far, fits, longest, room, same, inside, end) }

pub loop-k-preserved : goal.loop-k-preserved
loop-k-preserved c =
    let size : ℕ = c.load_word-bytes.result in
    let k : ℕ = c.loop-k.k in
    let out : List ℕ = c.loop-k.out.bytes in
    let next = reading_next c.args.seat.now c.loop-k.seat c.load_word.new.seat c.args.position size c.load_word.result k out c.loop-k.invariant.0 c.load_word.ensures.read in
    let added = ap (λ f. f.bytes) c.add.ensures.added ∙ ap (λ (l : List ℕ). out ++ l) c.to_le_bytes.ensures in (
      subst (λ (bytes : List ℕ). IsReading c.args.seat.now c.load_word.new.seat c.args.position size bytes (k + 1)) (sym added) next,
      ap (λ f. f.room) c.add.ensures.added ∙ c.loop-k.invariant.1,
    )
