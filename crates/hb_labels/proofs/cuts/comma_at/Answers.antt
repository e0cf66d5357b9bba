use Rattle.std.proofs.Common.{◌≡◌, false, not, ◌&&◌, ◌==◌, get_or, sym, inl, inr, subst, ne_eqb, refl, take, drop, ◌+◌}
use Rattle.hb_labels.specs.Reading.{pieces}
use Rattle.hb_labels.proofs.Pieces.{search_starts, search_finds, search_goes, search_ends, onto_front}
use Rattle.hb_labels.proofs.cuts.comma_at.Goals as goal

pub loop-i-init : goal.loop-i-init
loop-i-init c = search_starts false c.args.text.now

pub returns-then-not-inside : goal.returns-then-not-inside
returns-then-not-inside c = (c.loop-i-test.true, search_finds c.loop-i.inside c.args.text.now c.loop-i.i _ c.loop-i-test.true c.if-b-eq44.true c.if-not-inside.true c.loop-i.invariant)

pub loop-i-preserved : goal.loop-i-preserved
loop-i-preserved c =
    let text = c.args.text.now in
    let i = c.loop-i.i in
    let b = get_or text i 0 in
    let other : (b == 44 && not c.loop-i.inside) ≡ false = elim c.else-b-eq44.either [
      | inl inside ↦ rw (inside.0, inside.1) refl
      | inr byte ↦ rw (ne_eqb b 44 byte) refl
    ] in
    let goes = search_goes c.loop-i.inside text i (pieces false text) c.loop-i-test.true other c.loop-i.invariant in
    subst (λ inside. pieces false text ≡ onto_front (take (i + 1) text) (pieces inside (drop (i + 1) text))) (sym c.inside_after-inside.ensures) goes

pub returns : goal.returns
returns c = search_ends c.loop-i.inside c.args.text.now c.loop-i.i _ c.loop-i-test.false c.loop-i.invariant
