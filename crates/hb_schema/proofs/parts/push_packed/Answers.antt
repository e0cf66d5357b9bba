use Rattle.std.proofs.Common.{◌≡◌, ◌∙◌, ◌+◌, ◌-◌, ◌++◌, ℕ, List, [], drop, map, length, sym, ap, arith, refl}
use Rattle.std.proofs.lemmas.List.{drop_all, append-nil}
use Rattle.hb_schema.specs.Fields.{varints_of, varints}
use Rattle.hb_schema.specs.Faults.{first_varint_fault}
use Rattle.hb_schema.specs.Reading.{number_of}
use Rattle.hb_schema.proofs.Packing.{packed_fault_nil, varints_nil, list_stops, list_goes_on, list_grows, list_as}
use Rattle.hb_schema.proofs.parts.push_packed.Goals as goal

pub loop-at-init : goal.loop-at-init
loop-at-init g c = (length c.args.body.now, omega arith, omega arith, ap (λ (k : ℕ). first_varint_fault (length c.args.body.now) k c.args.body.now) (omega arith), refl)

pub returns-in-Err : goal.returns-in-Err
returns-in-Err g c =
    let inv = c.loop-at.invariant in
    list_stops inv.0 c.args.place c.loop-at.at c.args.body.now _ c.loop-at-test.true inv.2 inv.3 c.in-Err.ensures.reads.1

pub loop-at-preserved : goal.loop-at-preserved
loop-at-preserved g c =
    let inv = c.loop-at.invariant in
    let reads = c.in-Ok.ensures.reads in
    let found = c.in-Ok.ensures.found in (
      inv.0 - 1,
      found.1,
      omega (arith, reads.0, inv.2, found.0, c.loop-at-test.true),
      list_goes_on inv.0 c.args.place c.loop-at.at c.args.body.now _ c.loop-at-test.true inv.2 c.in-Ok.found.0 c.in-Ok.found.1 reads.0 reads.1 inv.3,
      list_grows (number_of g.N.Number.kind) inv.0 c.loop-at.at c.in-Ok.found.1 c.args.body.now c.in-Ok.found.0 (g.N.Number.values c.loop-at.held) _ _ c.loop-at-test.true inv.2 reads.0 reads.1 inv.4 c.in-Ok-push_number.ensures.1,
    )

pub returns : goal.returns
returns g c =
    let inv = c.loop-at.invariant in
    let none : drop c.loop-at.at c.args.body.now ≡ [] = drop_all c.loop-at.at c.args.body.now c.loop-at-test.false in (
      sym inv.3 ∙ rw none (packed_fault_nil inv.0 (c.args.place + c.loop-at.at)),
      sym (append-nil (g.N.Number.values c.loop-at.held))
          ∙ sym (ap (λ (bs : List ℕ). g.N.Number.values c.loop-at.held ++ map (λ v. number_of g.N.Number.kind v.0) (varints_of inv.0 bs)) none
          ∙ ap (λ (vs : List (ℕ × ℕ)). g.N.Number.values c.loop-at.held ++ map (λ v. number_of g.N.Number.kind v.0) vs) (varints_nil inv.0))
          ∙ inv.4 ∙ ap (λ (ns : List _). g.N.Number.values c.args.held.now ++ ns) (list_as (number_of g.N.Number.kind) (varints c.args.body.now)),
    )
