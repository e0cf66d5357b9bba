use Rattle.std.proofs.Common.{◌∙◌, ◌++◌, List, [], ◌∷◌, sym, ap, refl}
use Rattle.std.proofs.lemmas.List.{map-append}
use Rattle.hb_schema.specs.Rows.{NumberOf}
use Rattle.hb_schema.proofs.parts.push_number.Goals as goal

pub returns-in-Ok : goal.returns-in-Ok
returns-in-Ok g c =
    let each = g.met.N.Number.each in
    let numbers = g.N.Number.values c.args.held.now in (
      refl,
      ap g.N.Number.values c.in-Ok.ensures.ok ∙ each (c.args.held.now ++ c.of_varint.result ∷ []) ∙ map-append g.N.Number.value c.args.held.now (c.of_varint.result ∷ [])
          ∙ ap (λ (ns : List (NumberOf g.N.Number.kind)). ns ++ g.N.Number.value c.of_varint.result ∷ []) (sym (each c.args.held.now))
          ∙ ap (λ (n : NumberOf g.N.Number.kind). numbers ++ n ∷ []) c.of_varint.ensures,
    )
