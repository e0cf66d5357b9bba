use Rattle.std.proofs.Common.{◌≡◌, ◌++◌, ◌∙◌, List, ℕ, ap, sym, subst, arith, length}
use Rattle.std.proofs.lemmas.List.{length-append}
use Rattle.hb_session.specs.declared.way.Way.{Way}
use Rattle.hb_session.specs.Openings.{Opening}
use Rattle.hb_session.specs.Steps.{Step}
use Rattle.hb_session.specs.Ways.{way_opened}
use Rattle.hb_session.specs.Stands.{HasRoom}
use Rattle.hb_session.proofs.Opened.{is_opened, opened_stands, owed_opened}
use Rattle.hb_session.proofs.Worked.{opened_sound, opened_put}
use Rattle.hb_session.proofs.source.Source.open.Goals as goal

pub returns-clause-stands : goal.returns-clause-stands
returns-clause-stands c =
    let is = is_opened c.in_ok-opening.opening c.of-way.result c.is_read.result c.of-way.ensures c.is_read.ensures in
    opened_stands _ (c.in_ok-ended.ensures.state ∙ ap (λ (s : Step Way). s.state) is) (c.in_ok-ended.ensures.ended ∙ ap (λ (s : Step Way). s.ended) is)

pub returns-clause-put : goal.returns-clause-put
returns-clause-put c =
    let o : Opening = c.in_ok-opening.opening in
    c.in_ok-ended.ensures.put ∙ ap (λ (s : Step Way). c.args.out.now.items ++ s.put) (is_opened c.in_ok-opening.opening c.of-way.result c.is_read.result c.of-way.ensures c.is_read.ensures) ∙ ap (λ (bytes : List ℕ). c.args.out.now.items ++ bytes) (owed_opened o)

pub returns-clause-going : goal.returns-clause-going
returns-clause-going c =
    let o : Opening = c.in_ok-opening.opening in
    let is = is_opened c.in_ok-opening.opening c.of-way.result c.is_read.result c.of-way.ensures c.is_read.ensures in
    let state : c.close.new.self ≡ (way_opened o).state = c.in_ok-ended.ensures.state ∙ ap (λ (s : Step Way). s.state) is in
    let ended : c.in_ok-ended.ended ≡ (way_opened o).ended = c.in_ok-ended.ensures.ended ∙ ap (λ (s : Step Way). s.ended) is in
    let put : c.close.new.out.items ≡ c.args.out.now.items ++ (way_opened o).put = c.in_ok-ended.ensures.put ∙ ap (λ (s : Step Way). c.args.out.now.items ++ s.put) is in (
      λ not. subst (λ (w : Way). HasRoom o w) (sym state) (opened_sound o (sym ended ∙ not)),
      λ over. let some = opened_put o (sym ended ∙ over) in omega (arith, ap length put, length-append c.args.out.now.items (way_opened o).put, some),
    )
