use Rattle.std.proofs.Common.{rules, inr, ◌≡◌, ◌⊎◌, ◌∙◌, ℕ, List, Some, refl, sym, ap}
use Rattle.std.proofs.lemmas.List.{append-nil}
use Rattle.std.proofs.lemmas.Result.{IfOk-at_ok}
use Rattle.hb_look.specs.Looks.{Got}
use Rattle.hb_look.specs.Reader.{Reader}
use Rattle.hb_look.specs.Answers.{with_look}
use Rattle.hb_session.specs.Ways.{next_place, counts_by}
use Rattle.hb_session.specs.Stands.{Source, HasRoom}
use Rattle.hb_session.proofs.Worked.{got_look, gone_look, waited, got_on, gone_on, LeadsOn, HasMade, HasStepped, made_one, made_there, made_counted, made_worked, made_more, made_room, made_put, err_counts, on_err_gives}
use Rattle.hb_session.proofs.source.Source.work.Given.{Over}
use Rattle.hb_session.proofs.source.Source.work.Goals as goal
use Rattle.hb_session.proofs.source.Source.work.Goals.{in-Got, in-Gone}

-- the look that was made, and its step, which the source has made
made_ok : (g : Over) (c : goal.After-self-1 g) → (made : HasMade c.args.self.now (g.R.Look.reader c.args.reader.now) (g.R.Look.reader c.look.new.self) c.args.moment)
    × HasStepped c.args.self.now (record { opening = c.match-look.self-inside.opening; way = c.match-look.self-inside.way; ended = c.in-Ok.ended })
    made.step c.args.out.now.items c.match-look.out.items × LeadsOn c.args.self.now made.look made.step
made_ok g c =
    let s : Source = c.args.self.now in
    let old : Reader = g.R.Look.reader c.args.reader.now in
    let new : Reader = g.R.Look.reader c.look.new.self in
    let at : c.place-place.result ≡ next_place s.opening s.way = search rules in
    let room : HasRoom s.opening s.way = c.requires.going.1 in
    elim c.match-look.branch [
      | in-Got w ↦
          let listed = w.in-Got.ensures.listed ∙ ap (λ (bytes : List ℕ). with_look old.looks old.capacity c.place-place.result c.args.moment (Some (Got bytes))) (sym w.bytes.ensures.value) in
          let look = got_look s old new c.place-place.result c.args.moment c.requires.going.0 room at w.bytes.result.now listed w.in-Got.ensures.cause in
          let is = sym w.added-is ∙ c.in-Ok.is in
          let state = IfOk-at_ok _ is w.read-added.ensures.state in
          let put = IfOk-at_ok _ is w.read-added.ensures.put in
          let ended = IfOk-at_ok _ is w.read-added.ensures.ended in (
            record { look = _; step = _; is = look; at = refl },
            record { opening = search rules; way = search rules; ended = search rules; put = search rules },
            got_on s old new c.place-place.result c.args.moment c.requires.going.0 room at w.bytes.result.now,
          )
      | in-Gone w ↦
          let look = gone_look s old new c.place-place.result c.args.moment c.requires.going.0 room at w.in-Gone.next w.in-Gone.ensures.listed w.in-Gone.ensures.cause in
          let is = sym w.added-is ∙ c.in-Ok.is in
          let state = IfOk-at_ok _ is w.gone-added.ensures.state in
          let put = IfOk-at_ok _ is w.gone-added.ensures.put in
          let ended = IfOk-at_ok _ is w.gone-added.ensures.ended in (
            record { look = _; step = _; is = look; at = refl },
            record { opening = search rules; way = search rules; ended = search rules; put = search rules },
            gone_on s old new c.place-place.result c.args.moment c.requires.going.0 room at w.in-Gone.next w.in-Gone.ensures.cause.2,
          )
    ]

pub returns-in-Ok-clause-worked : goal.returns-in-Ok-clause-worked
returns-in-Ok-clause-worked g c _ = let made = made_ok g c in made_worked _ _ _ _ made.0 _ _ _ made.1

pub returns-in-Ok-clause-made : goal.returns-in-Ok-clause-made
returns-in-Ok-clause-made g c = made_there _ _ _ _ (made_ok g c).0

pub returns-in-Ok-clause-counted : goal.returns-in-Ok-clause-counted
returns-in-Ok-clause-counted g c = let made = made_ok g c in made_counted _ _ _ _ made.0 _ (inr (ap counts_by made.1.way))

pub returns-in-Ok-clause-one : goal.returns-in-Ok-clause-one
returns-in-Ok-clause-one g c = made_one _ _ _ _ (made_ok g c).0

pub returns-in-Ok-clause-more : goal.returns-in-Ok-clause-more
returns-in-Ok-clause-more g c _ = let made = made_ok g c in made_more _ _ _ _ made.0 _ _ _ made.1 made.2

pub returns-in-Ok-clause-ready : goal.returns-in-Ok-clause-ready
returns-in-Ok-clause-ready g c _ = let made = made_ok g c in (λ going. made_room _ _ _ _ made.0 _ _ _ made.1 going, λ ended. made_put _ _ _ _ made.0 _ _ _ made.1 ended)

pub returns-in-NotYet-clause-worked : goal.returns-in-NotYet-clause-worked
returns-in-NotYet-clause-worked g c _ =
    let s : Source = c.args.self.now in
    let old : Reader = g.R.Look.reader c.args.reader.now in
    let new : Reader = g.R.Look.reader c.look.new.self in
    let made = waited s old new c.place-place.result c.args.moment c.requires.going.0 c.requires.going.1 (search rules) c.requires.seen c.in-NotYet.ensures.looked.later.finished.count
    c.in-NotYet.ensures.listed c.in-NotYet.ensures.cause in
    made_worked s old new c.args.moment made _ _ _ (record { opening = search rules; way = search rules; ended = search rules; put = sym (append-nil c.args.out.now.items) })

pub returns-in-NotYet-clause-one : goal.returns-in-NotYet-clause-one
returns-in-NotYet-clause-one g c =
    let s : Source = c.args.self.now in
    let old : Reader = g.R.Look.reader c.args.reader.now in
    let new : Reader = g.R.Look.reader c.look.new.self in
    made_one s old new c.args.moment (waited s old new c.place-place.result c.args.moment c.requires.going.0 c.requires.going.1 (search rules) c.requires.seen
    c.in-NotYet.ensures.looked.later.finished.count c.in-NotYet.ensures.listed c.in-NotYet.ensures.cause)

-- the same where memory was refused behind the look
made_err : (g : Over) (c : goal.After-truncate g) → (made : HasMade c.args.self.now (g.R.Look.reader c.args.reader.now) (g.R.Look.reader c.look.new.self) c.args.moment)
    × ((counts_by c.match-look.self-inside.way ≡ counts_by c.args.self.now.way) ⊎ (counts_by c.match-look.self-inside.way ≡ counts_by made.step.state))
made_err g c =
    let s : Source = c.args.self.now in
    let old : Reader = g.R.Look.reader c.args.reader.now in
    let new : Reader = g.R.Look.reader c.look.new.self in
    let at : c.place-place.result ≡ next_place s.opening s.way = search rules in
    let room : HasRoom s.opening s.way = c.requires.going.1 in
    elim c.match-look.branch [
      | in-Got w ↦
          let listed = w.in-Got.ensures.listed ∙ ap (λ (bytes : List ℕ). with_look old.looks old.capacity c.place-place.result c.args.moment (Some (Got bytes))) (sym w.bytes.ensures.value) in
          let look = got_look s old new c.place-place.result c.args.moment c.requires.going.0 room at w.bytes.result.now listed w.in-Got.ensures.cause in
          let is = sym w.added-is ∙ c.in-Err.is in
          (record { look = _; step = _; is = look; at = refl }, err_counts (on_err_gives w.read-added.result c.in-Err.field-0 is w.read-added.ensures.err) (search rules) (search rules) (search rules))
      | in-Gone w ↦
          let look = gone_look s old new c.place-place.result c.args.moment c.requires.going.0 room at w.in-Gone.next w.in-Gone.ensures.listed w.in-Gone.ensures.cause in
          let is = sym w.added-is ∙ c.in-Err.is in
          (record { look = _; step = _; is = look; at = refl }, err_counts (on_err_gives w.gone-added.result c.in-Err.field-0 is w.gone-added.ensures.err) (search rules) (search rules) (search rules))
    ]

pub returns-in-Err-clause-made : goal.returns-in-Err-clause-made
returns-in-Err-clause-made g c = made_there _ _ _ _ (made_err g c).0

pub returns-in-Err-clause-counted : goal.returns-in-Err-clause-counted
returns-in-Err-clause-counted g c = let made = made_err g c in made_counted _ _ _ _ made.0 _ made.1

pub returns-in-Err-clause-one : goal.returns-in-Err-clause-one
returns-in-Err-clause-one g c = made_one _ _ _ _ (made_err g c).0
