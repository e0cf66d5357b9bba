use Rattle.std.proofs.Common.{refl, ◌∙◌, ap}
use Rattle.hb_listring.specs.Places.{after_load}
use Rattle.hb_listring.proofs.Looks.{load_looked}
use Rattle.hb_listring.proofs.eye.ListEyeLook.top.Goals as goal

pub returns-clause-looked : goal.returns-clause-looked
returns-clause-looked c =
    let eye = c.args.self.now in
    load_looked _ _ _ _ _ eye.ring.now eye.reader.now c.load.new.self refl refl
    (c.load.ensures.loaded ∙ ap (after_load eye.reader.now) c.written-top.ensures.written) eye.within c.load.ensures.loads (λ log tell. tell) (λ log tell. tell) refl
