use Rattle.std.proofs.Common.{refl, rules}
use Rattle.hb_look.specs.Looks.{Got, Gone, NotYet}
use Rattle.hb_listring.proofs.Looks.{look_looked}
use Rattle.hb_listring.proofs.eye.ListEyeLook.look.Goals as goal

pub returns-in-Held-clause-looked : goal.returns-in-Held-clause-looked
returns-in-Held-clause-looked c =
    let eye = c.args.self.now in
    look_looked _ _ _ _ _ eye.ring.now eye.reader.now c.add_look.new.self c.args.position c.args.moment (Got c.in-Held.record.now) refl refl
    (search rules) eye.within (search rules) (search rules) (λ log tell. tell) (λ log tell. tell) refl

pub returns-in-Overwritten-clause-looked : goal.returns-in-Overwritten-clause-looked
returns-in-Overwritten-clause-looked c =
    let eye = c.args.self.now in
    look_looked _ _ _ _ _ eye.ring.now eye.reader.now c.add_look.new.self c.args.position c.args.moment (Gone c.in-Overwritten.next) refl refl
    (search rules) eye.within (search rules) c.in-Overwritten.ensures (λ log tell. tell) (λ log tell. tell) refl

pub returns-in-Unwritten-clause-looked : goal.returns-in-Unwritten-clause-looked
returns-in-Unwritten-clause-looked c =
    let eye = c.args.self.now in
    look_looked _ _ _ _ _ eye.ring.now eye.reader.now c.add_look.new.self c.args.position c.args.moment NotYet refl refl
    (search rules) eye.within (search rules) c.in-Unwritten.ensures (λ log tell. tell) (λ log tell. tell) refl
