use Rattle.std.proofs.Common.{◌+◌, rules}
use Rattle.std.proofs.lemmas.List.{drop-drop}
use Rattle.hb_frame.proofs.Given.{given_body}
use Rattle.hb_frame.proofs.reader.FrameReader.give.Goals as goal

pub returns : goal.returns
returns c =
    let body = given_body c.self.inside.bytes.items c.self.inside.given c.args.body in
    let held = drop-drop (5 + c.args.body) c.self.inside.given c.self.inside.bytes.items in
    rw (← c.self.view_is) (search (rules, body, held))
