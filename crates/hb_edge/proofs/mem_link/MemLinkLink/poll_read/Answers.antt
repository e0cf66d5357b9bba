-- each return is as told
use Rattle.std.proofs.Common.{ℕ, List, rules, inl, [], ◌∷◌, length, ap}
use Rattle.hb_edge.specs.declared.link.Moved.{Moved}
use Rattle.hb_edge.specs.declared.link.Moved.TheVariants.{Took}
use Rattle.hb_edge.specs.Link.{Read}
use Rattle.hb_edge.specs.MemLink.{LinkState}
use Rattle.hb_edge.proofs.MemMoves.{read_told, read_holds, read_left}
use Rattle.hb_edge.proofs.mem_link.MemLinkLink.poll_read.Goals as goal

pub returns-then-contains-clause-moved : goal.returns-then-contains-clause-moved
returns-then-contains-clause-moved c = record {
  later = record {
    faults = search rules;
    read_waits = search rules;
    write_waits = search rules;
    refusals = search rules;
    key = search rules;
  };
  holds = search rules;
  left = λ h is. inl (Read (length c.args.buf.now) ∷ [], search rules);
  stays = search rules;
}

pub returns-in-Took-clause-moved : goal.returns-in-Took-clause-moved
returns-in-Took-clause-moved c =
    let s : LinkState = c.args.self.now in
    let room : ℕ = length c.args.buf.now in
    let answer : Moved = Took c.in-Took.size in
    let buffer : List ℕ = c.read_front-answer.new.buf in
    let told = read_told s room c.self.inside.most c.self.inside.place c.deref-2.result.now c.self.inside.supplied.items c.self.inside.ended answer buffer (search rules)
    (ap (λ (x : LinkState). x.unread) c.self.view_is) (search rules) (search rules) (search rules) c.in-Took.ensures.answer c.in-Took.ensures.told in record {
      later = record {
        faults = search rules;
        read_waits = search rules;
        write_waits = search rules;
        refusals = search rules;
        key = search rules;
      };
      holds = read_holds s _ answer buffer told.1 (search rules) (search rules) (search rules);
      left = λ h is. inl (read_left s c.pass.new.self room answer told.0 (search rules));
      stays = search rules;
    }

pub returns-in-NotYet-clause-moved : goal.returns-in-NotYet-clause-moved
returns-in-NotYet-clause-moved c =
    let s : LinkState = c.args.self.now in
    let room : ℕ = length c.args.buf.now in
    let answer : Moved = c.read_front-answer.result in
    let buffer : List ℕ = c.read_front-answer.new.buf in
    let told = read_told s room c.self.inside.most c.self.inside.place c.deref-2.result.now c.self.inside.supplied.items c.self.inside.ended answer buffer (search rules)
    (ap (λ (x : LinkState). x.unread) c.self.view_is) (search rules) (search rules) (search rules) c.read_front-answer.ensures.answer c.read_front-answer.ensures.told in record {
      later = record {
        faults = search rules;
        read_waits = search rules;
        write_waits = search rules;
        refusals = search rules;
        key = search rules;
      };
      holds = read_holds s _ answer buffer told.1 (search rules) (search rules) (search rules);
      left = λ h is. inl (read_left s _ room answer told.0 (search rules));
      stays = search rules;
    }

pub returns-in-End-clause-moved : goal.returns-in-End-clause-moved
returns-in-End-clause-moved c =
    let s : LinkState = c.args.self.now in
    let room : ℕ = length c.args.buf.now in
    let answer : Moved = c.read_front-answer.result in
    let buffer : List ℕ = c.read_front-answer.new.buf in
    let told = read_told s room c.self.inside.most c.self.inside.place c.deref-2.result.now c.self.inside.supplied.items c.self.inside.ended answer buffer (search rules)
    (ap (λ (x : LinkState). x.unread) c.self.view_is) (search rules) (search rules) (search rules) c.read_front-answer.ensures.answer c.read_front-answer.ensures.told in record {
      later = record {
        faults = search rules;
        read_waits = search rules;
        write_waits = search rules;
        refusals = search rules;
        key = search rules;
      };
      holds = read_holds s _ answer buffer told.1 (search rules) (search rules) (search rules);
      left = λ h is. inl (read_left s _ room answer told.0 (search rules));
      stays = search rules;
    }
