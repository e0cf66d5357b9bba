-- each return but the one where memory was refused is as told
use Rattle.std.proofs.Common.{rules, inl, [], ◌∷◌}
use Rattle.hb_edge.specs.Link.{Write}
use Rattle.hb_edge.proofs.mem_link.MemLinkLink.poll_write.Goals as goal

pub returns-then-contains-clause-exact : goal.returns-then-contains-clause-exact
returns-then-contains-clause-exact c h is = inl (search rules)

pub returns-then-contains-clause-moved : goal.returns-then-contains-clause-moved
returns-then-contains-clause-moved c = record {
  later = record {
    faults = search rules;
    read_waits = search rules;
    write_waits = search rules;
    refusals = search rules;
    key = search rules;
  };
  holds = search rules;
  left = λ h is. inl (Write c.args.piece.now ∷ [], search rules);
  stays = search rules;
}

pub returns-then-self-clause-exact : goal.returns-then-self-clause-exact
returns-then-self-clause-exact c h is = inl (search rules)

pub returns-then-self-clause-moved : goal.returns-then-self-clause-moved
returns-then-self-clause-moved c = record {
  later = record {
    faults = search rules;
    read_waits = search rules;
    write_waits = search rules;
    refusals = search rules;
    key = search rules;
  };
  holds = search rules;
  left = λ h is. inl (Write c.args.piece.now ∷ [], search rules);
  stays = search rules;
}

pub returns-clause-exact : goal.returns-clause-exact
returns-clause-exact c h is = inl (search rules)

pub returns-clause-moved : goal.returns-clause-moved
returns-clause-moved c = record {
  later = record {
    faults = search rules;
    read_waits = search rules;
    write_waits = search rules;
    refusals = search rules;
    key = search rules;
  };
  holds = search rules;
  left = λ h is. inl (Write c.args.piece.now ∷ [], search rules);
  stays = search rules;
}
