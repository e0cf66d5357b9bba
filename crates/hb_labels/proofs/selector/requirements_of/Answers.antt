use Rattle.hb_labels.specs.Reading.{requirement_of}
use Rattle.hb_labels.proofs.Pieces.{one_more, the_last, fails_more}
use Rattle.hb_labels.proofs.selector.requirements_of.Goals as goal

pub loop-front-preserved : goal.loop-front-preserved
loop-front-preserved c =
    one_more requirement_of c.loop-front.rest.now c.in-Some.front.now c.in-Some.more.now c.loop-front.requirements c.put_requirement.new.requirements _ c.in-Some.ensures.1 c.in-Ok-put_requirement.ensures
    c.loop-front.invariant

pub returns-in-Err : goal.returns-in-Err
returns-in-Err c = fails_more requirement_of c.in-Err.fault c.loop-front.rest.now c.in-Some.front.now _ c.loop-front.requirements _ c.in-Some.ensures.1 c.in-Err.ensures c.loop-front.invariant

pub returns-in-Ok-put_requirement-2 : goal.returns-in-Ok-put_requirement-2
returns-in-Ok-put_requirement-2 c =
    the_last requirement_of c.loop-front.rest.now c.loop-front.requirements c.put_requirement-2.new.requirements _ c.in_default-cut.ensures c.in-Ok-put_requirement-2.ensures c.loop-front.invariant

pub returns-in-Err-put_requirement : goal.returns-in-Err-put_requirement
returns-in-Err-put_requirement c =
    fails_more requirement_of c.in-Err-put_requirement.fault c.loop-front.rest.now c.loop-front.rest.now _ c.loop-front.requirements _ c.in_default-cut.ensures c.in-Err-put_requirement.ensures c.loop-front.invariant
