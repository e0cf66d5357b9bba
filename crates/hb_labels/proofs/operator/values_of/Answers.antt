use Rattle.hb_labels.specs.Reading.{value_of}
use Rattle.hb_labels.proofs.Pieces.{one_more, the_last, fails_more}
use Rattle.hb_labels.proofs.operator.values_of.Goals as goal

pub loop-front-preserved : goal.loop-front-preserved
loop-front-preserved c =
    one_more value_of c.loop-front.rest.now c.in-Some.front.now c.in-Some.more.now c.loop-front.values c.put_value.new.values _ c.in-Some.ensures.1 c.in-Ok-put_value.ensures
    c.loop-front.invariant

pub returns-in-Err : goal.returns-in-Err
returns-in-Err c = fails_more value_of c.in-Err.fault c.loop-front.rest.now c.in-Some.front.now _ c.loop-front.values _ c.in-Some.ensures.1 c.in-Err.ensures c.loop-front.invariant

pub returns-in-Ok-put_value-2 : goal.returns-in-Ok-put_value-2
returns-in-Ok-put_value-2 c =
    the_last value_of c.loop-front.rest.now c.loop-front.values c.put_value-2.new.values _ c.in_default-cut.ensures c.in-Ok-put_value-2.ensures c.loop-front.invariant

pub returns-in-Err-put_value : goal.returns-in-Err-put_value
returns-in-Err-put_value c =
    fails_more value_of c.in-Err-put_value.fault c.loop-front.rest.now c.loop-front.rest.now _ c.loop-front.values _ c.in_default-cut.ensures c.in-Err-put_value.ensures c.loop-front.invariant
