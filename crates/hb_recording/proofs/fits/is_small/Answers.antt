use Rattle.std.proofs.Common.{◌≡◌, ◌≤◌, length, Some, None, rules, arith}
use Rattle.hb_flow.specs.declared.response_types.ResponseTypes.TheVariants as member
use Rattle.hb_recording.proofs.Small.{small}
use Rattle.hb_recording.proofs.fits.is_small.Goals as goal

pub returns-then-as_str-le-SMALL : goal.returns-then-as_str-le-SMALL
returns-then-as_str-le-SMALL c = λ little.
    let r = c.args.response.now in
    let f = c.in-Some-Flow.flow in
    let uuid : length f.uuid ≤ 16000 = search rules in
    let unknown : length f.unknown ≤ 16000 = search rules in
    let name : length r.node_name ≤ 16000 = search rules in
    let others : length r.unknown ≤ 16000 = search rules in
    let is : r.response_types ≡ Some (member.Flow f) = search rules in
    small r (Some (member.Flow f)) is (omega (arith, uuid, unknown)) name others

pub returns-in-Some-NodeStatus : goal.returns-in-Some-NodeStatus
returns-in-Some-NodeStatus c = λ little.
    let r = c.args.response.now in
    let status = c.in-Some-NodeStatus.status in
    let size : length status ≤ 16000 = search rules in
    let name : length r.node_name ≤ 16000 = search rules in
    let others : length r.unknown ≤ 16000 = search rules in
    let is : r.response_types ≡ Some (member.NodeStatus status) = search rules in
    small r (Some (member.NodeStatus status)) is (omega (arith, size)) name others

pub returns-in-Some-LostEvents : goal.returns-in-Some-LostEvents
returns-in-Some-LostEvents c = λ little.
    let r = c.args.response.now in
    let e = c.in-Some-LostEvents.event in
    let unknown : length e.unknown ≤ 16000 = search rules in
    let name : length r.node_name ≤ 16000 = search rules in
    let others : length r.unknown ≤ 16000 = search rules in
    let is : r.response_types ≡ Some (member.LostEvents e) = search rules in
    small r (Some (member.LostEvents e)) is (omega (arith, unknown)) name others

pub returns-in-None : goal.returns-in-None
returns-in-None c = λ _.
    let r = c.args.response.now in
    let name : length r.node_name ≤ 16000 = search rules in
    let others : length r.unknown ≤ 16000 = search rules in
    small r None c.in-None.is (omega arith) name others
