use Rattle.std.proofs.Common.{rules, refl}
use Rattle.hb_session.proofs.Clients.{stops_exactly, cancelled_for, extra_for, kind_for, long_for, cut_for, none_for}
use Rattle.hb_session.proofs.inbox.stop_of.Goals as goal

pub returns-in-Frame-eq3-default-default-clause-stops : goal.returns-in-Frame-eq3-default-default-clause-stops
returns-in-Frame-eq3-default-default-clause-stops c =
    let f = c.in-Frame-eq3-default-default in
    stops_exactly c.args.input.now c.args.last c.next.result _ c.next.ensures.exact (cancelled_for c.args.input.now c.args.last c.next.result f.kind f.at f.length f.is (search rules))

pub returns-in-Frame-clause-stops : goal.returns-in-Frame-clause-stops
returns-in-Frame-clause-stops c =
    let f = c.in-Frame in
    stops_exactly c.args.input.now c.args.last c.next.result _ c.next.ensures.exact (extra_for c.args.input.now c.args.last c.next.result f.kind f.at f.length (search rules) (search rules))

pub returns-in-BadKind-clause-stops : goal.returns-in-BadKind-clause-stops
returns-in-BadKind-clause-stops c =
    let f = c.in-BadKind in
    stops_exactly c.args.input.now c.args.last c.next.result _ c.next.ensures.exact (kind_for c.args.input.now c.args.last c.next.result f.at f.kind (search rules))

pub returns-in-TooLong-clause-stops : goal.returns-in-TooLong-clause-stops
returns-in-TooLong-clause-stops c =
    let f = c.in-TooLong in
    stops_exactly c.args.input.now c.args.last c.next.result _ c.next.ensures.exact (long_for c.args.input.now c.args.last c.next.result f.at f.length (search rules))

pub returns-in-NeedMore-clause-stops : goal.returns-in-NeedMore-clause-stops
returns-in-NeedMore-clause-stops c =
    stops_exactly c.args.input.now c.args.last c.next.result _ c.next.ensures.exact (cut_for c.args.input.now c.args.last c.next.result c.place.result (search rules) (search rules) (search rules) (search rules))

pub returns-in-NeedMore-2-2-clause-stops : goal.returns-in-NeedMore-2-2-clause-stops
returns-in-NeedMore-2-2-clause-stops c =
    stops_exactly c.args.input.now c.args.last c.next.result _ c.next.ensures.exact (none_for c.args.input.now c.args.last c.next.result (search rules) (search rules))

pub returns-in-Frame-eq3-default-default-clause-gave : goal.returns-in-Frame-eq3-default-default-clause-gave
returns-in-Frame-eq3-default-default-clause-gave c = (c.next.result, (c.next.ensures.exact c.next.result).0 refl, c.next.ensures.goes_on)

pub returns-in-Frame-clause-gave : goal.returns-in-Frame-clause-gave
returns-in-Frame-clause-gave c = (c.next.result, (c.next.ensures.exact c.next.result).0 refl, c.next.ensures.goes_on)

pub returns-in-BadKind-clause-gave : goal.returns-in-BadKind-clause-gave
returns-in-BadKind-clause-gave c = (c.next.result, (c.next.ensures.exact c.next.result).0 refl, c.next.ensures.goes_on)

pub returns-in-TooLong-clause-gave : goal.returns-in-TooLong-clause-gave
returns-in-TooLong-clause-gave c = (c.next.result, (c.next.ensures.exact c.next.result).0 refl, c.next.ensures.goes_on)

pub returns-in-NeedMore-clause-gave : goal.returns-in-NeedMore-clause-gave
returns-in-NeedMore-clause-gave c = (c.next.result, (c.next.ensures.exact c.next.result).0 refl, c.next.ensures.goes_on)

pub returns-in-NeedMore-2-2-clause-gave : goal.returns-in-NeedMore-2-2-clause-gave
returns-in-NeedMore-2-2-clause-gave c = (c.next.result, (c.next.ensures.exact c.next.result).0 refl, c.next.ensures.goes_on)
