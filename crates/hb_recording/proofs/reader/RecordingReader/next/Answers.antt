use Rattle.std.proofs.Common.{◌≡◌, ◌<◌, ◌∙◌, List, length, rules, arith, sym, ap, subst}
use Rattle.std.proofs.lemmas.List.{append-nil}
use Rattle.hb_flow.specs.declared.response.GetFlowsResponse.{GetFlowsResponse}
use Rattle.hb_frame.specs.Frames.{message_frame}
use Rattle.hb_frame.specs.Cut.{StartsFrame}
use Rattle.hb_frame.proofs.Begins.{no_frame_begins}
use Rattle.hb_recording.specs.declared.reader.Next.TheVariants.{End, Bad}
use Rattle.hb_recording.specs.Reading.{Reading, HasGiven}
use Rattle.hb_recording.proofs.Fronts.{frame_size}
use Rattle.hb_recording.proofs.Gives.{Says, end_exact, bad_exact, says_all, says_no_frame, says_message, stands_message, file_message, given_past}
use Rattle.hb_recording.proofs.reader.RecordingReader.next.Goals as goal

pub returns-in_default : goal.returns-in_default
returns-in_default c =
    let reading = c.loop-self.self in
    let some : 0 < length reading.rest = search rules in
    let none = no_frame_begins reading.rest c.front_of.result (search rules) c.in_default.not-Frame in
    let held = c.args.response.now in
    let says : (given : List GetFlowsResponse) → HasGiven c.args.self.now given → Says reading given held (Bad c.place.result) =
    λ given has. says_no_frame reading given c.place.result held (c.loop-self.invariant.stands given has) some none (search rules) in record {
      stands = λ given has. subst (HasGiven reading) (sym (append-nil given)) (c.loop-self.invariant.stands given has);
      end = λ given has no_want. end_exact c.args.self.now.file reading given held (Bad c.place.result) c.loop-self.invariant.file (says given has) no_want;
      bad = λ given at has no_want. bad_exact c.args.self.now.file reading given at held (Bad c.place.result) c.loop-self.invariant.file (says given has) no_want;
      further = omega (arith, c.loop-self.invariant.shorter);
      file = c.loop-self.invariant.file;
    }

pub returns-then-kind-eq-MESSAGE-clause-stands : goal.returns-then-kind-eq-MESSAGE-clause-stands
returns-then-kind-eq-MESSAGE-clause-stands c = λ given has.
    let next : StartsFrame c.loop-self.self.rest (message_frame c.in-Frame.body.now) c.in-Frame.after.now = search rules in
    stands_message c.loop-self.self c.read.new.self c.in-Frame.body.now c.in-Frame.after.now given c.read.new.response c.read.result (c.loop-self.invariant.stands given has) next c.read.ensures

pub returns-then-kind-eq-MESSAGE-clause-end : goal.returns-then-kind-eq-MESSAGE-clause-end
returns-then-kind-eq-MESSAGE-clause-end c = λ given has no_want.
    let old = c.loop-self.self in
    let body = c.in-Frame.body.now in
    let after = c.in-Frame.after.now in
    let next : StartsFrame old.rest (message_frame body) after = search rules in
    let same = file_message old c.read.new.self body after c.read.new.response c.read.result c.read.ensures ∙ c.loop-self.invariant.file in
    let says = says_message old c.read.new.self body after given c.read.new.response c.read.result (c.loop-self.invariant.stands given has) next c.read.ensures in
    end_exact c.args.self.now.file c.read.new.self given c.read.new.response c.read.result same says no_want

pub returns-then-kind-eq-MESSAGE-clause-bad : goal.returns-then-kind-eq-MESSAGE-clause-bad
returns-then-kind-eq-MESSAGE-clause-bad c = λ given at has no_want.
    let old = c.loop-self.self in
    let body = c.in-Frame.body.now in
    let after = c.in-Frame.after.now in
    let next : StartsFrame old.rest (message_frame body) after = search rules in
    let same = file_message old c.read.new.self body after c.read.new.response c.read.result c.read.ensures ∙ c.loop-self.invariant.file in
    let says = says_message old c.read.new.self body after given c.read.new.response c.read.result (c.loop-self.invariant.stands given has) next c.read.ensures in
    bad_exact c.args.self.now.file c.read.new.self given at c.read.new.response c.read.result same says no_want

pub loop-self-preserved : goal.loop-self-preserved
loop-self-preserved c =
    let file = c.self.inside.file.now in
    let rest = c.self.inside.rest.now in
    let old : Reading = record { file = file; rest = rest } in
    let is : c.loop-self.self ≡ old = search rules in
    let body = c.in-Frame.body.now in
    let after = c.in-Frame.after.now in
    let next = c.in-Frame.ensures.front in
    let size = frame_size rest body after c.in-Frame.kind next in record {
      file = ap (λ (r : Reading). r.file) (sym is) ∙ c.loop-self.invariant.file;
      shorter = omega (arith, c.loop-self.invariant.shorter, size, ap (λ (r : Reading). length r.rest) is);
      stands = λ given has.
          given_past old body after c.in-Frame.kind given (subst (λ (r : Reading). HasGiven r given) is (c.loop-self.invariant.stands given has)) next
          c.if-kind-eq-MESSAGE.false;
    }

pub returns-clause-end : goal.returns-clause-end
returns-clause-end c = λ given has no_want.
    let none : length c.loop-self.self.rest ≡ 0 = search rules in
    let says = says_all c.loop-self.self given c.args.response.now (c.loop-self.invariant.stands given has) none in
    end_exact c.args.self.now.file c.loop-self.self given c.args.response.now End c.loop-self.invariant.file says no_want

pub returns-clause-bad : goal.returns-clause-bad
returns-clause-bad c = λ given at has no_want.
    let none : length c.loop-self.self.rest ≡ 0 = search rules in
    let says = says_all c.loop-self.self given c.args.response.now (c.loop-self.invariant.stands given has) none in
    bad_exact c.args.self.now.file c.loop-self.self given at c.args.response.now End c.loop-self.invariant.file says no_want
