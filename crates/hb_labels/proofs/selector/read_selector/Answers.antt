use Rattle.std.proofs.Common.{sym, ap, ◌∙◌, subst, Ok, Err, inl, inr, List, ℕ}
use Rattle.hb_labels.specs.Reading.{selector_of, Fails}
use Rattle.hb_labels.proofs.Requirements.{selector_sound, selector_one, fault_only}
use Rattle.hb_labels.proofs.selector.read_selector.Goals as goal

pub returns-in-Ok-clause-ok : goal.returns-in-Ok-clause-ok
returns-in-Ok-clause-ok c = selector_sound c.args.text.now c.in-Ok.requirements (sym (ap selector_of c.as_bytes.ensures.value) ∙ c.in-Ok.ensures)

pub returns-in-Ok-clause-only : goal.returns-in-Ok-clause-only
returns-in-Ok-clause-only c = λ rs h.
    let own = selector_sound c.args.text.now c.in-Ok.requirements (sym (ap selector_of c.as_bytes.ensures.value) ∙ c.in-Ok.ensures) in
    inl (ap Ok (selector_one c.args.text.now c.in-Ok.requirements rs own h))

pub returns-in-Err-clause-only : goal.returns-in-Err-clause-only
returns-in-Err-clause-only c = λ rs h.
    let fails = subst (λ (t : List ℕ). Fails c.in-Err.fault (selector_of t)) c.as_bytes.ensures.value c.in-Err.ensures in
    inr (ap Err (fault_only c.args.text.now rs c.in-Err.fault fails h))

pub returns-in-Err-clause-bad : goal.returns-in-Err-clause-bad
returns-in-Err-clause-bad c = λ e rs h.
    let fails = subst (λ (t : List ℕ). Fails c.in-Err.fault (selector_of t)) c.as_bytes.ensures.value c.in-Err.ensures in
    let memory = fault_only c.args.text.now rs c.in-Err.fault fails h in absurd cc
