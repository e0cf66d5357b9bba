use Rattle.std.proofs.Common.{◌≡◌, ℕ, List, Some, Ok, ap, subst, sym}
use Rattle.hb_time.specs.Texts.{SpellsStamp}
use Rattle.hb_time.proofs.reading.read_rfc3339.Goals as goal

pub returns-in-Some : goal.returns-in-Some
returns-in-Some c =
    let text = c.as_bytes.ensures.value in
    record {
      exact = λ stamp.
          let exact = c.in-Some.ensures.exact stamp in (
            λ e. let same : c.in-Some.stamp ≡ stamp = cc in subst (λ (l : List ℕ). SpellsStamp l stamp) text (exact.0 (ap Some same)),
            λ h. let found = exact.1 (subst (λ (l : List ℕ). SpellsStamp l stamp) (sym text) h) in let same : c.in-Some.stamp ≡ stamp = cc in ap Ok same,
          );
    }

pub returns-in-None : goal.returns-in-None
returns-in-None c =
    let text = c.as_bytes.ensures.value in
    record {
      exact = λ stamp.
          let exact = c.in-None.ensures.exact stamp in
          (λ e. absurd cc, λ h. let found = exact.1 (subst (λ (l : List ℕ). SpellsStamp l stamp) (sym text) h) in absurd cc);
    }
