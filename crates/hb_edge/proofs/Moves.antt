-- What calls leave of a link: none, and some after others.
use Rattle.std.proofs.Common.{inl, inr, ℕ, ◌≤◌, List, [], ◌++◌, Option, Some, refl, sym, ap, ◌∙◌, append_assoc, arith}
use Rattle.std.specs.List.{fold}
use Rattle.std.proofs.lemmas.List.{append-nil}
use Rattle.std.proofs.lemmas.List.Sums.{fold-append}
use Rattle.hb_edge.specs.Causes.{Rose}
use Rattle.hb_edge.specs.Link.{Call, Held, Shown, IsShownLater, IsLeft, HasMoved}

pub rose_on : (a b c d : ℕ) → a ≤ b → c ≤ d → Rose b c → Rose a d
rose_on a b c d before after rose = omega (arith, before, after, rose)

shown_both : (a b c : Shown) → IsShownLater a b → IsShownLater b c → IsShownLater a c
shown_both a b c first second = record {
  faults = omega (arith, first.faults, second.faults);
  read_waits = omega (arith, first.read_waits, second.read_waits);
  write_waits = omega (arith, first.write_waits, second.write_waits);
  refusals = omega (arith, first.refusals, second.refusals);
  key = second.key ∙ first.key;
}

shown_same : (a : Shown) → IsShownLater a a
shown_same a = record { faults = omega arith; read_waits = omega arith; write_waits = omega arith; refusals = omega arith; key = refl }

-- calls, and more of them
left_both : {A : Type 0} (after : A → Call → A) (a b c : A) → IsLeft after a b → IsLeft after b c → IsLeft after a c
left_both after a b c first second =
    (first.0 ++ second.0, second.1 ∙ ap (λ x. fold after x second.0) first.1 ∙ sym (fold-append after a first.0 second.0))

-- no call
pub moved_none : {A Fixed : Type 0} (shown : A → Shown) (held : A → Option Held) (after : A → Call → A) (fixed : A → Fixed) (l : A)
    → HasMoved shown held after fixed l l [] []
moved_none shown held after fixed l = record {
  later = shown_same (shown l);
  holds = λ h is. (h.unread, refl, is ∙ ap (λ (t : List ℕ). Some (record h { taken = t })) (sym (append-nil h.taken)));
  left = λ h is. inl ([], refl);
  stays = refl;
}

-- some calls after others
pub moved_more : {A Fixed : Type 0} (shown : A → Shown) (held : A → Option Held) (after : A → Call → A) (fixed : A → Fixed) (a b c : A) (given more_given taken more_taken : List ℕ)
    → HasMoved shown held after fixed a b given taken → HasMoved shown held after fixed b c more_given more_taken
    → HasMoved shown held after fixed a c (given ++ more_given) (taken ++ more_taken)
moved_more shown held after fixed a b c given more_given taken more_taken first second =
    let sa : Shown = shown a in
    let sb : Shown = shown b in
    let sc : Shown = shown c in record {
      later = shown_both sa sb sc first.later second.later;
      holds = λ h is.
          let f = first.holds h is in
          let g = second.holds (record h { taken = h.taken ++ taken; unread = f.0 }) f.2 in (
            g.0,
            f.1 ∙ ap (λ (u : List ℕ). given ++ u) g.1 ∙ sym (append_assoc given more_given g.0),
            g.2 ∙ ap (λ (t : List ℕ). Some (record h { taken = t; unread = g.0 })) (append_assoc h.taken taken more_taken),
          );
      left = λ h is. elim (first.left h is) [
        | inl one ↦
            let f = first.holds h is in
            elim (second.left (record h { taken = h.taken ++ taken; unread = f.0 }) f.2) [
              | inl two ↦ inl (left_both after a b c one two)
              | inr rose ↦ inr (rose_on sa.refusals sb.refusals sc.refusals sc.refusals first.later.refusals (omega arith) rose)
            ]
        | inr rose ↦ inr (rose_on sa.refusals sa.refusals sb.refusals sc.refusals (omega arith) second.later.refusals rose)
      ];
      stays = second.stays ∙ first.stays;
    }
