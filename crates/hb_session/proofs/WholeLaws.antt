-- The whole reply by the events of the window.
use Rattle.std.proofs.Common.{◌≡◌, inl, inr, ℕ, zero, suc, ◌<◌, Bool, true, false, not, ◌&&◌, List, take, refl, ap, ◌∙◌, arith}
use Rattle.std.specs.Prelude.{nat_lt, nat_le}
use Rattle.std.proofs.lemmas.Bool.{and_from, and_right, lt-ltb, not_from_false, not_from_true}
use Rattle.hb_flow.specs.declared.event.Event.{Event}
use Rattle.hb_session.specs.Window.{window}
use Rattle.hb_session.specs.Openings.{Opening, is_backward}
use Rattle.hb_session.specs.Events.{passes, flows}
use Rattle.hb_session.specs.Whole.{IsReply, HasEvents, passing, frames_of, GivesFirst, GivesLast}
use Rattle.hb_session.proofs.WholeBacks.{GivesBack, gives_back}
use Rattle.hb_session.proofs.WholeEvents.{holds}
use Rattle.hb_session.proofs.WholeFlows.{AreFlows, front_exact, back_exact, front_flows, back_flows, few_of, enough_of}
use Rattle.hb_session.proofs.WholeFronts.{is_enough, GivesFront, gives_front}

module _ (o : Opening) (cap : ℕ) (log : List (List ℕ)) (events : List Event) (bytes : List ℕ) (has : HasEvents o log events) (is : IsReply o cap log bytes) where
  front_of : is_backward o.request ≡ false → GivesFront o events bytes
  front_of way = gives_front cap o log events way is.alone (holds o log events has) bytes is

  -- ---- all

  -- where none are asked for by number, it is read forwards, and nothing is enough
  forwards_0 : (n : ℕ) (first : Bool) → n ≡ 0 → (nat_lt 0 n && not first) ≡ false
  forwards_0 zero first none = refl
  forwards_0 (suc n) first none = absurd (omega (arith, none))

  enough_0 : (n count : ℕ) → n ≡ 0 → (nat_lt 0 n && nat_le n count) ≡ false
  enough_0 zero count none = refl
  enough_0 (suc n) count none = absurd (omega (arith, none))

  pub whole_reply : o.request.number ≡ 0 → bytes ≡ frames_of o (passing o events)
  whole_reply none =
      let s = o.request in
      let front = front_of (forwards_0 s.number s.first none) in
      let all : take front.count events ≡ events =
      elim front.ends [
        | inl all ↦ all
        | inr enough ↦ absurd (let few : is_enough s (passing o (take front.count events)) ≡ false = enough_0 s.number (flows (passing o (take front.count events))) none in cc)
      ] in
      front.whole ∙ ap (λ (es : List Event). frames_of o (passing o es)) all

  -- ---- the first ones

  -- where the first ones are asked for, it is read forwards
  forwards_first : (n : ℕ) (first : Bool) → first ≡ true → (nat_lt 0 n && not first) ≡ false
  forwards_first n first is = and_right (nat_lt 0 n) (not first) (not_from_true first is)

  pub first_reply : 0 < o.request.number → o.request.first ≡ true → GivesFirst o events bytes
  first_reply some first =
      let s = o.request in
      let front = front_of (forwards_first s.number s.first first) in
      let before : (m : ℕ) → m < front.count → flows (passing o (take m events)) < s.number =
      λ m less. few_of s (flows (passing o (take m events))) some (front.before m less) in (
        front.count,
        front.whole,
        before,
        elim front.ends [
          | inl whole ↦ inl whole
          | inr enough ↦ inr (front_exact (passes s) events front.count s.number some before (enough_of s (flows (passing o (take front.count events))) enough))
        ],
      )

  pub first_flows : 0 < o.request.number → o.request.first ≡ true → AreFlows events → bytes ≡ frames_of o (take o.request.number (passing o events))
  first_flows some first are =
      let given = first_reply some first in
      given.1 ∙ ap (frames_of o) (front_flows (passes o.request) events given.0 o.request.number are given.2 given.3)

  -- ---- the last ones

  -- where the last ones are asked for, it is read backwards
  backwards_last : (n : ℕ) (first : Bool) → 0 < n → first ≡ false → (nat_lt 0 n && not first) ≡ true
  backwards_last n first some is = and_from (nat_lt 0 n) (not first) (lt-ltb 0 n some) (not_from_false first is)

  pub last_reply : 0 < o.request.number → o.request.first ≡ false → GivesLast o events bytes
  last_reply some last =
      let s = o.request in
      let back : GivesBack o events bytes = gives_back cap o log events (backwards_last s.number s.first some last) is.alone some (holds o log events has) bytes is in (
        back.start,
        back.whole,
        back.later,
        elim back.ends [
          | inl whole ↦ inl whole
          | inr enough ↦ inr (back_exact (passes s) events back.start s.number back.later enough)
        ],
      )

  pub last_flows : 0 < o.request.number → o.request.first ≡ false → AreFlows events → bytes ≡ frames_of o (window o.request.number (passing o events))
  last_flows some last are =
      let given = last_reply some last in
      given.1 ∙ ap (frames_of o) (back_flows (passes o.request) events given.0 o.request.number are given.2 given.3)
