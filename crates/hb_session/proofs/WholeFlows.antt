-- How many flows are among the first and the last events of a list.
use Rattle.std.proofs.Common.{◌≡◌, ◌⊎◌, inl, inr, ℕ, zero, suc, ◌+◌, ◌-◌, ◌<◌, ◌≤◌, min, Bool, true, false, cond, List, [], ◌∷◌, ◌++◌, length, length-append, take, drop, refl, sym, ap, ◌∙◌, arith}
use Rattle.std.specs.Prelude.{nat_lt, nat_le, if◌then◌else◌}
use Rattle.std.specs.List.{AllByRecursion, filter}
use Rattle.std.proofs.Math.Seq.{take-append_seam, drop-append_seam}
use Rattle.std.proofs.lemmas.List.Elements.{filter-append}
use Rattle.hb_api.specs.declared.request.GetFlowsRequest.{GetFlowsRequest}
use Rattle.hb_session.specs.Openings.{are_enough}
use Rattle.hb_session.specs.Window.{window}
use Rattle.std.proofs.lemmas.Bool.{and_from, and_right, cases_lt, le-leb, lt-leb, lt-ltb}
use Rattle.std.proofs.lemmas.List.{take_all, take-append-drop}
use Rattle.hb_flow.specs.declared.event.Event.{Event}
use Rattle.hb_session.specs.Events.{is_flow, flows}
use Rattle.hb_session.proofs.Replies.{flows_more}

-- one event is one flow at most
one_most : (b : Bool) → cond b 1 0 ≤ 1
one_most true = omega arith
one_most false = omega arith

-- an event and then more
with_one : (e : Event) (es : List Event) → flows (e ∷ es) ≡ flows es + cond (is_flow e) 1 0
with_one e es = flows_more (e ∷ []) es ∙ omega arith

-- and one that passes
with_passing : (b : Bool) (e : Event) (es : List Event) → flows (if b then e ∷ es else es) ≡ flows es + cond b (cond (is_flow e) 1 0) 0
with_passing true e es = with_one e es
with_passing false e es = omega arith

passing_most : (b : Bool) (e : Event) → cond b (cond (is_flow e) 1 0) 0 ≤ 1
passing_most true e = one_most (is_flow e)
passing_most false e = omega arith

module _ (p : Event → Bool) where
  take_step : (es : List Event) (c : ℕ) → flows (filter p (take (suc c) es)) ≤ flows (filter p (take c es)) + 1
  take_step [] zero = omega arith
  take_step [] (suc c) = omega arith
  take_step (e ∷ es) zero = omega (arith, with_passing (p e) e [], passing_most (p e) e)
  take_step (e ∷ es) (suc c) =
      omega (arith, with_passing (p e) e (filter p (take (suc c) es)), with_passing (p e) e (filter p (take c es)), take_step es c)

  drop_step : (es : List Event) (c : ℕ) → flows (filter p (drop c es)) ≤ flows (filter p (drop (suc c) es)) + 1
  drop_step [] zero = omega arith
  drop_step [] (suc c) = omega arith
  drop_step (e ∷ es) zero = omega (arith, with_passing (p e) e (filter p es), passing_most (p e) e)
  drop_step (e ∷ es) (suc c) = drop_step es c

  -- the least front with as many flows as are asked for has no more of them
  pub front_exact : (es : List Event) (count n : ℕ) → 0 < n → ((m : ℕ) → m < count → flows (filter p (take m es)) < n) → n ≤ flows (filter p (take count es))
      → flows (filter p (take count es)) ≡ n
  front_exact es zero n some before enough = absurd (omega (arith, some, enough))
  front_exact es (suc c) n some before enough = let few = before c (omega arith) in omega (arith, few, enough, take_step es c)

  -- nor has the least back
  pub back_exact : (es : List Event) (start n : ℕ) → ((m : ℕ) → start < m → flows (filter p (drop m es)) < n) → n ≤ flows (filter p (drop start es))
      → flows (filter p (drop start es)) ≡ n
  back_exact es start n later enough = let few = later (suc start) (omega arith) in omega (arith, few, enough, drop_step es start)

  -- the least front that is all has no more of them either
  front_most : (es : List Event) (count n : ℕ) → ((m : ℕ) → m < count → flows (filter p (take m es)) < n) → flows (filter p (take count es)) ≤ n
  front_most es zero n before = omega arith
  front_most es (suc c) n before = let few = before c (omega arith) in omega (arith, few, take_step es c)

-- ---- where all events are flows

abbrev pub AreFlows : List Event → Type 0
AreFlows es = AllByRecursion (λ e. is_flow e ≡ true) es

one_flow : (e : Event) (es : List Event) → is_flow e ≡ true → flows (e ∷ es) ≡ suc (flows es)
one_flow e es is = with_one e es ∙ ap (λ (b : Bool). flows es + cond b 1 0) is ∙ omega arith

-- one that passes is counted
counted : (b : Bool) (e : Event) (es : List Event) → is_flow e ≡ true → flows es ≡ length es → flows (if b then e ∷ es else es) ≡ length (if b then e ∷ es else es)
counted true e es is are = one_flow e es is ∙ ap suc are
counted false e es is are = are

module _ (p : Event → Bool) where
  take_flows : (es : List Event) (c : ℕ) → AreFlows es → flows (filter p (take c es)) ≡ length (filter p (take c es))
  take_flows [] zero are = refl
  take_flows [] (suc c) are = refl
  take_flows (e ∷ es) zero are = refl
  take_flows (e ∷ es) (suc c) are = counted (p e) e (filter p (take c es)) are.0 (take_flows es c are.1)

  all_flows : (es : List Event) → AreFlows es → flows (filter p es) ≡ length (filter p es)
  all_flows [] are = refl
  all_flows (e ∷ es) are = counted (p e) e (filter p es) are.0 (all_flows es are.1)

  drop_flows : (es : List Event) (c : ℕ) → AreFlows es → flows (filter p (drop c es)) ≡ length (filter p (drop c es))
  drop_flows es zero are = all_flows es are
  drop_flows [] (suc c) are = refl
  drop_flows (e ∷ es) (suc c) are = drop_flows es c are.1

  both_parts : (es : List Event) (c : ℕ) → filter p es ≡ filter p (take c es) ++ filter p (drop c es)
  both_parts es c = ap (filter p) (sym (take-append-drop c es)) ∙ filter-append p (take c es) (drop c es)

  -- the least front with as many flows as are asked for, or the whole, has as many events
  pub front_flows : (es : List Event) (count n : ℕ) → AreFlows es → ((m : ℕ) → m < count → flows (filter p (take m es)) < n)
      → (take count es ≡ es) ⊎ (flows (filter p (take count es)) ≡ n) → filter p (take count es) ≡ take n (filter p es)
  front_flows es count n are before (inl whole) =
      let all : filter p (take count es) ≡ filter p es = ap (filter p) whole in
      all ∙ sym (take_all n (filter p es) (omega (arith, front_most p es count n before, take_flows es count are, ap length all)))
  front_flows es count n are before (inr enough) =
      let size : length (filter p (take count es)) ≡ n = sym (take_flows es count are) ∙ enough in
      sym (ap (take n) (both_parts es count) ∙ ap (λ (m : ℕ). take m (filter p (take count es) ++ filter p (drop count es))) (sym size)
      ∙ take-append_seam (filter p (take count es)) (filter p (drop count es)))

  -- and so has the least back
  pub back_flows : (es : List Event) (start n : ℕ) → AreFlows es → ((m : ℕ) → start < m → flows (filter p (drop m es)) < n)
      → (start ≡ 0) ⊎ (flows (filter p (drop start es)) ≡ n) → filter p (drop start es) ≡ window n (filter p es)
  back_flows es start n are later (inl none) =
      let all : filter p (drop start es) ≡ filter p es = ap (λ (m : ℕ). filter p (drop m es)) none in
      let few = later 1 (omega (arith, none)) in
      let from : length (filter p es) - min (length (filter p es)) n ≡ 0 = omega (arith, few, drop_step p es 0, all_flows es are) in
      all ∙ sym (ap (λ (m : ℕ). drop m (filter p es)) from)
  back_flows es start n are later (inr enough) =
      let front = filter p (take start es) in
      let back = filter p (drop start es) in
      let size : length back ≡ n = sym (drop_flows es start are) ∙ enough in
      let from : length (filter p es) - min (length (filter p es)) n ≡ length front = omega (arith, ap length (both_parts es start), length-append front back, size) in
      sym (ap (λ (m : ℕ). drop m (filter p es)) from ∙ ap (drop (length front)) (both_parts es start) ∙ drop-append_seam front back)

-- ---- what it means to be enough

pub few_of : (r : GetFlowsRequest) (count : ℕ) → 0 < r.number → are_enough r count ≡ false → count < r.number
few_of r count some not =
    elim (cases_lt count r.number) [
      | inl few ↦ few
      | inr more ↦ absurd (
          let all : are_enough r count ≡ true = and_from (nat_lt 0 r.number) (nat_le r.number count) (lt-ltb 0 r.number some) (le-leb r.number count more) in cc
          )
    ]

pub enough_of : (r : GetFlowsRequest) (count : ℕ) → are_enough r count ≡ true → r.number ≤ count
enough_of r count is =
    elim (cases_lt count r.number) [
      | inl few ↦ absurd (
          let none : are_enough r count ≡ false = and_right (nat_lt 0 r.number) (nat_le r.number count) (lt-leb r.number count few) in cc
          )
      | inr more ↦ more
    ]
