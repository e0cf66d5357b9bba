-- Read one body after another, the member of the oneof that is held is the one that counts.
use Rattle.std.proofs.Common.{◌≡◌, ◌⊎◌, ℕ, Bool, true, false, eqb, ◌&&◌, List, [], ◌∷◌, ◌++◌, map, Option, Some, None, refl, sym, ap, subst, ◌∙◌, append_assoc, arith, inl, inr}
use Rattle.std.specs.Prelude.{◌==◌, if◌then◌else◌}
use Rattle.std.specs.Option.{option_map}
use Rattle.std.specs.List.{AllByRecursion, flat_map, list_all}
use Rattle.std.proofs.lemmas.Bool.{eq-eqb}
use Rattle.std.proofs.lemmas.List.{append-nil}
use Rattle.hb_flow.specs.Fields.{last_run}
use Rattle.hb_flow.specs.Messages.{read_member, member_number}
use Rattle.hb_flow.specs.Steps.{no_flow, no_lost_event, flow_after, flow_merged, lost_event_after, lost_event_merged, flow_held, status_held, lost_events_held, flow_next, status_next, lost_events_next}
use Rattle.hb_flow.specs.declared.flow.Flow.{Flow}
use Rattle.hb_flow.specs.declared.lost_event.LostEvent.{LostEvent}
use Rattle.hb_flow.specs.declared.response_types.ResponseTypes.{ResponseTypes}
use Rattle.hb_flow.specs.declared.response_types.ResponseTypes.TheVariants as member
use Rattle.hb_flow.proofs.Merging.{merged}
use Rattle.hb_flow.proofs.Runs.{Alike, all_alike}
use Rattle.hb_flow.proofs.ByNumber.{FlowJoins, flows_are}
use Rattle.hb_flow.proofs.LostEvents.{LostJoins, lost_events_are}

-- ---- one body after another

-- the member that is held after one more body of a member with this number
abbrev pub next : ℕ → Option ResponseTypes → List ℕ → ResponseTypes
next number held body = if number == 1 then flow_next held body else if number == 2 then status_next held body else lost_events_next held body

-- and after the bodies of many
abbrev pub held_after : Option ResponseTypes → List (ℕ × List ℕ) → Option ResponseTypes
held_after held [] = held
held_after held (m ∷ ms) = held_after (Some (next m.0 held m.1)) ms

-- the number of the member that is held
abbrev number_held : Option ResponseTypes → ℕ
number_held None = 0
number_held (Some m) = member_number m

-- ---- bodies of one member

flow_run : (f : Flow) (ms : List (ℕ × List ℕ)) → Alike 1 ms → held_after (Some (member.Flow f)) ms ≡ option_map member.Flow (merged flow_after no_flow (Some f) (map (λ m. m.1) ms))
flow_run f [] same = refl
flow_run f (m ∷ ms) same =
    ap (λ (n : ℕ). held_after (Some (next n (Some (member.Flow f)) m.1)) ms) same.0 ∙ flow_run (flow_merged (Some f) m.1) ms same.1

status_run : (status : List ℕ) (ms : List (ℕ × List ℕ)) → Alike 2 ms → held_after (Some (member.NodeStatus status)) ms ≡ Some (member.NodeStatus (status ++ flat_map (λ b. b) (map (λ m. m.1) ms)))
status_run status [] same = ap (λ (b : List ℕ). Some (member.NodeStatus b)) (sym (append-nil status))
status_run status (m ∷ ms) same =
    ap (λ (n : ℕ). held_after (Some (next n (Some (member.NodeStatus status)) m.1)) ms) same.0 ∙ status_run (status ++ m.1) ms same.1
    ∙ ap (λ (b : List ℕ). Some (member.NodeStatus b)) (append_assoc status m.1 (flat_map (λ b. b) (map (λ x. x.1) ms)))

lost_run : (e : LostEvent) (ms : List (ℕ × List ℕ)) → Alike 3 ms → held_after (Some (member.LostEvents e)) ms ≡ option_map member.LostEvents (merged lost_event_after no_lost_event (Some e) (map (λ m. m.1) ms))
lost_run e [] same = refl
lost_run e (m ∷ ms) same =
    ap (λ (n : ℕ). held_after (Some (next n (Some (member.LostEvents e)) m.1)) ms) same.0 ∙ lost_run (lost_event_merged (Some e) m.1) ms same.1

-- ---- a member replaces another

no_flow_held : (held : Option ResponseTypes) → (number_held held ≡ 1 → ⊥) → flow_held held ≡ None
no_flow_held None other = refl
no_flow_held (Some (member.Flow f)) other = absurd (other refl)
no_flow_held (Some (member.NodeStatus status)) other = refl
no_flow_held (Some (member.LostEvents e)) other = refl

no_status_held : (held : Option ResponseTypes) → (number_held held ≡ 2 → ⊥) → status_held held ≡ []
no_status_held None other = refl
no_status_held (Some (member.Flow f)) other = refl
no_status_held (Some (member.NodeStatus status)) other = absurd (other refl)
no_status_held (Some (member.LostEvents e)) other = refl

no_lost_held : (held : Option ResponseTypes) → (number_held held ≡ 3 → ⊥) → lost_events_held held ≡ None
no_lost_held None other = refl
no_lost_held (Some (member.Flow f)) other = refl
no_lost_held (Some (member.NodeStatus status)) other = refl
no_lost_held (Some (member.LostEvents e)) other = absurd (other refl)

-- ---- the last run

-- an occurrence with a number of the oneof, whose body joins
abbrev pub MemberJoins : ℕ × List ℕ → Type 0
MemberJoins m = ((m.0 ≡ 1) × FlowJoins m.1) ⊎ ((m.0 ≡ 2) ⊎ ((m.0 ≡ 3) × LostJoins m.1))

-- what a run reads as
abbrev pub read_run : ℕ × List (List ℕ) → ResponseTypes
read_run r = read_member r.0 (flat_map (λ b. b) r.1)

-- the bodies of a run join
flows_join : (ms : List (ℕ × List ℕ)) → Alike 1 ms → AllByRecursion MemberJoins ms → AllByRecursion FlowJoins (map (λ m. m.1) ms)
flows_join [] same join = tt
flows_join (m ∷ ms) same join = (flow_of_one join.0, flows_join ms same.1 join.1)
  where
    flow_of_one : MemberJoins m → FlowJoins m.1
    flow_of_one (inl at) = at.1
    flow_of_one (inr (inl at)) = absurd (omega (arith, same.0, at))
    flow_of_one (inr (inr at)) = absurd (omega (arith, same.0, at.0))

losts_join : (ms : List (ℕ × List ℕ)) → Alike 3 ms → AllByRecursion MemberJoins ms → AllByRecursion LostJoins (map (λ m. m.1) ms)
losts_join [] same join = tt
losts_join (m ∷ ms) same join = (lost_of_one join.0, losts_join ms same.1 join.1)
  where
    lost_of_one : MemberJoins m → LostJoins m.1
    lost_of_one (inl at) = absurd (omega (arith, same.0, at.0))
    lost_of_one (inr (inl at)) = absurd (omega (arith, same.0, at))
    lost_of_one (inr (inr at)) = at.1

module _ (held : Option ResponseTypes) (body : List ℕ) (ms : List (ℕ × List ℕ)) where
  flows_read : (number_held held ≡ 1 → ⊥) → Alike 1 ms → AllByRecursion FlowJoins (map (λ m. m.1) ((1, body) ∷ ms)) → held_after held ((1, body) ∷ ms) ≡ Some (read_run (1, map (λ m. m.1) ((1, body) ∷ ms)))
  flows_read other same join =
      ap (λ (f : Option Flow). held_after (Some (member.Flow (flow_merged f body))) ms) (no_flow_held held other)
      ∙ flow_run (flow_merged None body) ms same ∙ ap (option_map member.Flow) (flows_are (body ∷ map (λ m. m.1) ms) join)

  status_read : (number_held held ≡ 2 → ⊥) → Alike 2 ms → held_after held ((2, body) ∷ ms) ≡ Some (read_run (2, map (λ m. m.1) ((2, body) ∷ ms)))
  status_read other same =
      ap (λ (status : List ℕ). held_after (Some (member.NodeStatus (status ++ body))) ms) (no_status_held held other) ∙ status_run body ms same

  losts_read : (number_held held ≡ 3 → ⊥) → Alike 3 ms → AllByRecursion LostJoins (map (λ m. m.1) ((3, body) ∷ ms)) → held_after held ((3, body) ∷ ms) ≡ Some (read_run (3, map (λ m. m.1) ((3, body) ∷ ms)))
  losts_read other same join =
      ap (λ (e : Option LostEvent). held_after (Some (member.LostEvents (lost_event_merged e body))) ms) (no_lost_held held other)
      ∙ lost_run (lost_event_merged None body) ms same ∙ ap (option_map member.LostEvents) (lost_events_are (body ∷ map (λ m. m.1) ms) join)

-- a run, after another member
run_read : (held : Option ResponseTypes) (number : ℕ) (body : List ℕ) (ms : List (ℕ × List ℕ)) → (number_held held ≡ number → ⊥) → Alike number ms → MemberJoins (number, body) → AllByRecursion MemberJoins ms
    → held_after held ((number, body) ∷ ms) ≡ Some (read_run (number, map (λ m. m.1) ((number, body) ∷ ms)))
run_read held number body ms other same (inl at) join =
    subst (λ (n : ℕ). (number_held held ≡ n → ⊥) → Alike n ms → held_after held ((n, body) ∷ ms) ≡ Some (read_run (n, map (λ m. m.1) ((n, body) ∷ ms)))) (sym at.0)
    (λ other same. flows_read held body ms other same (at.1, flows_join ms same join)) other same
run_read held number body ms other same (inr (inl at)) join =
    subst (λ (n : ℕ). (number_held held ≡ n → ⊥) → Alike n ms → held_after held ((n, body) ∷ ms) ≡ Some (read_run (n, map (λ m. m.1) ((n, body) ∷ ms)))) (sym at)
    (λ other same. status_read held body ms other same) other same
run_read held number body ms other same (inr (inr at)) join =
    subst (λ (n : ℕ). (number_held held ≡ n → ⊥) → Alike n ms → held_after held ((n, body) ∷ ms) ≡ Some (read_run (n, map (λ m. m.1) ((n, body) ∷ ms)))) (sym at.0)
    (λ other same. losts_read held body ms other same (at.1, losts_join ms same join)) other same

-- the member that is held has the number of the last occurrence
number_next : (held : Option ResponseTypes) (number : ℕ) (body : List ℕ) → MemberJoins (number, body) → member_number (next number held body) ≡ number
number_next held number body (inl at) = ap (λ (n : ℕ). member_number (next n held body)) at.0 ∙ sym at.0
number_next held number body (inr (inl at)) = ap (λ (n : ℕ). member_number (next n held body)) at ∙ sym at
number_next held number body (inr (inr at)) = ap (λ (n : ℕ). member_number (next n held body)) at.0 ∙ sym at.0

-- where the member that is held has the number of the next occurrence, another one comes later
abbrev Breaks : Option ResponseTypes → ℕ → List (ℕ × List ℕ) → Type 0
Breaks held n ms = number_held held ≡ n → list_all (λ m. m.0 == n) ms ≡ false

held_from : (held : Option ResponseTypes) (m : ℕ × List ℕ) (ms : List (ℕ × List ℕ)) (b : Bool) → list_all (λ x. x.0 == m.0) ms ≡ b → Breaks held m.0 ms → MemberJoins m → AllByRecursion MemberJoins ms
    → held_after held (m ∷ ms) ≡ option_map read_run (last_run (m ∷ ms))
held_from held m ms true e breaks joins join = rw e (run_read held m.0 m.1 ms (λ same. let never = breaks same in absurd cc) (all_alike m.0 ms e) joins join)
held_from held m [] false e breaks joins join = absurd cc
held_from held m (x ∷ xs) false e breaks joins join =
    rw e (held_from (Some (next m.0 held m.1)) x xs (list_all (λ y. y.0 == x.0) xs) refl (λ same. breaks_on (sym (number_next held m.0 m.1 joins) ∙ same)) join.0 join.1)
  where
    breaks_on : m.0 ≡ x.0 → list_all (λ y. y.0 == x.0) xs ≡ false
    breaks_on same =
        let here : eqb x.0 x.0 ≡ true = eq-eqb x.0 x.0 refl in
        let all : (eqb x.0 x.0 && list_all (λ y. y.0 == x.0) xs) ≡ false = subst (λ (n : ℕ). (eqb x.0 n && list_all (λ y. y.0 == n) xs) ≡ false) same e in
        rw here at all

-- of all the occurrences
pub held_is : (ms : List (ℕ × List ℕ)) → AllByRecursion MemberJoins ms → held_after None ms ≡ option_map read_run (last_run ms)
held_is [] join = refl
held_is (m ∷ ms) join = held_from None m ms (list_all (λ x. x.0 == m.0) ms) refl (λ same. absurd (not_zero join.0 same)) join.0 join.1
  where
    not_zero : MemberJoins m → 0 ≡ m.0 → ⊥
    not_zero (inl at) same = omega (arith, at.0, same)
    not_zero (inr (inl at)) same = omega (arith, at, same)
    not_zero (inr (inr at)) same = omega (arith, at.0, same)
