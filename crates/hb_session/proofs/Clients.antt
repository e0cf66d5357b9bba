-- What is heard of a client, and what stops a session for it.
use Rattle.std.proofs.Common.{◌≡◌, ◌≢◌, ◌↔◌, ◌⊎◌, inl, inr, ℕ, ◌+◌, ◌<◌, Bool, true, false, cond, ◌&&◌, List, [], ◌∷◌, ◌++◌, Option, Some, None, refl, sym, ap, ◌∙◌, append_assoc, arith, length, subst}
use Rattle.std.specs.Prelude.{◌==◌, nat_lt}
use Rattle.std.specs.Int.{w32, to_be_bytes}
use Rattle.std.specs.List.{flat_map}
use Rattle.std.proofs.lemmas.Bool.{cases_eq, eq-eqb, ne_eqb, lt-ltb, ltb-true}
use Rattle.std.proofs.lemmas.List.{append-nil}
use Rattle.hb_edge.specs.declared.link.Moved.{Moved}
use Rattle.hb_edge.specs.declared.link.Moved.TheVariants as moves
use Rattle.hb_frame.specs.Frames.{Frame as WholeFrame, frame, frame_bytes}
use Rattle.hb_frame.specs.Cut.{StartsFrame, IsUnfinished, HasBadKind, HasLongBody}
use Rattle.hb_frame.specs.Reader.{Reader, Answers, HasRead, HasGiven, HasStayed, GoesOn, place_of}
use Rattle.hb_frame.specs.declared.reader.Next.{Next}
use Rattle.hb_frame.specs.declared.reader.Next.TheVariants as next
use Rattle.hb_session.specs.declared.turn.InputFault.{InputFault}
use Rattle.hb_session.specs.declared.turn.InputFault.TheVariants as faults
use Rattle.hb_session.specs.declared.turn.Turn.{Turn}
use Rattle.hb_session.specs.declared.turn.Turn.TheVariants as turns
use Rattle.hb_session.specs.Clients.{Heard, fed, cancel, IsFault, Stops, is_for_client, IsFed, IsInputAfter, IsInputFor, IsEndedFor, IsStopped, HasAnswered, IsStoppedBy}
use Rattle.hb_session.proofs.Bools.{when_false, when_true}
use Rattle.hb_session.proofs.Replies.{some_same}

-- ---- the answer to what a frame reader gives next

abbrev pub is_end : Moved → Bool
is_end (moves.Took n) = false
is_end moves.NotYet = false
is_end moves.End = true
is_end moves.Failed = false

abbrev pub stop_for : Reader → Moved → Next → Option Turn
stop_for input last (next.Frame kind at size) = cond (kind == cancel) (Some turns.Cancelled) (Some (turns.BadInput (faults.Extra at)))
stop_for input last next.NeedMore = cond (is_end last && nat_lt 0 (length input.held)) (Some (turns.BadInput (faults.Cut input.place))) None
stop_for input last (next.BadKind at kind) = Some (turns.BadInput (faults.BadKind at kind))
stop_for input last (next.TooLong at size) = Some (turns.BadInput (faults.TooLong at size))

none_some : {A : Type 0} {x : A} → None ≡ Some x → ⊥
none_some is = absurd cc

-- what stops a session, by what comes next
frame_stops : (input : Reader) (last : Moved) (kind at size : ℕ) (answer : Turn) → Answers input (next.Frame kind at size)
    → stop_for input last (next.Frame kind at size) ≡ Some answer → Stops input last answer
frame_stops input last kind at size answer here is = elim (cases_eq kind cancel) [
  | inl same ↦
      let answered : turns.Cancelled ≡ answer = some_same (sym (when_true (kind == cancel) _ _ (eq-eqb kind cancel same)) ∙ is) in
      subst (Stops input last) answered
      (size, subst (λ (n : ℕ). Answers input (next.Frame cancel n size)) here.0 (subst (λ (k : ℕ). Answers input (next.Frame k at size)) same here))
  | inr other ↦
      let answered : turns.BadInput (faults.Extra at) ≡ answer = some_same (sym (when_false (kind == cancel) _ _ (ne_eqb kind cancel other)) ∙ is) in
      subst (Stops input last) answered (kind, size, other, here)
]

end_is : (last : Moved) → is_end last ≡ true → last ≡ moves.End
end_is (moves.Took n) is = absurd cc
end_is moves.NotYet is = absurd cc
end_is moves.End is = refl
end_is moves.Failed is = absurd cc

cut_stops : (input : Reader) (last : Moved) (answer : Turn) (ended some : Bool) → is_end last ≡ ended → nat_lt 0 (length input.held) ≡ some → Answers input next.NeedMore
    → cond (ended && some) (Some (turns.BadInput (faults.Cut input.place))) None ≡ Some answer → Stops input last answer
cut_stops input last answer true true end more here is =
    subst (Stops input last) (some_same is) (end_is last end, refl, ltb-true 0 (length input.held) more, here)
cut_stops input last answer true false end more here is = absurd (none_some is)
cut_stops input last answer false some end more here is = absurd (none_some is)

stops_by : (input : Reader) (last : Moved) (n : Next) (answer : Turn) → Answers input n → stop_for input last n ≡ Some answer → Stops input last answer
stops_by input last (next.Frame kind at size) answer here is = frame_stops input last kind at size answer here is
stops_by input last next.NeedMore answer here is = cut_stops input last answer (is_end last) (nat_lt 0 (length input.held)) refl refl here is
stops_by input last (next.BadKind at kind) answer here is = subst (Stops input last) (some_same is) here
stops_by input last (next.TooLong at size) answer here is = subst (Stops input last) (some_same is) here

-- and the other way, where nothing else comes next
fault_by : (input : Reader) (last : Moved) (n : Next) (fault : InputFault) → ((m : Next) → Answers input m → n ≡ m) → Stops input last (turns.BadInput fault)
    → stop_for input last n ≡ Some (turns.BadInput fault)
fault_by input last n (faults.BadKind at kind) only is = ap (stop_for input last) (only (next.BadKind at kind) is)
fault_by input last n (faults.TooLong at size) only is = ap (stop_for input last) (only (next.TooLong at size) is)
fault_by input last n (faults.NotCall at) only is = absurd is
fault_by input last n (faults.NotMessage at) only is = absurd is
fault_by input last n (faults.Cut at) only is =
    ap (stop_for input last) (only next.NeedMore is.3)
    ∙ ap (λ (m : Moved). cond (is_end m && nat_lt 0 (length input.held)) (Some (turns.BadInput (faults.Cut input.place))) None) is.0
    ∙ when_true (nat_lt 0 (length input.held)) _ _ (lt-ltb 0 (length input.held) is.2)
    ∙ ap (λ (n : ℕ). Some (turns.BadInput (faults.Cut n))) (sym is.1)
fault_by input last n (faults.Extra at) only (kind, size, other, is) =
    ap (stop_for input last) (only (next.Frame kind at size) is) ∙ when_false (kind == cancel) _ _ (ne_eqb kind cancel other)

answer_by : (input : Reader) (last : Moved) (n : Next) (answer : Turn) → ((m : Next) → Answers input m → n ≡ m) → Stops input last answer → stop_for input last n ≡ Some answer
answer_by input last n turns.Cancelled only (size, is) = ap (stop_for input last) (only (next.Frame cancel input.place size) is)
answer_by input last n (turns.BadInput fault) only is = fault_by input last n fault only is
answer_by input last n turns.More only is = absurd is
answer_by input last n turns.Idle only is = absurd is
answer_by input last n turns.Done only is = absurd is
answer_by input last n turns.LinkFault only is = absurd is
answer_by input last n turns.Spent only is = absurd is
answer_by input last n turns.NoMemory only is = absurd is

pub stops_exactly : (input : Reader) (last : Moved) (n : Next) (result : Option Turn) → ((m : Next) → (n ≡ m) ↔ Answers input m) → result ≡ stop_for input last n
    → (answer : Turn) → (result ≡ Some answer) ↔ Stops input last answer
stops_exactly input last n result exact is answer = (
  λ e. stops_by input last n answer ((exact n).0 refl) (sym is ∙ e),
  λ stops. is ∙ answer_by input last n answer (λ m here. (exact m).1 here) stops,
)

some_held : (held : List ℕ) → (held ≡ [] → ⊥) → nat_lt 0 (length held) ≡ true
some_held [] some = absurd (some refl)
some_held (b ∷ held) some = lt-ltb 0 (length (b ∷ held)) (omega arith)

none_held : (last : Moved) (held : List ℕ) (answer : Turn) → (last ≡ moves.End → held ≡ []) → cond (is_end last && nat_lt 0 (length held)) (Some answer) None ≡ None
none_held (moves.Took n) held answer whole = refl
none_held moves.NotYet held answer whole = refl
none_held moves.End held answer whole = ap (λ (h : List ℕ). cond (nat_lt 0 (length h)) (Some answer) None) (whole refl)
none_held moves.Failed held answer whole = refl

module _ (input : Reader) (last : Moved) (n : Next) where
  pub cancelled_for : (kind at size : ℕ) → n ≡ next.Frame kind at size → kind ≡ cancel → Some turns.Cancelled ≡ stop_for input last n
  cancelled_for kind at size is same = sym (ap (stop_for input last) is ∙ when_true (kind == cancel) _ _ (eq-eqb kind cancel same))

  pub extra_for : (kind at size : ℕ) → n ≡ next.Frame kind at size → kind ≢ cancel → Some (turns.BadInput (faults.Extra at)) ≡ stop_for input last n
  extra_for kind at size is other = sym (ap (stop_for input last) is ∙ when_false (kind == cancel) _ _ (ne_eqb kind cancel other))

  pub kind_for : (at kind : ℕ) → n ≡ next.BadKind at kind → Some (turns.BadInput (faults.BadKind at kind)) ≡ stop_for input last n
  kind_for at kind is = sym (ap (stop_for input last) is)

  pub long_for : (at size : ℕ) → n ≡ next.TooLong at size → Some (turns.BadInput (faults.TooLong at size)) ≡ stop_for input last n
  long_for at size is = sym (ap (stop_for input last) is)

  pub cut_for : (at : ℕ) → n ≡ next.NeedMore → last ≡ moves.End → at ≡ input.place → (input.held ≡ [] → ⊥) → Some (turns.BadInput (faults.Cut at)) ≡ stop_for input last n
  cut_for at is end place some =
      ap (λ (p : ℕ). Some (turns.BadInput (faults.Cut p))) place
      ∙ sym (ap (stop_for input last) is ∙ ap (λ (m : Moved). cond (is_end m && nat_lt 0 (length input.held)) (Some (turns.BadInput (faults.Cut input.place))) None) end
      ∙ when_true (nat_lt 0 (length input.held)) _ _ (some_held input.held some))

  pub none_for : n ≡ next.NeedMore → (last ≡ moves.End → input.held ≡ []) → None ≡ stop_for input last n
  none_for is whole = sym (ap (stop_for input last) is ∙ none_held last input.held (turns.BadInput (faults.Cut input.place)) whole)

-- a frame reader gave one frame at most
pub given_more : (new : Reader) (bytes : List ℕ) (given : List WholeFrame) (n : Next) → HasGiven new bytes given n → (more : List WholeFrame) × HasRead new bytes (given ++ more)
given_more new bytes given (next.Frame kind at size) has = (record { kind = kind; body = new.body } ∷ [], has)
given_more new bytes given next.NeedMore has = ([], subst (HasRead new bytes) (sym (append-nil given)) has.0)
given_more new bytes given (next.BadKind at kind) has = ([], subst (HasRead new bytes) (sym (append-nil given)) has.0)
given_more new bytes given (next.TooLong at size) has = ([], subst (HasRead new bytes) (sym (append-nil given)) has.0)

-- ---- what a turn leaves of a frame reader

-- an answer that the client's bytes give is for the client
for_client : (input : Reader) (last : Moved) (answer : Turn) → Stops input last answer → is_for_client answer ≡ true
for_client input last turns.Cancelled is = refl
for_client input last (turns.BadInput fault) is = refl
for_client input last turns.More is = absurd is
for_client input last turns.Idle is = absurd is
for_client input last turns.Done is = absurd is
for_client input last turns.LinkFault is = absurd is
for_client input last turns.Spent is = absurd is
for_client input last turns.NoMemory is = absurd is

-- it was fed a piece, and gave nothing
pub fed_reads : (old new : Reader) (piece : List ℕ) → IsFed old new piece → (bytes : List ℕ) (given : List WholeFrame) → HasRead old bytes given
    → HasRead new (bytes ++ piece) given
fed_reads old new piece is bytes given has = record {
  starts = record {
    fit = has.starts.fit;
    whole = ap (λ (b : List ℕ). b ++ piece) has.starts.whole ∙ append_assoc (flat_map frame_bytes given) old.held piece
        ∙ ap (λ (b : List ℕ). flat_map frame_bytes given ++ b) (sym is.0);
  };
  place = is.1 ∙ has.place;
}

pub fed_after : (old new : Reader) (piece : List ℕ) (answer : Turn) → is_for_client answer ≡ false → IsFed old new piece → IsInputAfter old new piece answer
fed_after old new piece answer other is = record {
  holds = λ _. (piece, [], sym (append-nil piece), is, λ _. refl);
  gave = λ client. absurd (let both : true ≡ false = sym client ∙ other in cc);
  reads = λ _ bytes given has. ([], subst (HasRead new (bytes ++ piece)) (sym (append-nil given)) (fed_reads old new piece is bytes given has));
}

pub fed_none : (old : Reader) → IsFed old old []
fed_none old = (sym (append-nil old.held), refl)

-- nothing was read, or it could not be kept
pub unfed_after : (old new : Reader) (piece : List ℕ) (answer : Turn) → is_for_client answer ≡ false → new ≡ old → (piece ≡ []) ⊎ (answer ≡ turns.NoMemory)
    → IsInputAfter old new piece answer
unfed_after old new piece answer other same (inl none) =
    subst (λ (p : List ℕ). IsInputAfter old new p answer) (sym none) (subst (λ (r : Reader). IsInputAfter old r [] answer) (sym same) (fed_after old old [] answer other (fed_none old)))
unfed_after old new piece answer other same (inr starved) = record {
  holds = λ _. ([], piece, refl, subst (λ (r : Reader). IsFed old r []) (sym same) (fed_none old), λ not. absurd (not starved));
  gave = λ client. absurd (let both : true ≡ false = sym client ∙ other in cc);
  reads = λ not. absurd (not starved);
}

-- it was fed the piece, and was asked for the next frame
pub asked_for : (old mid new : Reader) (piece : List ℕ) (last : Moved) (result : Option Turn) → mid ≡ fed old piece
    → (result ≡ None → (new.held ≡ mid.held) × (new.place ≡ mid.place))
    → HasAnswered mid new
    → ((bytes : List ℕ) (given : List WholeFrame) → HasRead mid bytes given → (more : List WholeFrame) × HasRead new bytes (given ++ more))
    → ((answer : Turn) → (result ≡ Some answer) ↔ Stops mid last answer) → IsInputFor old new piece result
asked_for old mid new piece last None is stays gave reads stops =
    (((stays refl).0 ∙ ap (λ (r : Reader). r.held) is), ((stays refl).1 ∙ ap (λ (r : Reader). r.place) is))
asked_for old mid new piece last (Some answer) is stays gave reads stops = record {
  holds = λ not. absurd (let both : true ≡ false = sym (for_client mid last answer ((stops answer).0 refl)) ∙ not in cc);
  gave = λ _. subst (λ (r : Reader). HasAnswered r new) is gave;
  reads = λ _ bytes given has. reads (bytes ++ piece) given (fed_reads old mid piece (ap (λ (r : Reader). r.held) is, ap (λ (r : Reader). r.place) is) bytes given has);
}

pub asked_ended : (old mid : Reader) (heard : Heard) (result : Option Turn) → mid ≡ fed old heard.piece → heard.last ≢ moves.Failed
    → ((answer : Turn) → (result ≡ Some answer) ↔ Stops mid heard.last answer) → IsEndedFor old heard result
asked_ended old mid heard result is fine stops = record {
  fault = (λ e. absurd ((stops turns.LinkFault).0 e), λ failed. absurd (fine failed));
  stops = λ _ _ answer. subst (λ (r : Reader). (result ≡ Some answer) ↔ Stops r heard.last answer) is (stops answer);
}

-- ---- what a turn answers

pub ended_some : (input : Reader) (heard : Heard) (answer : Turn) → IsEndedFor input heard (Some answer) → IsStopped heard answer ⊎ (answer ≡ turns.NoMemory)
ended_some input heard turns.LinkFault is = inl (inl (is.fault.0 refl))
ended_some input heard turns.NoMemory is = inr refl
ended_some input heard turns.Cancelled is = inl (inr refl)
ended_some input heard (turns.BadInput fault) is = inl (inr refl)
ended_some input heard turns.More is = absurd ((is.stops (λ e. absurd (let one = some_same e in cc)) (λ f. absurd (let one = some_same (is.fault.1 f) in cc)) turns.More).0 refl)
ended_some input heard turns.Idle is = absurd ((is.stops (λ e. absurd (let one = some_same e in cc)) (λ f. absurd (let one = some_same (is.fault.1 f) in cc)) turns.Idle).0 refl)
ended_some input heard turns.Done is = absurd ((is.stops (λ e. absurd (let one = some_same e in cc)) (λ f. absurd (let one = some_same (is.fault.1 f) in cc)) turns.Done).0 refl)
ended_some input heard turns.Spent is = absurd ((is.stops (λ e. absurd (let one = some_same e in cc)) (λ f. absurd (let one = some_same (is.fault.1 f) in cc)) turns.Spent).0 refl)

-- an answer that a turn may end with at its read
abbrev pub is_short : Turn → Bool
is_short turns.LinkFault = true
is_short turns.NoMemory = true
is_short turns.Cancelled = true
is_short (turns.BadInput fault) = true
is_short turns.More = false
is_short turns.Idle = false
is_short turns.Done = false
is_short turns.Spent = false

short_client : (answer : Turn) → is_for_client answer ≡ true → is_short answer ≡ true
short_client turns.Cancelled is = refl
short_client (turns.BadInput fault) is = refl
short_client turns.LinkFault is = refl
short_client turns.NoMemory is = refl
short_client turns.More is = is
short_client turns.Idle is = is
short_client turns.Done is = is
short_client turns.Spent is = is

-- the session ended for what was heard
module _ (input : Reader) (heard : Heard) (result : Option Turn) (answer : Turn) (is : IsEndedFor input heard result) (some : result ≡ Some answer) where
  pub some_stopped : IsStopped heard answer ⊎ (answer ≡ turns.NoMemory)
  some_stopped = ended_some input heard answer (subst (IsEndedFor input heard) some is)

  pub some_short : is_short answer ≡ true
  some_short = elim some_stopped [
    | inl (inl failed) ↦ ap is_short (some_same (sym some ∙ is.fault.1 failed))
    | inl (inr client) ↦ short_client answer client
    | inr none ↦ ap is_short none
  ]

  pub some_fault : (answer ≡ turns.LinkFault) ↔ (heard.last ≡ moves.Failed)
  some_fault = (λ e. is.fault.0 (some ∙ ap (λ (t : Turn). Some t) e), λ failed. some_same (sym some ∙ is.fault.1 failed))

  pub some_stops : IsStoppedBy input heard.piece heard.last answer
  some_stops not fine turn for =
      let both = is.stops (λ e. not (some_same (sym some ∙ e))) fine turn in
      (λ e. both.0 (some ∙ ap (λ (t : Turn). Some t) e), λ stops. some_same (sym some ∙ both.1 stops))

-- or it went on, to an answer that is not for the client
module _ (input : Reader) (heard : Heard) (result : Option Turn) (answer : Turn) (is : IsEndedFor input heard result) (none : result ≡ None) (other : is_for_client answer ≡ false) where
  pub none_failed : heard.last ≢ moves.Failed
  none_failed failed = none_some (sym none ∙ is.fault.1 failed)

  pub none_stopped : IsStopped heard answer → ⊥
  none_stopped (inl failed) = none_failed failed
  none_stopped (inr client) = absurd (let both : true ≡ false = sym client ∙ other in cc)

  pub none_stops : IsStoppedBy input heard.piece heard.last answer
  none_stops not fine turn for = (
    λ e. absurd (let both : true ≡ false = sym for ∙ ap is_for_client (sym e) ∙ other in cc),
    λ stops. absurd (none_some (sym none ∙ (is.stops (λ e. none_some (sym none ∙ e)) none_failed turn).1 stops)),
  )

-- ---- some turns after others

pub fed_both : (a b c : Reader) (p q : List ℕ) → IsFed a b p → IsFed b c q → IsFed a c (p ++ q)
fed_both a b c p q first second = (second.0 ∙ ap (λ (h : List ℕ). h ++ q) first.0 ∙ append_assoc a.held p q, second.1 ∙ first.1)

-- what it answers, and how it goes on then, is by what it holds, and where
moved_answers : (a b : Reader) (n : Next) → a.held ≡ b.held → a.place ≡ b.place → Answers a n → Answers b n
moved_answers a b (next.Frame kind at size) held place (here, body, after, starts, long) =
    (here ∙ place, body, after, subst (λ (h : List ℕ). StartsFrame h (record { kind = kind; body = body }) after) held starts, long)
moved_answers a b next.NeedMore held place is = subst (λ (h : List ℕ). IsUnfinished h) held is
moved_answers a b (next.BadKind at kind) held place is = (is.0 ∙ place, subst (λ (h : List ℕ). HasBadKind h kind) held is.1)
moved_answers a b (next.TooLong at size) held place is = (is.0 ∙ place, subst (λ (h : List ℕ). HasLongBody h size) held is.1)

stayed_by : (a b new : Reader) → a.held ≡ b.held → a.place ≡ b.place → HasStayed a new → HasStayed b new
stayed_by a b new held place is = record { held = is.held ∙ held; place = is.place ∙ place; body = is.body }

moved_on : (a b new : Reader) (n : Next) → a.held ≡ b.held → a.place ≡ b.place → GoesOn a new n → GoesOn b new n
moved_on a b new (next.Frame kind at size) held place is = (
  subst (λ (h : List ℕ). StartsFrame h (record { kind = kind; body = new.body }) new.held) held is.0,
  is.1,
  is.2 ∙ ap (λ (p : ℕ). place_of (p + length (frame kind new.body))) place,
)
moved_on a b new next.NeedMore held place is = stayed_by a b new held place is
moved_on a b new (next.BadKind at kind) held place is = stayed_by a b new held place is
moved_on a b new (next.TooLong at size) held place is = stayed_by a b new held place is

-- fed in two pieces, it holds the same
both_held : (a b : Reader) (p q : List ℕ) → IsFed a b p → (fed b q).held ≡ (fed a (p ++ q)).held
both_held a b p q is = ap (λ (h : List ℕ). h ++ q) is.0 ∙ append_assoc a.held p q

pub after_both : (a b c : Reader) (p q : List ℕ) (answer : Turn) → IsFed a b p → IsInputAfter b c q answer → IsInputAfter a c (p ++ q) answer
after_both a b c p q answer first second = record {
  holds = λ not. let h = second.holds not in
      (p ++ h.0, h.1, ap (λ (x : List ℕ). p ++ x) h.2 ∙ sym (append_assoc p h.0 h.1), fed_both a b c p h.0 first h.3, h.4);
  gave = λ client. let g = second.gave client in let held = both_held a b p q first in
      (g.0, moved_answers (fed b q) (fed a (p ++ q)) g.0 held first.1 g.1, moved_on (fed b q) (fed a (p ++ q)) c g.0 held first.1 g.2);
  reads = λ not bytes given has. let h = second.reads not (bytes ++ p) given (fed_reads a b p first bytes given has) in
      (h.0, subst (λ (x : List ℕ). HasRead c x (given ++ h.0)) (append_assoc bytes p q) h.1);
}

-- only what a frame reader holds, and where, counts
moved_fault : (a b : Reader) (last : Moved) (fault : InputFault) → a.held ≡ b.held → a.place ≡ b.place → IsFault a last fault → IsFault b last fault
moved_fault a b last (faults.BadKind at kind) held place is = moved_answers a b (next.BadKind at kind) held place is
moved_fault a b last (faults.TooLong at size) held place is = moved_answers a b (next.TooLong at size) held place is
moved_fault a b last (faults.NotCall at) held place is = is
moved_fault a b last (faults.NotMessage at) held place is = is
moved_fault a b last (faults.Cut at) held place is =
    (is.0, is.1 ∙ place, subst (λ (h : List ℕ). 0 < length h) held is.2, moved_answers a b next.NeedMore held place is.3)
moved_fault a b last (faults.Extra at) held place (kind, size, other, is) =
    (kind, size, other, moved_answers a b (next.Frame kind at size) held place is)

moved_stops : (a b : Reader) (last : Moved) (answer : Turn) → a.held ≡ b.held → a.place ≡ b.place → Stops a last answer → Stops b last answer
moved_stops a b last turns.Cancelled held place (size, is) =
    (size, subst (λ (n : ℕ). Answers b (next.Frame cancel n size)) place (moved_answers a b (next.Frame cancel a.place size) held place is))
moved_stops a b last (turns.BadInput fault) held place is = moved_fault a b last fault held place is
moved_stops a b last turns.More held place is = is
moved_stops a b last turns.Idle held place is = is
moved_stops a b last turns.Done held place is = is
moved_stops a b last turns.LinkFault held place is = is
moved_stops a b last turns.Spent held place is = is
moved_stops a b last turns.NoMemory held place is = is

-- nothing does that holds no byte
no_frame : (f : WholeFrame) (after : List ℕ) → StartsFrame [] f after → ⊥
no_frame f after is = let longer : 0 ≡ length (frame_bytes f ++ after) = ap length is.whole in omega (arith, longer)

no_fault : (input : Reader) (last : Moved) (fault : InputFault) → input.held ≡ [] → IsFault input last fault → ⊥
no_fault input last (faults.BadKind at kind) none is = let longer : 0 ≡ length (kind ∷ is.1.after) = ap length (sym none ∙ is.1.head) in omega (arith, longer)
no_fault input last (faults.TooLong at size) none is = let longer : 0 ≡ length (is.1.kind ∷ (to_be_bytes w32 size ++ is.1.after)) = ap length (sym none ∙ is.1.head) in omega (arith, longer)
no_fault input last (faults.NotCall at) none is = is
no_fault input last (faults.NotMessage at) none is = is
no_fault input last (faults.Cut at) none is = omega (arith, is.2, ap length none)
no_fault input last (faults.Extra at) none (kind, size, other, is) = no_frame (record { kind = kind; body = is.1 }) is.2 (subst (λ (h : List ℕ). StartsFrame h (record { kind = kind; body = is.1 }) is.2) none is.3)

no_stop : (input : Reader) (last : Moved) (answer : Turn) → input.held ≡ [] → Stops input last answer → ⊥
no_stop input last turns.Cancelled none (size, is) = no_frame (record { kind = cancel; body = is.1 }) is.2 (subst (λ (h : List ℕ). StartsFrame h (record { kind = cancel; body = is.1 }) is.2) none is.3)
no_stop input last (turns.BadInput fault) none is = no_fault input last fault none is
no_stop input last turns.More none is = is
no_stop input last turns.Idle none is = is
no_stop input last turns.Done none is = is
no_stop input last turns.LinkFault none is = is
no_stop input last turns.Spent none is = is
no_stop input last turns.NoMemory none is = is

none_of : (piece rest : List ℕ) → [] ≡ piece ++ rest → piece ≡ []
none_of [] rest is = refl
none_of (b ∷ piece) rest is = absurd (let longer : 0 ≡ length (b ∷ (piece ++ rest)) = ap length is in omega (arith, longer))

not_true : (b : Bool) → (b ≡ true → ⊥) → b ≡ false
not_true true not = absurd (not refl)
not_true false not = refl

-- a client that sends nothing stops nothing
pub silent_still : (input : Reader) (piece unread rest : List ℕ) (last : Moved) (answer : Turn) → input.held ≡ [] → unread ≡ [] → unread ≡ piece ++ rest
    → (is_for_client answer ≡ true → Stops (fed input piece) last answer) → is_for_client answer ≡ false
silent_still input piece unread rest last answer none dry front stops =
    let same : piece ≡ [] = none_of piece rest (sym dry ∙ front) in
    not_true (is_for_client answer) (λ client. no_stop (fed input piece) last answer (ap (λ (h : List ℕ). h ++ piece) none ∙ same) (stops client))

-- a turn that goes on fed what it heard
pub fed_more : (a b : Reader) (piece : List ℕ) (answer : Turn) → IsInputAfter a b piece answer → answer ≡ turns.More → IsFed a b piece
fed_more a b piece answer is more =
    let holds = is.holds (ap is_for_client more) in
    let none : holds.1 ≡ [] = holds.4 (λ e. absurd (let both : turns.More ≡ turns.NoMemory = sym more ∙ e in cc)) in
    let same : piece ≡ holds.0 = holds.2 ∙ ap (λ (r : List ℕ). holds.0 ++ r) none ∙ append-nil holds.0 in
    subst (λ (p : List ℕ). IsFed a b p) (sym same) holds.3

-- an answer for the client has its cause in what was heard
pub client_stops : (input : Reader) (piece : List ℕ) (last : Moved) (answer : Turn) → (last ≡ moves.Failed → answer ≡ turns.LinkFault)
    → IsStoppedBy input piece last answer → is_for_client answer ≡ true → Stops (fed input piece) last answer
client_stops input piece last answer fault stopped client =
    (stopped (λ e. absurd (let both : true ≡ false = sym client ∙ ap is_for_client e in cc))
    (λ failed. absurd (let both : true ≡ false = sym client ∙ ap is_for_client (fault failed) in cc)) answer client).0 refl

-- what stops a session, fed in two pieces
pub stopped_both : (a b : Reader) (p q : List ℕ) (last : Moved) (answer : Turn) → IsFed a b p → IsStoppedBy b q last answer → IsStoppedBy a (p ++ q) last answer
stopped_both a b p q last answer first stopped not fine turn for =
    let held = both_held a b p q first in
    let is = stopped not fine turn for in
    (λ e. moved_stops (fed b q) (fed a (p ++ q)) last turn held first.1 (is.0 e), λ stops. is.1 (moved_stops (fed a (p ++ q)) (fed b q) last turn (sym held) (sym first.1) stops))
