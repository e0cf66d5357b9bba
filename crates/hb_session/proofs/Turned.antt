-- Turns one after another, until one does not answer More.
use Rattle.std.proofs.Common.{◌≡◌, ◌≢◌, ◌↔◌, ◌⊎◌, inl, inr, ℕ, ◌+◌, ◌-◌, ◌^◌, ◌<◌, ◌≤◌, min, ◌&&◌, true, false, Bool, cond, List, [], ◌∷◌, ◌++◌, Option, Some, None, refl, sym, ap, ◌∙◌, append_assoc, arith, length, max, subst}
use Rattle.std.specs.Prelude.{nat_le}
use Rattle.std.specs.List.{fold, All}
use Rattle.std.proofs.lemmas.List.{length-append}
use Rattle.std.proofs.lemmas.List.Sums.{fold-append}
use Rattle.hb_edge.specs.Causes.{Rose}
use Rattle.hb_edge.specs.Link.{Call, Read, Write}
use Rattle.hb_edge.specs.declared.link.Moved.{Moved}
use Rattle.hb_edge.specs.declared.link.Moved.TheVariants as moves
use Rattle.hb_edge.proofs.Moves.{rose_on}
use Rattle.hb_look.specs.Limits.{most_records, largest_capacity}
use Rattle.hb_look.specs.Looks.{LookMade, added}
use Rattle.hb_look.specs.Looks as looks
use Rattle.hb_look.proofs.Added.{added_both, none_added, all_none}
use Rattle.hb_session.specs.declared.turn.Turn.{Turn}
use Rattle.hb_session.specs.declared.turn.Turn.TheVariants as turns
use Rattle.hb_session.specs.Openings.{Opening}
use Rattle.std.specs.Option.{option_map_or}
use Rattle.hb_session.specs.declared.way.Way.{Way}
use Rattle.hb_session.specs.declared.way.Way.TheVariants as ways
use Rattle.hb_session.specs.Stands.{left_by}
use Rattle.hb_session.specs.Clients.{Heard, longest_piece, heard_of, is_for_client, IsStopped}
use Rattle.hb_session.specs.Sessions.{Session, HaveTurned, HasDone, IsWhole, IsAnswerTo, IsWrittenOf, HasPassed, ArePassed, IsPassed, HasAnswered, EndsBy, ended_by}
use Rattle.hb_session.proofs.Sessions.{no_answer, IsGoingOn, turned_both}

-- ---- an answer after which a session is turned again

-- it was open before
pub open_by : (s new : Session) (answer : Turn) (before : Option Turn) → s.answer ≡ before → new.answer ≡ ended_by answer → answer ≡ turns.More
    → ((told : Turn) → s.answer ≡ Some told → new ≡ s) → s.answer ≡ None
open_by s new answer None is ended more repeats = is
open_by s new answer (Some told) is ended more repeats =
    absurd (no_answer (sym (ap ended_by more) ∙ sym ended ∙ ap (λ (x : Session). x.answer) (repeats told is) ∙ is))

-- ---- some turns after others

on_by : (s new : Session) (l m : List LookMade) (before : Option Turn) → s.answer ≡ before
    → ((told : Turn) → s.answer ≡ Some told → (new ≡ s) × (m ≡ l)) → IsGoingOn s new (added l m)
on_by s new l m None is repeats = inl (λ e. no_answer (sym is ∙ e))
on_by s new l m (Some told) is repeats = let same = repeats told is in inr (none_added l m same.1, same.0)

pub turned_more : (old s new : Session) (l0 l m : List LookMade) (g k : List ℕ) → l ≡ l0 ++ added l0 l → m ≡ l ++ added l m
    → ((told : Turn) → s.answer ≡ Some told → (new ≡ s) × (m ≡ l))
    → HaveTurned old s (added l0 l) g → HaveTurned s new (added l m) k → HaveTurned old new (added l0 m) (g ++ k)
turned_more old s new l0 l m g k first second repeats one two =
    subst (λ (ls : List LookMade). HaveTurned old new ls (g ++ k)) (sym (added_both l0 l m first second))
    (turned_both old s new (added l0 l) (added l m) g k one two (on_by s new l m s.answer refl repeats))

pub done_more : (old s : Session) (answer : Turn) (l0 l m : List LookMade) (g k : List ℕ) → l ≡ l0 ++ added l0 l → m ≡ l ++ added l m → (old.answer ≡ None → s.answer ≡ None)
    → HaveTurned old s (added l0 l) g → HasDone s answer (added l m) k → HasDone old answer (added l0 m) (g ++ k)
done_more old s answer l0 l m g k first second goes one done before taken is going not =
    let looks_are : (before ++ added l0 l) ++ added l m ≡ before ++ added l0 m =
    append_assoc before (added l0 l) (added l m) ∙ ap (λ (ls : List LookMade). before ++ ls) (sym (added_both l0 l m first second)) in
    let whole : (answer ≡ turns.Done) ↔ IsWhole s.source.opening ((before ++ added l0 l) ++ added l m) ((taken ++ g) ++ k) =
    done (before ++ added l0 l) (taken ++ g) (one.stands before taken is) (goes going) not in
    subst (λ (o : Opening). (answer ≡ turns.Done) ↔ IsWhole o (before ++ added l0 m) (taken ++ (g ++ k))) one.opening
    (subst (λ (ls : List LookMade). (answer ≡ turns.Done) ↔ IsWhole s.source.opening ls (taken ++ (g ++ k))) looks_are
    (subst (λ (t : List ℕ). (answer ≡ turns.Done) ↔ IsWhole s.source.opening ((before ++ added l0 l) ++ added l m) t) (append_assoc taken g k) whole))

-- ---- how they end

-- an answer that is none of these four
pub which : (answer : Turn) → answer ≢ turns.More → answer ≢ turns.Idle → answer ≢ turns.LinkFault → answer ≢ turns.Spent
    → (answer ≡ turns.Done) ⊎ ((answer ≡ turns.NoMemory) ⊎ (is_for_client answer ≡ true))
which turns.More more idle fault spent = absurd (more refl)
which turns.Idle more idle fault spent = absurd (idle refl)
which turns.Done more idle fault spent = inl refl
which turns.Cancelled more idle fault spent = inr (inr refl)
which (turns.BadInput is) more idle fault spent = inr (inr refl)
which turns.LinkFault more idle fault spent = absurd (fault refl)
which turns.Spent more idle fault spent = absurd (spent refl)
which turns.NoMemory more idle fault spent = inr (inl refl)

-- no more positions are left than the window has
left_by_end : (size place : ℕ) (end : Option ℕ) → option_map_or (λ e. min (e - place) size) end 0 ≤ size
left_by_end size place None = omega arith
left_by_end size place (Some e) = omega arith

left_within : (o : Opening) (way : Way) → left_by o way ≤ o.size
left_within o (ways.Forward f) = left_by_end o.size f.place f.end
left_within o (ways.Backward b) = omega arith

-- so few looks were made that another one may be
pub not_spent : (old s : Session) (l0 l : List LookMade) (g : List ℕ) → l ≡ l0 ++ added l0 l → HaveTurned old s (added l0 l) g → s.source.opening.size ≤ largest_capacity
    → old.source.opening.request.follow ≡ false → length l0 ≤ 2 ^ 61 → length l ≢ most_records
not_spent old s l0 l g listed turned window ends few spent =
    let longer : length l ≡ length l0 + length (added l0 l) = ap length listed ∙ length-append l0 (added l0 l) in
    let most = turned.most ends in
    let within = left_within old.source.opening old.source.way in
    omega (arith, longer, few, spent, most, within, ap (λ (o : Opening). o.size) turned.opening, window)

-- ---- a turn that made no write

is_end : (m : Moved) → (m ≡ moves.End) ⊎ (m ≢ moves.End)
is_end (moves.Took n) = inr (λ e. absurd cc)
is_end moves.NotYet = inr (λ e. absurd cc)
is_end moves.End = inl refl
is_end moves.Failed = inr (λ e. absurd cc)

is_failed : (m : Moved) → (m ≡ moves.Failed) ⊎ (m ≢ moves.Failed)
is_failed (moves.Took n) = inr (λ e. absurd cc)
is_failed moves.NotYet = inr (λ e. absurd cc)
is_failed moves.End = inr (λ e. absurd cc)
is_failed moves.Failed = inl refl

read_passed : (room : ℕ) (m : Moved) → m ≢ moves.Failed → HasPassed (Read room) m
read_passed room (moves.Took n) fine = tt
read_passed room moves.NotYet fine = tt
read_passed room moves.End fine = tt
read_passed room moves.Failed fine = absurd (fine refl)

-- why it made none
abbrev Unwritten : Turn → Heard → List ℕ → Type 0
Unwritten turn heard waiting = (waiting ≡ []) ⊎ (IsStopped heard turn ⊎ (turn ≡ turns.NoMemory))

no_idle : (turn : Turn) (heard : Heard) (waiting : List ℕ) → heard.last ≢ moves.Failed → Unwritten turn heard waiting → (turn ≡ turns.Idle → 0 < length waiting) → turn ≢ turns.Idle
no_idle turn heard waiting fine (inl none) idle is = let some = idle is in omega (arith, some, ap length none)
no_idle turn heard waiting fine (inr (inl (inl failed))) idle is = fine failed
no_idle turn heard waiting fine (inr (inl (inr client))) idle is = absurd (let both : true ≡ false = sym client ∙ ap is_for_client is in cc)
no_idle turn heard waiting fine (inr (inr none)) idle is = absurd (let both : turns.NoMemory ≡ turns.Idle = sym none ∙ is in cc)

no_fault : (turn : Turn) (heard : Heard) (waiting : List ℕ) → heard.last ≢ moves.Failed → Unwritten turn heard waiting
    → (turn ≡ turns.LinkFault → (0 < length waiting) ⊎ (heard.last ≡ moves.Failed)) → turn ≢ turns.LinkFault
no_fault turn heard waiting fine (inl none) link is = elim (link is) [
  | inl some ↦ omega (arith, some, ap length none)
  | inr failed ↦ fine failed
]
no_fault turn heard waiting fine (inr (inl (inl failed))) link is = fine failed
no_fault turn heard waiting fine (inr (inl (inr client))) link is = absurd (let both : true ≡ false = sym client ∙ ap is_for_client is in cc)
no_fault turn heard waiting fine (inr (inr none)) link is = absurd (let both : turns.NoMemory ≡ turns.LinkFault = sym none ∙ is in cc)

-- ---- what a link answered

module _ {A : Type 0} (answer : A → Call → Moved) (after : A → Call → A) where
  -- one call more that moved bytes, or was a read that gave none
  passed_more : (a : A) (calls : List Call) (call : Call) → ArePassed answer after a calls
      → HasPassed call (answer (fold after a calls) call) → ArePassed answer after a (calls ++ call ∷ [])
  passed_more a [] call passed is = (is, tt)
  passed_more a (first ∷ calls) call passed is = (passed.0, passed_more (after a first) calls call passed.1 is)

  -- after an answer that is More, the link is as calls leave it
  pub went_on : {R : Type 0} (a new : A) (turn : Turn) → turn ≡ turns.More → EndsBy answer after a new turn ⊎ ((turn ≡ turns.LinkFault) × R)
      → IsPassed answer after a new
  went_on a new turn more (inl ends) = subst (EndsBy answer after a new) more ends
  went_on a new turn more (inr failed) = absurd (let both : turns.More ≡ turns.LinkFault = sym more ∙ failed.0 in cc)

  -- a call after others
  module _ (a b new : A) (call : Call) (before : IsPassed answer after a b) (made : new ≡ after b call) where
    passed_on : HasPassed call (answer b call) → IsPassed answer after a new
    passed_on is = (
      before.0 ++ call ∷ [],
      made ∙ ap (λ x. after x call) before.1 ∙ sym (fold-append after a before.0 (call ∷ [])),
      passed_more a before.0 call before.2 (subst (λ x. HasPassed call (answer x call)) before.1 is),
    )

    answered : (moved : Moved) → answer b call ≡ moved → HasAnswered answer after a new call moved
    answered moved is = (before.0, before.2, made ∙ ap (λ x. after x call) before.1, sym (ap (λ x. answer x call) before.1) ∙ is)

  -- a write decides
  ends_in : (a new : A) (turn : Turn) (b : Bool) → turn ≡ cond b turns.Done turns.More → IsPassed answer after a new → EndsBy answer after a new turn
  ends_in a new turn true is passed = subst (EndsBy answer after a new) (sym is) passed
  ends_in a new turn false is passed = subst (EndsBy answer after a new) (sym is) passed

  ends_by : (s : Session) (a b new : A) (before : IsPassed answer after a b) (turn : Turn) (moved : Moved) → answer b (Write s.waiting) ≡ moved → IsAnswerTo s moved turn
      → new ≡ after b (Write s.waiting) → EndsBy answer after a new turn
  ends_by s a b new before turn (moves.Took n) is told wrote =
      ends_in a new turn (s.source.ended && nat_le (length s.waiting) n) told
      (passed_on a b new (Write s.waiting) before wrote (subst (HasPassed (Write s.waiting)) (sym is) tt))
  ends_by s a b new before turn moves.NotYet is told wrote =
      subst (EndsBy answer after a new) (sym told) (s.waiting, answered a b new (Write s.waiting) before wrote moves.NotYet is)
  ends_by s a b new before turn moves.End is told wrote = absurd told
  ends_by s a b new before turn moves.Failed is told wrote =
      subst (EndsBy answer after a new) (sym told) (Write s.waiting, answered a b new (Write s.waiting) before wrote moves.Failed is)

  -- or there was none
  ends_still : (a new : A) (turn : Turn) → turn ≢ turns.Idle → turn ≢ turns.LinkFault → IsPassed answer after a new → EndsBy answer after a new turn
  ends_still a new turns.Idle idle fault passed = absurd (idle refl)
  ends_still a new turns.LinkFault idle fault passed = absurd (fault refl)
  ends_still a new turns.More idle fault passed = passed
  ends_still a new turns.Done idle fault passed = passed
  ends_still a new turns.Cancelled idle fault passed = passed
  ends_still a new (turns.BadInput is) idle fault passed = passed
  ends_still a new turns.Spent idle fault passed = passed
  ends_still a new turns.NoMemory idle fault passed = passed

  -- after what was heard
  heard_end : (last : Moved) (b : A) → last ≡ moves.End → heard_of after last b ≡ b
  heard_end last b is = ap (λ (m : Moved). heard_of after m b) is

  heard_read : (last : Moved) (b : A) → last ≢ moves.End → heard_of after last b ≡ after b (Read longest_piece)
  heard_read (moves.Took n) b not = refl
  heard_read moves.NotYet b not = refl
  heard_read moves.End b not = absurd (not refl)
  heard_read moves.Failed b not = refl

  module _ (s : Session) (heard : Heard) (a b new : A) (before : IsPassed answer after a b)
      (reads : s.heard.last ≢ moves.End → heard.last ≡ answer b (Read longest_piece)) (ended : s.heard.last ≡ moves.End → heard ≡ s.heard) where
    passed_heard : heard.last ≢ moves.Failed → IsPassed answer after a (heard_of after s.heard.last b)
    passed_heard fine = elim (is_end s.heard.last) [
      | inl end ↦ subst (IsPassed answer after a) (sym (heard_end s.heard.last b end)) before
      | inr not ↦ subst (IsPassed answer after a) (sym (heard_read s.heard.last b not))
          (passed_on a b (after b (Read longest_piece)) (Read longest_piece) before refl (read_passed longest_piece _ (λ e. fine (reads not ∙ e))))
    ]

    not_end : heard.last ≡ moves.Failed → s.heard.last ≢ moves.End
    not_end failed end = absurd (let both : moves.Failed ≡ moves.End = sym failed ∙ ap (λ (h : Heard). h.last) (ended end) ∙ end in cc)

    -- the last call decides
    pub ends_with : (turn : Turn) (r0 r1 r2 : ℕ) → r0 ≤ r1 → IsWrittenOf answer after s heard turn (heard_of after s.heard.last b) new r1 r2
        → (heard.last ≡ moves.Failed → turn ≡ turns.LinkFault) → (turn ≡ turns.Idle → 0 < length s.waiting)
        → (turn ≡ turns.LinkFault → (0 < length s.waiting) ⊎ (heard.last ≡ moves.Failed))
        → EndsBy answer after a new turn ⊎ ((turn ≡ turns.LinkFault) × Rose r0 r2)
    ends_with turn r0 r1 r2 later (inl (same, why)) fault idle link = elim (is_failed heard.last) [
      | inl failed ↦
          let not = not_end failed in
          inl (subst (EndsBy answer after a new) (sym (fault failed))
          (Read longest_piece, answered a b new (Read longest_piece) before (same ∙ heard_read s.heard.last b not) moves.Failed (sym (reads not) ∙ failed)))
      | inr fine ↦ inl (ends_still a new turn (no_idle turn heard s.waiting fine why idle) (no_fault turn heard s.waiting fine why link)
          (subst (IsPassed answer after a) (sym same) (passed_heard fine)))
    ]
    ends_with turn r0 r1 r2 later (inr (inl (some, fine, told, wrote))) fault idle link =
        inl (ends_by s a (heard_of after s.heard.last b) new (passed_heard fine) turn (answer (heard_of after s.heard.last b) (Write s.waiting)) refl told wrote)
    ends_with turn r0 r1 r2 later (inr (inr failed)) fault idle link = inr (failed.0, rose_on r0 r1 r2 r2 later (omega arith) failed.1)

-- ---- the looks of the last turn

-- as many looks, and more
pub no_fewer : (l m : List LookMade) → m ≡ l ++ added l m → length l ≡ most_records → most_records ≤ length m
no_fewer l m listed spent =
    let longer : length m ≡ length l + length (added l m) = ap length listed ∙ length-append l (added l m) in omega (arith, longer, spent)

-- each was made at the greatest moment that was told
abbrev pub IsMadeAt : ℕ → LookMade → Type 0
IsMadeAt moment look = (look.moment ≡ moment) × (look.position < looks.after look)

pub made_by : (old s new : Session) (now : ℕ) (l m : List LookMade) (before : Option Turn) → s.answer ≡ before → All (λ look. look.moment ≡ new.moment) (added l m)
    → All (λ look. look.position < looks.after look) (added l m) → ((told : Turn) → s.answer ≡ Some told → m ≡ l)
    → (s.answer ≡ None → new.moment ≡ max s.moment now) → max s.moment now ≡ max old.moment now → All (IsMadeAt (max old.moment now)) (added l m)
made_by old s new now l m None is at leads repeats moment same = λ k d below. (at k d below ∙ moment is ∙ same, leads k d below)
made_by old s new now l m (Some told) is at leads repeats moment same = all_none (IsMadeAt (max old.moment now)) l m (repeats told is)

-- ---- other causes

pub spent_memory : {answer : Turn} → answer ≡ turns.Spent → answer ≢ turns.NoMemory
spent_memory is other = absurd (let both : turns.Spent ≡ turns.NoMemory = sym is ∙ other in cc)
