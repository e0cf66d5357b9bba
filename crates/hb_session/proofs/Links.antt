-- What calls leave of a link, and of one in memory.
use Rattle.std.proofs.Common.{◌≡◌, ◌≢◌, ◌⊎◌, inl, inr, ◌∙◌, ℕ, ◌<◌, ◌≤◌, true, false, Bool, Option, Some, List, [], ◌∷◌, ◌++◌, length, min, refl, sym, ap, subst, arith}
use Rattle.std.proofs.lemmas.List.{append-nil}
use Rattle.std.specs.List.{fold}
use Rattle.hb_edge.specs.declared.link.Moved.{Moved}
use Rattle.hb_edge.specs.declared.link.Moved.TheVariants.{Took, NotYet, Failed}
use Rattle.hb_edge.specs.Causes.{Rose}
use Rattle.hb_edge.specs.Link.{Call, Read, Write, Held, Shown, HasMoved}
use Rattle.hb_edge.proofs.Moves.{moved_more, rose_on}
use Rattle.hb_edge.specs.Plan.{one_more, is_planned}
use Rattle.hb_edge.specs.MemLink.{LinkState, faults_after, waits_after, front_answer, write_answer, after}
use Rattle.hb_session.specs.declared.turn.Turn.{Turn}
use Rattle.hb_session.specs.declared.turn.Turn.TheVariants as turns
use Rattle.hb_session.specs.Stands.{Source}
use Rattle.hb_session.specs.Clients.{Heard, is_for_client}
use Rattle.hb_session.specs.Sessions.{Session, IsAnswerTo, IsWrittenOf}
use Rattle.hb_session.proofs.Bools.{when_false}

-- ---- calls on any link

module _ {A Fixed : Type 0} (shown : A → Shown) (held : A → Option Held) (after : A → Call → A) (fixed : A → Fixed) where
  pub moved_as : (old new : A) (given taken given_so taken_so : List ℕ) → given_so ≡ given → taken_so ≡ taken → HasMoved shown held after fixed old new given taken
      → HasMoved shown held after fixed old new given_so taken_so
  moved_as old new given taken given_so taken_so first second is =
      subst (λ (g : List ℕ). HasMoved shown held after fixed old new g taken_so) (sym first) (subst (HasMoved shown held after fixed old new given) (sym second) is)

  -- a read and then a write
  pub moved_then : (a b c : A) (given taken : List ℕ) → HasMoved shown held after fixed a b given [] → HasMoved shown held after fixed b c [] taken
      → HasMoved shown held after fixed a c given taken
  moved_then a b c given taken first second =
      moved_as a c (given ++ []) ([] ++ taken) given taken (sym (append-nil given)) refl (moved_more shown held after fixed a b c given [] [] taken first second)

-- what was heard, and then a write of what waited
pub written_then : {A : Type 0} (answer : A → Call → Moved) (after : A → Call → A) (s mid : Session) (heard : Heard) (turn : Turn) (l0 l1 new : A) (r0 r1 r2 : ℕ)
    → mid.source ≡ s.source → mid.waiting ≡ s.waiting → l1 ≡ l0 → 0 < length s.waiting → heard.last ≢ Failed → r0 ≤ r1
    → (IsAnswerTo mid (answer l1 (Write mid.waiting)) turn × (new ≡ after l1 (Write mid.waiting))) ⊎ ((turn ≡ turns.LinkFault) × Rose r1 r2)
    → IsWrittenOf answer after s heard turn l0 new r0 r2
written_then answer after s mid heard turn l0 l1 new r0 r1 r2 source waiting same some fine later (inl told) =
    let there : IsAnswerTo mid (answer l0 (Write mid.waiting)) turn × (new ≡ after l0 (Write mid.waiting)) =
    subst (λ l. IsAnswerTo mid (answer l (Write mid.waiting)) turn × (new ≡ after l (Write mid.waiting))) same told in
    let waits : IsAnswerTo (record mid { waiting = s.waiting }) (answer l0 (Write s.waiting)) turn × (new ≡ after l0 (Write s.waiting)) =
    subst (λ (x : List ℕ). IsAnswerTo (record mid { waiting = x }) (answer l0 (Write x)) turn × (new ≡ after l0 (Write x))) waiting there in
    inr (inl (some, fine, subst (λ (x : Source). IsAnswerTo (record mid { source = x; waiting = s.waiting }) (answer l0 (Write s.waiting)) turn) source waits.0, waits.1))
written_then answer after s mid heard turn l0 l1 new r0 r1 r2 source waiting same some fine later (inr failed) =
    inr (inr (failed.0, rose_on r0 r1 r2 r2 later (omega arith) failed.1))

-- ---- a link in memory that takes all that it is given, but for want of memory

-- what each step keeps is so after all of them
keeps : {A : Type 0} (step : A → Call → A) (P : A → Type 0) → ((x : A) (call : Call) → P x → P (step x call)) → (calls : List Call) (a : A) → P a → P (fold step a calls)
keeps step P each [] a is = is
keeps step P each (call ∷ calls) a is = keeps step P each calls (step a call) (each a call is)

-- no call is to fail, it is not held, and no call failed and no write had to wait
pub record IsFree (link : LinkState) : Type 0 where
  pub planned : link.fails ≡ []
  pub loose : link.held ≡ false
  pub faults : link.faults ≡ 0
  pub waits : link.write_waits ≡ 0

unplanned : (link : LinkState) → IsFree link → is_planned link.fails (one_more link.calls) ≡ false
unplanned link free = ap (λ (fails : List ℕ). is_planned fails (one_more link.calls)) free.planned

took : (link : LinkState) (piece : List ℕ) → IsFree link → write_answer link piece ≡ Took (min (length piece) link.most)
took link piece free =
    let all : Moved = Took (min (length piece) link.most) in
    when_false (is_planned link.fails (one_more link.calls)) Failed _ (unplanned link free) ∙ when_false link.held NotYet all free.loose

-- a read that does not fail raises no count of faults
fine_front : (unread : List ℕ) (ended : Bool) (room faults : ℕ) → faults_after (front_answer unread ended room) faults ≡ faults
fine_front [] true room faults = refl
fine_front [] false room faults = refl
fine_front (b ∷ unread) ended room faults = refl

-- so it is after a call
call_keeps : (link : LinkState) (call : Call) → IsFree link → IsFree (after link call)
call_keeps link (Write piece) free =
    let is = took link piece free in record {
      planned = free.planned;
      loose = free.loose;
      faults = ap (λ (a : Moved). faults_after a link.faults) is ∙ free.faults;
      waits = ap (λ (a : Moved). waits_after a link.write_waits) is ∙ free.waits;
    }
call_keeps link (Read room) free = record {
  planned = free.planned;
  loose = free.loose;
  faults = ap (λ (a : Moved). faults_after a link.faults) (when_false (is_planned link.fails (one_more link.calls)) Failed _ (unplanned link free))
      ∙ fine_front link.unread link.ended (min room link.most) link.faults ∙ free.faults;
  waits = free.waits;
}

-- and after all of them
pub free_after : (link new : LinkState) (calls : List Call) → IsFree link → new ≡ fold after link calls → IsFree new
free_after link new calls free is = subst IsFree (sym is) (keeps after IsFree call_keeps calls link free)

-- ---- an answer that ends a session over such a link

-- an answer that is neither of two, nor for the client
pub ends_else : (a : Turn) → (a ≡ turns.Done) ⊎ ((a ≡ turns.NoMemory) ⊎ (is_for_client a ≡ true)) → is_for_client a ≡ false → a ≢ turns.Done → a ≢ turns.NoMemory → ⊥
ends_else a (inl is) silent done none = done is
ends_else a (inr (inl is)) silent done none = none is
ends_else a (inr (inr client)) silent done none = absurd (let both : true ≡ false = sym client ∙ silent in cc)

-- what a link has taken, where it tells
pub same_held : (h k : Held) → Some h ≡ Some k → h.taken ≡ k.taken
same_held h k is = let same : h ≡ k = cc in ap (λ (x : Held). x.taken) same
