-- A session stands for the looks that were made for it, after one more turn.
use Rattle.std.proofs.Common.{◌≡◌, ◌≢◌, ◌↔◌, ◌⊎◌, inl, inr, ℕ, ◌+◌, ◌-◌, ◌^◌, ◌<◌, ◌≤◌, min, true, false, List, [], ◌∷◌, ◌++◌, Some, None, refl, sym, ap, ◌∙◌, append_assoc, arith, length, take, drop, subst}
use Rattle.std.proofs.lemmas.List.{append-nil, length-append, drop-append-le, take_all}
use Rattle.std.proofs.Math.Seq.{take-append_seam}
use Rattle.hb_look.specs.Looks.{LookMade}
use Rattle.hb_frame.specs.Frames.{Frame}
use Rattle.hb_session.specs.declared.counts.Counts.{Counts}
use Rattle.hb_session.specs.declared.turn.Turn.{Turn}
use Rattle.hb_session.specs.declared.turn.Turn.TheVariants as turns
use Rattle.hb_session.specs.Openings.{Opening}
use Rattle.hb_session.specs.Replies.{has_ended, owed, spelled, AreMadeAfter}
use Rattle.hb_session.specs.Stands.{Source, SourceStandsFor, counts_of, counted, left}
use Rattle.hb_session.specs.Works.{HasWorked}
use Rattle.hb_session.specs.Sessions.{Session, AreCounted, IsGoing, SessionStandsFor, HaveTurned, HasDone, IsWhole, gained, ended_by}
use Rattle.hb_session.proofs.Replies.{made_both, spelled_more}
use Rattle.hb_session.proofs.Grows.{more_begin}

-- a session that goes on has no answer
pub no_answer : {turn : Turn} → None ≡ Some turn → ⊥
no_answer e = absurd cc

module _ (s : Session) (looks : List LookMade) (taken : List ℕ) (open_is : s.answer ≡ None) (stands : SessionStandsFor s looks taken) where
  goes_on : IsGoing s looks taken
  goes_on = stands.going (λ e. no_answer (sym open_is ∙ e))

  -- where nothing waits, and more frames become owed
  owed_with : (more : List LookMade) (frames : List Frame) → s.waiting ≡ [] → owed s.source.opening (looks ++ more) ≡ owed s.source.opening looks ++ frames
      → taken ++ spelled frames ≡ spelled (owed s.source.opening (looks ++ more))
  owed_with more frames none is =
      ap (λ (b : List ℕ). b ++ spelled frames) (sym (append-nil taken) ∙ ap (λ (b : List ℕ). taken ++ b) (sym none) ∙ goes_on.1)
      ∙ sym (ap spelled is ∙ spelled_more (owed s.source.opening looks) frames)

-- what was taken and what waits are what is owed: so what was taken is its first part
first_of : (taken waiting all : List ℕ) → taken ++ waiting ≡ all → take (length taken) all ≡ taken
first_of taken waiting all is = ap (take (length taken)) (sym is) ∙ take-append_seam taken waiting

-- ---- bytes were taken

-- what was taken is the first part of what waited, and no less than has gone of it
gained_is : (s new : Session) (bytes : List ℕ) → s.waiting ≡ bytes ++ new.waiting → gained s new ≡ bytes
gained_is s new bytes front =
    let count : length s.waiting - length new.waiting ≡ length bytes = omega (arith, ap length front, length-append bytes new.waiting) in
    ap (λ (n : ℕ). take n s.waiting) count ∙ ap (take (length bytes)) front ∙ take-append_seam bytes new.waiting

module _ (s new : Session) (bytes : List ℕ) (open_is : s.answer ≡ None) (same : new.source ≡ s.source) (front : s.waiting ≡ bytes ++ new.waiting)
    (sent : new.sent ≡ min (s.sent + length bytes) (2 ^ 64 - 1)) where
  sent_stands : (looks : List LookMade) (taken : List ℕ) → SessionStandsFor s looks taken → SessionStandsFor new looks (taken ++ bytes)
  sent_stands looks taken stands =
      let going = goes_on s looks taken open_is stands in
      let all : (taken ++ bytes) ++ new.waiting ≡ spelled (owed s.source.opening looks) =
      append_assoc taken bytes new.waiting ∙ ap (λ (b : List ℕ). taken ++ b) (sym front) ∙ going.1 in
      subst (λ (x : Source). SessionStandsFor (record new { source = x }) looks (taken ++ bytes)) (sym same) (record {
        made = stands.made;
        sent = (omega (arith, sent, stands.sent.0, length-append taken bytes), first_of (taken ++ bytes) new.waiting _ all);
        counts = stands.counts;
        going = λ _. (going.0, all);
      })

  pub sent_gained : HaveTurned s new [] (gained s new)
  sent_gained = subst (HaveTurned s new []) (sym (gained_is s new bytes front)) (record {
    opening = ap (λ (x : Source). x.opening) same;
    stands = λ looks taken stands. subst (λ (ls : List LookMade). SessionStandsFor new ls (taken ++ bytes)) (sym (append-nil looks)) (sent_stands looks taken stands);
    most = λ _. omega arith;
    fewer = λ _ _. omega (arith, ap left same);
  })

-- ---- a piece of work was done

module _ (s new : Session) (source : Source) (more : List LookMade) (is : s.source ≡ source) (open_is : s.answer ≡ None) (none : s.waiting ≡ [])
    (sent : new.sent ≡ s.sent) where
  worked_stands : (at : ℕ) (before after : List ℕ) → s.waiting ≡ drop at before → new.waiting ≡ drop at after → at ≤ length before
      → HasWorked s.source new.source more before after
      → (looks : List LookMade) (taken : List ℕ) → SessionStandsFor s looks taken → SessionStandsFor new (looks ++ more) (taken ++ [])
  worked_stands at before after waited waits within worked looks taken stands =
      let frames = worked.put looks (goes_on s looks taken open_is stands).0 in
      let fresh : new.waiting ≡ spelled frames.0 =
      waits ∙ ap (drop at) frames.2 ∙ drop-append-le at before (spelled frames.0) within ∙ ap (λ (b : List ℕ). b ++ spelled frames.0) (sym waited ∙ none) in
      let all : taken ++ new.waiting ≡ spelled (owed new.source.opening (looks ++ more)) =
      ap (λ (b : List ℕ). taken ++ b) fresh ∙ owed_with s looks taken open_is stands more frames.0 none frames.1
      ∙ ap (λ (x : Opening). spelled (owed x (looks ++ more))) (sym worked.opening) in
      let source : SourceStandsFor new.source (looks ++ more) = worked.stands looks (goes_on s looks taken open_is stands).0 in
      subst (SessionStandsFor new (looks ++ more)) (sym (append-nil taken)) (record {
        made = source.made;
        sent = (sent ∙ stands.sent.0, first_of taken new.waiting _ all);
        counts = inl source.counts;
        going = λ _. (source, all);
      })

  pub worked_turned : (at : ℕ) (before after : List ℕ) → HasWorked source new.source more before after → new.waiting ≡ drop at after
      → s.waiting ≡ drop at before → at ≤ length before → (s.source.opening.request.follow ≡ false → length more ≤ left s.source)
      → (s.source.opening.request.follow ≡ false → left new.source + length more ≤ left s.source)
      → HaveTurned s new more []
  worked_turned at before after worked waits waited within most fewer = record {
    opening = worked.opening ∙ sym (ap (λ (x : Source). x.opening) is);
    stands = worked_stands at before after waited waits within (subst (λ (x : Source). HasWorked x new.source more before after) (sym is) worked);
    most = most;
    fewer = λ ends _. fewer ends;
  }

-- ---- memory was refused

-- the counts are those of all looks or of those before the last one
counted_so : (o : Opening) (looks more : List LookMade) (counts : Counts) → length more ≤ 1 → (counts ≡ counted o looks) ⊎ (counts ≡ counted o (looks ++ more))
    → AreCounted o (looks ++ more) counts
counted_so o looks more counts one (inr all) = inl all
counted_so o looks [] counts one (inl before) = inl (before ∙ ap (counted o) (sym (append-nil looks)))
counted_so o looks (look ∷ []) counts one (inl before) = inr (looks, look, refl, before)
counted_so o looks (look ∷ next ∷ more) counts one (inl before) = absurd (omega (arith, one))

-- how a source is made or counted after looks and some more
abbrev IsMadeMore : Source → List LookMade → Type 0
IsMadeMore source more = (looks : List LookMade) → SourceStandsFor source looks → AreMadeAfter source.opening looks more

abbrev IsCountedMore : Source → Source → List LookMade → Type 0
IsCountedMore source new more = (looks : List LookMade) → SourceStandsFor source looks
    → (counts_of new ≡ counted source.opening looks) ⊎ (counts_of new ≡ counted source.opening (looks ++ more))

module _ (s new : Session) (more : List LookMade) (open_is : s.answer ≡ None) (none : s.waiting ≡ []) (sent : new.sent ≡ s.sent)
    (starved : new.answer ≡ Some turns.NoMemory) (one : length more ≤ 1) where
  starved_stands : new.source.opening ≡ s.source.opening → IsMadeMore s.source more → IsCountedMore s.source new.source more
      → (looks : List LookMade) (taken : List ℕ) → SessionStandsFor s looks taken → SessionStandsFor new (looks ++ more) (taken ++ [])
  starved_stands same made counts looks taken stands =
      let source = (goes_on s looks taken open_is stands).0 in
      let o : Opening = s.source.opening in
      let after : AreMadeAfter o looks more = made looks source in
      let grown = more_begin o looks more after in
      subst (SessionStandsFor new (looks ++ more)) (sym (append-nil taken))
      (subst (λ (x : Opening). SessionStandsFor (record new { source = record new.source { opening = x } }) (looks ++ more) taken) (sym same) (record {
        made = made_both o [] looks more stands.made after;
        sent = (sent ∙ stands.sent.0, first_of taken (spelled grown.0) _ (owed_with s looks taken open_is stands more grown.0 none grown.1));
        counts = counted_so o looks more (counts_of new.source) one (counts looks source);
        going = λ not. absurd (not starved);
      }))

  pub starved_turned : (source : Source) → s.source ≡ source → new.source.opening ≡ source.opening → (s.source.opening.request.follow ≡ false → 1 ≤ left s.source)
      → IsMadeMore source more → IsCountedMore source new.source more → HaveTurned s new more []
  starved_turned source is same some made counts = record {
    opening = same ∙ sym (ap (λ (x : Source). x.opening) is);
    stands = starved_stands (same ∙ sym (ap (λ (x : Source). x.opening) is))
        (subst (λ (x : Source). IsMadeMore x more) (sym is) made) (subst (λ (x : Source). IsCountedMore x new.source more) (sym is) counts);
    most = λ ends. let least = some ends in omega (arith, one, least);
    fewer = λ ends not. absurd (not starved);
  }

-- ---- nothing was done

-- a session of which neither the source nor what waits has changed
same_turned : (s new : Session) → new.source ≡ s.source → new.waiting ≡ s.waiting → new.sent ≡ s.sent
    → (s.answer ≡ Some turns.NoMemory → new.answer ≡ Some turns.NoMemory) → HaveTurned s new [] []
same_turned s new source waits sent answer = record {
  opening = ap (λ (x : Source). x.opening) source;
  stands = λ looks taken is.
      subst (λ (ls : List LookMade). SessionStandsFor new ls (taken ++ [])) (sym (append-nil looks))
      (subst (SessionStandsFor new looks) (sym (append-nil taken))
      (subst (λ (x : Source). SessionStandsFor (record new { source = x }) looks taken) (sym source) (record {
        made = is.made;
        sent = (sent ∙ is.sent.0, is.sent.1);
        counts = is.counts;
        going = λ not. let on = is.going (λ e. not (answer e)) in (on.0, ap (λ (b : List ℕ). taken ++ b) waits ∙ on.1);
      })));
  most = λ _. omega arith;
  fewer = λ _ _. omega (arith, ap left source);
}

pub unmoved_turned : (s new : Session) (more : List LookMade) (taken : List ℕ) → more ≡ [] → taken ≡ [] → new.source ≡ s.source
    → new.waiting ≡ s.waiting → new.sent ≡ s.sent → (s.answer ≡ Some turns.NoMemory → new.answer ≡ Some turns.NoMemory) → HaveTurned s new more taken
unmoved_turned s new more taken no_looks no_bytes source waits sent answer =
    subst (λ (ls : List LookMade). HaveTurned s new ls taken) (sym no_looks)
    (subst (HaveTurned s new []) (sym no_bytes) (same_turned s new source waits sent answer))

-- ---- turns one after another

-- a turn follows a session that had not ended for want of memory, or did nothing
abbrev pub IsGoingOn : Session → Session → List LookMade → Type 0
IsGoingOn b c m = (b.answer ≢ Some turns.NoMemory) ⊎ ((m ≡ []) × (c ≡ b))

module _ (a b c : Session) (l m : List LookMade) (k n : List ℕ) (first : HaveTurned a b l k) (second : HaveTurned b c m n) where
  ends_too : a.source.opening.request.follow ≡ false → b.source.opening.request.follow ≡ false
  ends_too ends = ap (λ (o : Opening). o.request.follow) first.opening ∙ ends

  most_both : IsGoingOn b c m → a.source.opening.request.follow ≡ false → length l + length m ≤ left a.source
  most_both (inl not) ends = omega (arith, first.fewer ends not, second.most (ends_too ends))
  most_both (inr still) ends = omega (arith, ap length still.0, first.most ends)

  fewer_both : IsGoingOn b c m → a.source.opening.request.follow ≡ false → c.answer ≢ Some turns.NoMemory → left c.source + (length l + length m) ≤ left a.source
  fewer_both (inl not) ends kept = omega (arith, first.fewer ends not, second.fewer (ends_too ends) kept)
  fewer_both (inr still) ends kept =
      let fewer = first.fewer ends (λ e. kept (ap (λ (x : Session). x.answer) still.1 ∙ e)) in
      omega (arith, ap length still.0, ap (λ (x : Session). left x.source) still.1, fewer)

  pub turned_both : IsGoingOn b c m → HaveTurned a c (l ++ m) (k ++ n)
  turned_both on = record {
    opening = second.opening ∙ first.opening;
    stands = λ before taken is.
        subst (λ (ls : List LookMade). SessionStandsFor c ls (taken ++ (k ++ n))) (append_assoc before l m)
        (subst (SessionStandsFor c ((before ++ l) ++ m)) (append_assoc taken k n) (second.stands (before ++ l) (taken ++ k) (first.stands before taken is)));
    most = λ ends. omega (arith, length-append l m, most_both on ends);
    fewer = λ ends kept. omega (arith, length-append l m, fewer_both on ends kept);
  }

-- a turn at whose beginning the moment was told
pub told_turned : (s told new : Session) (looks more : List LookMade) (bytes taken : List ℕ) → HaveTurned told new looks bytes → more ≡ looks → taken ≡ bytes
    → s.answer ≡ None → told.source ≡ s.source → told.waiting ≡ s.waiting → told.sent ≡ s.sent → told.answer ≡ s.answer
    → HaveTurned s new more taken
told_turned s told new looks more bytes taken turned same_looks same_bytes open_is source waits sent answer =
    subst (λ (ls : List LookMade). HaveTurned s new ls taken) (sym same_looks)
    (subst (HaveTurned s new looks) (sym same_bytes)
    (turned_both s told new [] looks [] bytes (same_turned s told source waits sent (λ e. answer ∙ e)) turned
    (inl (λ e. no_answer (sym open_is ∙ sym answer ∙ e)))))

pub none_waits : (waiting : List ℕ) → length waiting ≡ 0 → waiting ≡ []
none_waits [] e = refl
none_waits (b ∷ waiting) e = absurd (omega (arith, e))

-- nothing is gained of what does not wait, or where all that waited waits still
pub none_gained : (s new : Session) → s.waiting ≡ [] → gained s new ≡ []
none_gained s new none =
    ap (λ (w : List ℕ). take (length w - length new.waiting) w) none ∙ take_all {A = ℕ} (0 - length new.waiting) [] (omega arith)

pub gained_still : (s new : Session) → new.waiting ≡ s.waiting → gained s new ≡ []
gained_still s new same =
    let none : length s.waiting - length new.waiting ≡ 0 = omega (arith, ap length same) in ap (λ (n : ℕ). take n s.waiting) none

pub gained_same : (s : Session) → gained s s ≡ []
gained_same s = let none : length s.waiting - length s.waiting ≡ 0 = omega arith in ap (λ (n : ℕ). take n s.waiting) none

-- ---- the last byte was taken

-- where nothing more follows, nothing was left
nothing_left : (taken waiting : List ℕ) → taken ++ waiting ≡ taken → waiting ≡ []
nothing_left taken [] e = refl
nothing_left taken (b ∷ waiting) e = absurd (let longer = length-append taken (b ∷ waiting) in let same : length (taken ++ b ∷ waiting) ≡ length taken = ap length e in omega (arith, longer, same))

-- a reply has ended and nothing waits where all that is owed was taken
pub all_taken : (s : Session) (o : Opening) (looks : List LookMade) (taken : List ℕ) → s.source.opening ≡ o → SessionStandsFor s looks taken → s.answer ≢ Some turns.NoMemory
    → ((s.source.ended ≡ true) × (s.waiting ≡ [])) ↔ IsWhole o looks taken
all_taken s o looks taken same stands not =
    let going = stands.going not in
    let ended : s.source.ended ≡ has_ended o looks = going.0.ended ∙ ap (λ (x : Opening). has_ended x looks) same in
    let all : taken ++ s.waiting ≡ spelled (owed o looks) = going.1 ∙ ap (λ (x : Opening). spelled (owed x looks)) same in (
      λ both. (sym ended ∙ both.0, sym (append-nil taken) ∙ ap (λ (b : List ℕ). taken ++ b) (sym both.1) ∙ all),
      λ whole. (ended ∙ whole.0, nothing_left taken s.waiting (all ∙ sym whole.1)),
    )

-- a session has ended for want of memory where the turn's answer was that
pub no_memory : (turn : Turn) → ended_by turn ≡ Some turns.NoMemory → turn ≡ turns.NoMemory
no_memory turns.More e = absurd cc
no_memory turns.Idle e = absurd cc
no_memory turns.Done e = absurd cc
no_memory turns.Cancelled e = absurd cc
no_memory (turns.BadInput fault) e = absurd cc
no_memory turns.LinkFault e = absurd cc
no_memory turns.Spent e = absurd cc
no_memory turns.NoMemory e = refl

-- a turn that ended in no Done: its reply has not ended, or something waits
pub not_done : (s new : Session) (answer : Turn) (looks : List LookMade) (bytes : List ℕ) → HaveTurned s new looks bytes → new.answer ≡ ended_by answer
    → (answer ≢ turns.NoMemory → new.source.ended ≡ true → 0 < length new.waiting) → answer ≢ turns.Done → HasDone s answer looks bytes
not_done s new answer looks bytes turned ended waits other before taken stands open_is not =
    let now = turned.stands before taken stands in
    let all = all_taken new s.source.opening (before ++ looks) (taken ++ bytes) turned.opening now (λ e. not (no_memory answer (sym ended ∙ e))) in (
      λ done. absurd (other done),
      λ whole. absurd (let both = all.1 whole in let some = waits not both.0 in let none : length new.waiting ≡ 0 = ap length both.1 in omega (arith, some, none)),
    )
