-- What is owed only grows: looks that are made for a reply add to it.
use Rattle.std.proofs.Common.{◌≡◌, ℕ, ◌+◌, ◌-◌, false, List, [], ◌∷◌, ◌++◌, Option, Some, None, refl, sym, ap, ◌∙◌, append_assoc, arith, length, take, replicate, inl, inr}
use Rattle.std.proofs.lemmas.Bool.{cases_lt}
use Rattle.std.proofs.lemmas.List.{append-nil}
use Rattle.std.proofs.Math.Seq.{take-append_seam}
use Rattle.hb_look.specs.Looks.{Found, Got, Gone, NotYet, LookMade}
use Rattle.hb_frame.specs.Frames.{Frame}
use Rattle.hb_flow.specs.declared.event.Event.{Event}
use Rattle.hb_session.specs.declared.loss.Loss.{Loss}
use Rattle.hb_session.specs.declared.span.Span.{Span}
use Rattle.hb_session.specs.Openings.{Opening, Reading, Backwards, Forwards}
use Rattle.hb_session.specs.Marks.{Over, passed_over, marks_of, marks, is_through, Part, Record, Stretch, parts_of, closed}
use Rattle.hb_session.specs.Forward.{forward}
use Rattle.hb_session.specs.Replies.{given_by, is_over, reply, has_ended, owed, spelled, AreMade, AreMadeAfter}
use Rattle.hb_session.specs.Steps.{loss_count}
use Rattle.hb_session.specs.Stands.{open_part}
use Rattle.hb_session.specs.Backward.{backward_has_ended}
use Rattle.hb_session.proofs.Windows.{with_got, with_gone, with_none, gone_size}
use Rattle.hb_session.proofs.Replies.{plus, some_going, goes_now, made_rest, spelled_more, owed_more, more_owed}
use Rattle.hb_session.proofs.Bools.{first_false, when_false}

-- the first frames begin the second
abbrev pub Begins : List Frame → List Frame → Type 0
Begins frames all = (rest : List Frame) × (all ≡ frames ++ rest)

-- parts end with a stretch or with a record
open_of : (ps : List Part) → (loss : Option Loss) × (ps ≡ closed ps ++ open_part loss)
open_of [] = (None, refl)
open_of (Record e ∷ ps) = let rest = open_of ps in (rest.0, ap (λ qs. Record e ∷ qs) rest.1)
open_of (Stretch c m ∷ []) = (Some (record { count = c; moment = m }), refl)
open_of (Stretch c m ∷ p ∷ ps) = let rest = open_of (p ∷ ps) in (rest.0, ap (λ qs. Stretch c m ∷ qs) rest.1)

-- what is given forwards with one more look: it begins with what was given
abbrev More : Opening → Span → List LookMade → LookMade → Type 0
More o span looks look = (events : List Event) × (forward o span (looks ++ look ∷ []) ≡ forward o span looks ++ events)

no_marks : (o : Opening) (span : Span) (looks : List LookMade) (look : LookMade) → is_through span looks ≡ false → marks_of look ≡ [] → More o span looks look
no_marks o span looks look not none = ([], (with_none o span looks look not none).1 ∙ sym (append-nil (forward o span looks)))

more_by : (o : Opening) (span : Span) (looks : List LookMade) (look : LookMade) (found : Found) → is_through span looks ≡ false → look.found ≡ found → More o span looks look
more_by o span looks look (Got bytes) not is =
    let loss = open_of (parts_of (marks span looks)) in
    (_, (with_got o span looks look bytes loss.0 not loss.1 is).0)
more_by o span looks look NotYet not is = no_marks o span looks look not (ap (passed_over look.position look.moment) is)
more_by o span looks look (Gone next) not is =
    elim (cases_lt look.position next) [
      | inl moves ↦
          let loss = open_of (parts_of (marks span looks)) in
          let new : Loss = record { count = loss_count loss.0 + gone_size span looks look.position next; moment = look.moment } in
          (_, (with_gone o span looks look next loss.0 new not loss.1 is moves refl refl).0)
      | inr stays ↦ no_marks o span looks look not
          (ap (passed_over look.position look.moment) is
          ∙ ap (λ (n : ℕ). replicate n (Over look.moment)) (let none : next - look.position ≡ 0 = omega (arith, stays) in none))
    ]

-- ---- one more look

gives_in : (o : Opening) (reading : Reading) (own : List LookMade) (look : LookMade) → is_over o reading own ≡ false
    → (events : List Event) × (given_by o reading (plus own look) ≡ given_by o reading own ++ events)
gives_in o Backwards own look not =
    (given_by o Backwards (plus own look), ap (λ (es : List Event). es ++ given_by o Backwards (plus own look)) (sym (when_false (backward_has_ended o own) _ [] not)))
gives_in o (Forwards span) own look not = more_by o span own look look.found (first_false (is_through span own) _ not) refl

one_more : (o : Opening) (looks : List LookMade) (look : LookMade) → has_ended o looks ≡ false → Begins (owed o looks) (owed o (looks ++ look ∷ []))
one_more o looks look not =
    let some = some_going o looks not in
    let g = goes_now o looks some.0 some.1 in
    let gives = gives_in o some.0.reading some.0.looks look g.not in
    let more : reply o (plus looks look) ≡ reply o looks ++ gives.0 =
    g.more look ∙ ap (λ (es : List Event). g.before ++ es) gives.1 ∙ sym (append_assoc g.before _ gives.0) ∙ ap (λ (es : List Event). es ++ gives.0) (sym g.reply) in
    (more_owed o (looks ++ look ∷ []) gives.0, owed_more o looks (looks ++ look ∷ []) gives.0 not more)

-- ---- any number

pub more_begin : (o : Opening) (before more : List LookMade) → AreMadeAfter o before more → Begins (owed o before) (owed o (before ++ more))
more_begin o before [] are = ([], ap (owed o) (append-nil before) ∙ sym (append-nil (owed o before)))
more_begin o before (look ∷ more) are =
    let one = one_more o before look are.0 in
    let rest = more_begin o (before ++ look ∷ []) more are.2 in (
      one.0 ++ rest.0,
      ap (owed o) (sym (append_assoc before (look ∷ []) more)) ∙ rest.1 ∙ ap (λ (fs : List Frame). fs ++ rest.0) one.1 ∙ append_assoc (owed o before) one.0 rest.0,
    )

-- the frames that were owed are the first that are owed, and so are their bytes
module _ (o : Opening) (looks more : List LookMade) (made : AreMade o (looks ++ more)) where
  begins : Begins (owed o looks) (owed o (looks ++ more))
  begins = more_begin o looks more (made_rest o [] looks more made)

  pub owed_grows : take (length (owed o looks)) (owed o (looks ++ more)) ≡ owed o looks
  owed_grows = ap (take (length (owed o looks))) begins.1 ∙ take-append_seam (owed o looks) begins.0

  pub bytes_grow : take (length (spelled (owed o looks))) (spelled (owed o (looks ++ more))) ≡ spelled (owed o looks)
  bytes_grow =
      ap (take (length (spelled (owed o looks)))) (ap spelled begins.1 ∙ spelled_more (owed o looks) begins.0)
      ∙ take-append_seam (spelled (owed o looks)) (spelled begins.0)
