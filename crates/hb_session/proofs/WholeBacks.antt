-- A window whose looks each get their record, read backwards: what is given are its last events.
use Rattle.std.proofs.Common.{◌≡◌, ◌⊎◌, inl, inr, ℕ, suc, ◌+◌, ◌-◌, ◌<◌, ◌≤◌, true, false, ◌||◌, List, [], ◌∷◌, ◌++◌, length, drop, Option, Some, None, refl, sym, ap, subst, ◌∙◌, append_assoc, arith, slice_get, length-append, drop-cons}
use Rattle.std.specs.Prelude.{Bool, nat_lt, nat_le, reverse, if◌then◌else◌}
use Rattle.std.specs.List.{AllByRecursion, cons_option, filter, filter_map, last_or}
use Rattle.std.proofs.lemmas.Bool.{cases_lt, leb-true, leb-false, or_cases, ltb-true}
use Rattle.std.proofs.lemmas.List.{append-nil, drop_all, reverse-append}
use Rattle.std.proofs.lemmas.List.Elements.{filter-append, filter_map-append}
use Rattle.std.proofs.lemmas.Option.{get_or_from_slice_get, slice_get_within}
use borrow.Author.Count.{below_none, below_more}
use Rattle.hb_look.specs.Looks.{Got, LookMade}
use Rattle.hb_flow.specs.declared.event.Event.{Event}
use Rattle.hb_api.specs.declared.request.GetFlowsRequest.{GetFlowsRequest}
use Rattle.hb_session.specs.Openings.{Opening, Backwards, is_backward, are_enough}
use Rattle.hb_session.specs.Events.{event_of_record, passes, flows}
use Rattle.hb_session.specs.Marks.{event_found}
use Rattle.hb_session.specs.Backward.{read_newest, gone_from, gone_after, gone_last, backward_has_ended}
use Rattle.hb_frame.specs.Frames.{Frame}
use Rattle.hb_session.specs.Replies.{has_ended, reply, event_frames, status_frame, spelled, AreMadeAfter}
use Rattle.hb_session.proofs.Bools.{first_false, second_false, when_true}
use Rattle.hb_session.proofs.Replies.{flows_more, plus}
use Rattle.hb_session.proofs.Alone.{backwards_alone, AreOwn, ended_alone, reply_alone, place_alone, own_more, own_made}
use Rattle.hb_session.specs.Whole.{IsGot, IsReply, passing, frames_of}
use Rattle.hb_session.proofs.WholeEvents.{Holds}
use Rattle.hb_session.proofs.WholeFlows.{few_of, enough_of}

-- ---- what looks read that each got their record

-- the events that looks found, in the order of the looks
abbrev found_events : List LookMade → List Event
found_events looks = filter_map (λ look. event_found look.found) looks

reverse_if : (b : Bool) (e : Event) (es : List Event) → reverse (if b then e ∷ es else es) ≡ reverse es ++ (if b then e ∷ [] else [])
reverse_if true e es = reverse-append (e ∷ []) es
reverse_if false e es = sym (append-nil (reverse es))

filter_turned : (s : GetFlowsRequest) (es : List Event) → reverse (filter (passes s) es) ≡ filter (passes s) (reverse es)
filter_turned s [] = refl
filter_turned s (e ∷ es) =
    reverse_if (passes s e) e (filter (passes s) es)
    ∙ ap (λ (front : List Event). front ++ (if passes s e then e ∷ [] else [])) (filter_turned s es)
    ∙ sym (ap (filter (passes s)) (reverse-append (e ∷ []) es) ∙ filter-append (passes s) (reverse es) (e ∷ []))

flows_turned : (es : List Event) → flows (reverse es) ≡ flows es
flows_turned [] = refl
flows_turned (e ∷ es) = ap flows (reverse-append (e ∷ []) es) ∙ flows_more (reverse es) (e ∷ []) ∙ omega (arith, flows_turned es, flows_more (e ∷ []) es)

-- one more record, before those that come after it in the ring
turned_more : (looks : List LookMade) (look : LookMade) (e : Event) (rest : List Event) → event_found look.found ≡ Some e → reverse (found_events looks) ≡ rest
    → reverse (found_events (plus looks look)) ≡ e ∷ rest
turned_more looks look e rest found are =
    ap reverse (filter_map-append (λ look. event_found look.found) looks (look ∷ []))
    ∙ ap (λ (o : Option Event). reverse (found_events looks ++ cons_option o [])) found
    ∙ reverse-append (found_events looks) (e ∷ [])
    ∙ ap (λ (more : List Event). e ∷ more) are

-- nothing was found gone
none_after : (cap : ℕ) (low : ℕ) (log : List (List ℕ)) (last : Option LookMade) (looks : List LookMade) → gone_after low last ≡ [] → AllByRecursion (IsGot cap log) looks
    → gone_after low (last_or last looks) ≡ []
none_after cap low log last [] none got = none
none_after cap low log last (look ∷ looks) none got =
    none_after cap low log (Some look) looks (ap (gone_from low look.position look.moment) got.0.1) got.1

-- ---- the back of a window that looks read

-- The looks read the window's last events, and before the last look they had fewer flows than were asked for.
pub record IsBack (o : Opening) (es : List Event) (looks : List LookMade) : Type 0 where
  pub fewer : length looks ≤ length es
  pub seen : reverse (found_events looks) ≡ drop (length es - length looks) es
  pub before : (m : ℕ) → m < length looks → flows (passing o (drop (length es - m) es)) < o.request.number

no_back : (o : Opening) (es : List Event) → IsBack o es []
no_back o es = record {
  fewer = omega arith;
  seen = sym (drop_all (length es - 0) es (omega arith));
  before = below_none (λ m. flows (passing o (drop (length es - m) es)) < o.request.number);
}

drop_next : {A : Type 0} (xs : List A) (k : ℕ) (x : A) → slice_get xs k ≡ Some x → drop k xs ≡ x ∷ drop (suc k) xs
drop_next xs k x is =
    drop-cons xs k x (slice_get_within xs k x is) ∙ ap (λ y. y ∷ drop (suc k) xs) (get_or_from_slice_get xs k x x is)

-- Bytes give the last events from a start on, the latest one from which they have as many flows as were asked for, or all of them.
pub record GivesBack (o : Opening) (es : List Event) (bytes : List ℕ) : Type 0 where
  pub start : ℕ
  pub whole : bytes ≡ frames_of o (passing o (drop start es))
  pub later : (m : ℕ) → start < m → flows (passing o (drop m es)) < o.request.number
  pub ends : (start ≡ 0) ⊎ (o.request.number ≤ flows (passing o (drop start es)))

module _ (cap : ℕ) (o : Opening) (log : List (List ℕ)) (es : List Event) (way : is_backward o.request ≡ true) (alone : o.request.follow ≡ false) (some : 0 < o.request.number) (has : Holds o log es) where
  -- one more look, which got the record of this event
  back_with : (looks : List LookMade) (look : LookMade) (bytes : List ℕ) (e : Event) (k : ℕ) → IsBack o es looks
      → flows (passing o (drop (length es - length looks) es)) < o.request.number → suc k ≡ length es - length looks → slice_get es k ≡ Some e
      → look.found ≡ Got bytes → event_of_record bytes ≡ Some e → IsBack o es (plus looks look)
  back_with looks look bytes e k back few next here got is =
      let n = length looks in
      let longer : length (plus looks look) ≡ n + 1 = length-append looks (look ∷ []) in
      let start : k ≡ length es - length (plus looks look) = omega (arith, longer, next) in
      let read : reverse (found_events (plus looks look)) ≡ e ∷ drop (suc k) es =
      turned_more looks look e (drop (suc k) es) (ap event_found got ∙ is) (back.seen ∙ ap (λ (p : ℕ). drop p es) (sym next)) in
      record {
        fewer = omega (arith, longer, next);
        seen = read ∙ sym (drop_next es k e here) ∙ ap (λ (p : ℕ). drop p es) start;
        before = λ m under. below_more (λ p. flows (passing o (drop (length es - p) es)) < o.request.number) n back.before few m (omega (arith, under, longer));
      }

  back_more : (looks : List LookMade) (look : LookMade) → IsBack o es looks → length looks < o.size → flows (passing o (drop (length es - length looks) es)) < o.request.number
      → look.position ≡ o.low + o.size - 1 - length looks → IsGot cap log look → IsBack o es (plus looks look)
  back_more looks look back less few at got =
      let k = length es - 1 - length looks in
      let place : look.position ≡ o.low + k = omega (arith, at, has.size, less) in
      let here = has.reads k got.0 (subst (λ (p : ℕ). slice_get log p ≡ Some got.0) place got.2) in
      back_with looks look got.0 here.0 k back few (omega (arith, less, has.size)) here.1 got.1 here.2

  -- how many flows were read
  flows_read : (looks : List LookMade) → IsBack o es looks → flows (read_newest o.request looks) ≡ flows (passing o (drop (length es - length looks) es))
  flows_read looks back =
      sym (flows_turned (read_newest o.request looks)) ∙ ap flows (filter_turned o.request (found_events looks)) ∙ ap (λ (seen : List Event). flows (passing o seen)) back.seen

  back_on : (before looks : List LookMade) → IsBack o es before → AreOwn o Backwards before → AreMadeAfter o before looks → AllByRecursion (IsGot cap log) looks → IsBack o es (before ++ looks)
  back_on before [] back own made got = subst (IsBack o es) (sym (append-nil before)) back
  back_on before (look ∷ looks) back own made got =
      let s = o.request in
      let one = backwards_alone o way alone in
      let full = nat_le o.size (length before) in
      let enough = are_enough s (flows (read_newest s before)) in
      let gone = nat_lt 0 (length (gone_last o.low before)) in
      let going : (full || (enough || gone)) ≡ false = sym (ended_alone o Backwards one before own) ∙ made.0 in
      let less : length before < o.size = leb-false o.size (length before) (first_false full (enough || gone) going) in
      let few : flows (read_newest s before) < s.number =
      few_of s (flows (read_newest s before)) some (first_false enough gone (second_false full (enough || gone) going)) in
      let more = back_more before look back less (omega (arith, few, flows_read before back)) (made.1 ∙ place_alone o Backwards one before own made.0) got.0 in
      subst (IsBack o es) (append_assoc before (look ∷ []) looks) (back_on (plus before look) looks more (own_more o Backwards one before look own made.0) made.2 got.1)

  -- from a later event on there are fewer flows
  later_few : (looks : List LookMade) (m : ℕ) → IsBack o es looks → length es - length looks < m → flows (passing o (drop m es)) < o.request.number
  later_few looks m back after =
      elim (cases_lt (length es) m) [
        | inl past ↦ omega (arith, ap (λ (x : List Event). flows (passing o x)) (drop_all m es (omega (arith, past))), some)
        | inr within ↦
            let same : length es - (length es - m) ≡ m = omega (arith, within) in
            subst (λ (p : ℕ). flows (passing o (drop p es)) < o.request.number) same (back.before (length es - m) (omega (arith, within, after)))
      ]

  pub gives_back : (bytes : List ℕ) → IsReply o cap log bytes → GivesBack o es bytes
  gives_back bytes is =
      let s = o.request in
      let looks = is.looks in
      let start = length es - length looks in
      let one = backwards_alone o way alone in
      let own = own_made o Backwards one [] looks refl is.made in
      let back = back_on [] looks (no_back o es) refl is.made is.got in
      let none : gone_last o.low looks ≡ [] = none_after cap o.low log None looks refl is.got in
      let ended : backward_has_ended o looks ≡ true = sym (ended_alone o Backwards one looks own) ∙ is.ended in
      let given : reply o looks ≡ passing o (drop start es) =
      reply_alone o Backwards one looks own
      ∙ when_true (backward_has_ended o looks) (gone_last o.low looks ++ reverse (read_newest s looks)) [] ended
      ∙ ap (λ (gone : List Event). gone ++ reverse (read_newest s looks)) none
      ∙ filter_turned s (found_events looks)
      ∙ ap (passing o) back.seen in record {
        start = start;
        whole = is.whole
            ∙ ap (λ (fs : List Frame). spelled (event_frames o.name (reply o looks) ++ fs)) (when_true (has_ended o looks) (status_frame ∷ []) [] is.ended)
            ∙ ap (frames_of o) given;
        later = λ m after. later_few looks m back after;
        ends = elim (or_cases (nat_le o.size (length looks)) (are_enough s (flows (read_newest s looks)) || nat_lt 0 (length (gone_last o.low looks))) ended) [
          | inl end ↦ inl (omega (arith, leb-true o.size (length looks) end, has.size))
          | inr more ↦ elim (or_cases (are_enough s (flows (read_newest s looks))) (nat_lt 0 (length (gone_last o.low looks))) more) [
            | inl enough ↦ inr (omega (arith, enough_of s (flows (read_newest s looks)) enough, flows_read looks back))
            | inr gone ↦ absurd (omega (arith, ltb-true 0 (length (gone_last o.low looks)) gone, ap length none))
          ]
        ];
      }
