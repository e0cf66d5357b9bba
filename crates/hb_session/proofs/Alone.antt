-- A reply that does not follow is one reading, and all looks that are made for it are that reading's own.
use Rattle.std.proofs.Common.{◌≡◌, ℕ, ◌-◌, Bool, true, false, cond, not, ◌&&◌, ◌||◌, List, [], ◌∷◌, ◌++◌, Option, Some, None, refl, sym, ap, ◌∙◌, append_assoc, subst, arith}
use Rattle.std.specs.Prelude.{nat_lt, nat_le}
use Rattle.std.specs.Option.{is_none}
use Rattle.std.proofs.Math.Bool.{or-false}
use Rattle.std.proofs.lemmas.List.{append-nil}
use Rattle.hb_look.specs.Looks.{LookMade}
use Rattle.hb_api.specs.declared.request.GetFlowsRequest.{GetFlowsRequest}
use Rattle.hb_session.specs.declared.span.Span.{Span}
use Rattle.hb_session.specs.Openings.{Opening, Reading, Backwards, Forwards, top, is_backward, are_enough, forward_start, forward_end, readings_behind, readings}
use Rattle.hb_session.specs.Events.{flows}
use Rattle.hb_session.specs.Marks.{size_of, is_through}
use Rattle.hb_session.specs.Forward.{are_given, forward}
use Rattle.hb_session.specs.Replies.{given_by, is_over, place_in, shared, reply_by, going_by, has_ended, place, reply, AreMadeAfter}
use Rattle.hb_session.proofs.Bools.{when_true, when_false}
use Rattle.hb_session.proofs.Replies.{plus, parted_more, place_now}
use Rattle.hb_session.proofs.Steps.{over_if}

-- the window
abbrev pub window : Opening → Span
window o = record { start = o.low; end = Some (top o) }

pub window_size : (o : Opening) → size_of (window o) ≡ Some o.size
window_size o = let same : top o - o.low ≡ o.size = omega arith in ap (λ (n : ℕ). Some n) same

-- ---- one reading

forwards_by : (o : Opening) (b : Bool) → b ≡ false → forward_end o ≡ cond b None (Some (top o)) → o.request.follow ≡ b
    → record { start = forward_start o; end = forward_end o } ≡ window o
forwards_by o b not end follow =
    ap (λ (e : Option ℕ). record { start = forward_start o; end = e }) (end ∙ ap (λ (x : Bool). cond x None (Some (top o))) not)
    ∙ ap (λ (n : ℕ). record { start = n; end = Some (top o) }) (ap (λ (x : Bool). cond (x && is_none o.request.since) (top o) o.low) (follow ∙ not))

pub forwards_alone : (o : Opening) → is_backward o.request ≡ false → o.request.follow ≡ false → readings o ≡ Forwards (window o) ∷ []
forwards_alone o way alone =
    when_false (is_backward o.request) (Backwards ∷ readings_behind o) _ way
    ∙ ap (λ (span : Span). Forwards span ∷ []) (forwards_by o o.request.follow alone refl refl)

pub backwards_alone : (o : Opening) → is_backward o.request ≡ true → o.request.follow ≡ false → readings o ≡ Backwards ∷ []
backwards_alone o way alone =
    when_true (is_backward o.request) (Backwards ∷ readings_behind o) _ way
    ∙ ap (λ (rs : List Reading). Backwards ∷ rs) (when_false o.request.follow _ [] alone)

-- the reading of a reply, by whether it is backwards
abbrev pub one_of : Opening → Bool → Reading
one_of o true = Backwards
one_of o false = Forwards (window o)

pub alone_by : (o : Opening) (b : Bool) → is_backward o.request ≡ b → o.request.follow ≡ false → readings o ≡ one_of o b ∷ []
alone_by o true way alone = backwards_alone o way alone
alone_by o false way alone = forwards_alone o way alone

-- ---- its own looks

abbrev pub AreOwn : Opening → Reading → List LookMade → Type 0
AreOwn o reading looks = shared o reading looks ≡ (looks, [])

module _ (o : Opening) (reading : Reading) (one : readings o ≡ reading ∷ []) where
  pub ended_alone : (looks : List LookMade) → AreOwn o reading looks → has_ended o looks ≡ is_over o reading looks
  ended_alone looks own =
      ap (λ (rs : List Reading). is_none (going_by o rs looks)) one
      ∙ sym (over_if (is_over o reading (shared o reading looks).0) (record { reading = reading; looks = (shared o reading looks).0 }))
      ∙ ap (λ (s : List LookMade × List LookMade). is_over o reading s.0) own

  pub reply_alone : (looks : List LookMade) → AreOwn o reading looks → reply o looks ≡ given_by o reading looks
  reply_alone looks own =
      ap (λ (rs : List Reading). reply_by o rs looks) one
      ∙ append-nil (given_by o reading (shared o reading looks).0) ∙ ap (λ (s : List LookMade × List LookMade). given_by o reading s.0) own

  pub place_alone : (looks : List LookMade) → AreOwn o reading looks → has_ended o looks ≡ false → place o looks ≡ place_in o reading looks
  place_alone looks own not =
      place_now o looks (record { reading = reading; looks = looks })
      (ap (λ (rs : List Reading). going_by o rs looks) one
      ∙ ap (λ (s : List LookMade × List LookMade). cond (is_over o reading s.0) None (Some (record { reading = reading; looks = s.0 }))) own
      ∙ when_false (is_over o reading looks) None _ (sym (ended_alone looks own) ∙ not))

  pub own_more : (looks : List LookMade) (look : LookMade) → AreOwn o reading looks → has_ended o looks ≡ false → AreOwn o reading (plus looks look)
  own_more looks look own not =
      parted_more (is_over o reading) [] looks look
      ∙ ap (λ (s : List LookMade × List LookMade). cond (is_over o reading s.0) (s.0, plus s.1 look) (plus s.0 look, [])) own
      ∙ when_false (is_over o reading looks) _ _ (sym (ended_alone looks own) ∙ not)

  pub own_made : (before looks : List LookMade) → AreOwn o reading before → AreMadeAfter o before looks → AreOwn o reading (before ++ looks)
  own_made before [] own made = subst (AreOwn o reading) (sym (append-nil before)) own
  own_made before (look ∷ looks) own made =
      subst (AreOwn o reading) (append_assoc before (look ∷ []) looks) (own_made (plus before look) looks (own_more before look own made.0) made.2)

-- ---- forwards

given_by_number : (n : Bool) (first enough : Bool) → (n && not first) ≡ false → (first && (n && enough)) ≡ (n && enough)
given_by_number n true enough not = refl
given_by_number true false enough not = absurd cc
given_by_number false false enough not = refl

-- where flows are asked for by number, they are the first
pub are_enough_given : (r : GetFlowsRequest) (count : ℕ) → is_backward r ≡ false → are_given r count ≡ are_enough r count
are_enough_given r count way = given_by_number (nat_lt 0 r.number) r.first (nat_le r.number count) way

pub ended_window : (o : Opening) (looks : List LookMade) → is_backward o.request ≡ false → o.request.follow ≡ false → AreOwn o (Forwards (window o)) looks
    → has_ended o looks ≡ (is_through (window o) looks || are_enough o.request (flows (forward o (window o) looks)))
ended_window o looks way alone own =
    ended_alone o (Forwards (window o)) (forwards_alone o way alone) looks own
    ∙ ap (λ (b : Bool). is_through (window o) looks || b) (or-false (are_given o.request (flows (forward o (window o) looks))))
    ∙ ap (λ (b : Bool). is_through (window o) looks || b) (are_enough_given o.request (flows (forward o (window o) looks)) way)
