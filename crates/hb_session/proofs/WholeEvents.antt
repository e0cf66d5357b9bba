-- A log whose records are events, and the one reply of looks that each got their record.
use Rattle.std.proofs.Common.{◌≡◌, ℕ, zero, suc, ◌+◌, List, [], ◌∷◌, length, map, drop, Some, refl, ap, subst, ◌∙◌, arith, slice_get, length-drop, true, false, ◌++◌, sym, append_assoc}
use Rattle.std.proofs.lemmas.List.{length-map, append-nil}
use Rattle.hb_flow.specs.declared.event.Event.{Event}
use Rattle.hb_session.specs.Events.{event_of_record}
use Rattle.hb_session.specs.Openings.{Opening}
use Rattle.hb_session.specs.Whole.{HasEvents, IsGot, IsReply}
use Rattle.std.specs.List.{AllByRecursion}
use Rattle.hb_look.specs.Looks.{Found, Got, LookMade}
use Rattle.hb_session.specs.Replies.{has_ended, owed, spelled, AreMadeAfter}

-- each record of the window holds the event at its place
pub record Holds (o : Opening) (log : List (List ℕ)) (es : List Event) : Type 0 where
  pub size : length es ≡ o.size
  pub reads : (k : ℕ) (bytes : List ℕ) → slice_get log (o.low + k) ≡ Some bytes → (e : Event) × (slice_get es k ≡ Some e) × (event_of_record bytes ≡ Some e)

event_at : (records : List (List ℕ)) (es : List Event) (k : ℕ) (bytes : List ℕ) → map event_of_record records ≡ map Some es → slice_get records k ≡ Some bytes
    → (e : Event) × (slice_get es k ≡ Some e) × (event_of_record bytes ≡ Some e)
event_at [] es k bytes are is = absurd cc
event_at (r ∷ rs) [] k bytes are is = absurd cc
event_at (r ∷ rs) (e ∷ es) zero bytes are is =
    let first : event_of_record r ≡ Some e = cc in
    let same : r ≡ bytes = cc in
    (e, refl, subst (λ (b : List ℕ). event_of_record b ≡ Some e) same first)
event_at (r ∷ rs) (e ∷ es) (suc k) bytes are is =
    let others : map event_of_record rs ≡ map Some es = cc in
    event_at rs es k bytes others is

get_dropped : (low : ℕ) (log : List (List ℕ)) (k : ℕ) → slice_get (drop low log) k ≡ slice_get log (low + k)
get_dropped zero log k = let same : k ≡ 0 + k = omega arith in ap (slice_get log) same
get_dropped (suc low) [] k = refl
get_dropped (suc low) (r ∷ log) k = let same : suc (low + k) ≡ suc low + k = omega arith in get_dropped low log k ∙ ap (slice_get (r ∷ log)) same

pub holds : (o : Opening) (log : List (List ℕ)) (es : List Event) → HasEvents o log es → Holds o log es
holds o log es has = record {
  size = omega (arith, has.ends, ap length has.held, length-map (drop o.low log) event_of_record, length-map es Some, length-drop o.low log);
  reads = λ k bytes is. event_at (drop o.low log) es k bytes has.held (get_dropped o.low log k ∙ is);
}

-- two looks at one place that got its record are one
same_look : (cap : ℕ) (log : List (List ℕ)) (x y : LookMade) → x.position ≡ y.position → IsGot cap log x → IsGot cap log y → x ≡ y
same_look cap log x y at p q =
    let bytes : Some p.0 ≡ Some q.0 = sym p.2 ∙ ap (slice_get log) at ∙ q.2 in
    let found : x.found ≡ y.found = p.1 ∙ (let same : p.0 ≡ q.0 = cc in ap Got same) ∙ sym q.1 in
    let moment : x.moment ≡ y.moment = p.3 ∙ sym q.3 in
    let capacity : x.capacity ≡ y.capacity = p.4 ∙ sym q.4 in
    ap (λ (n : ℕ). record { position = n; found = x.found; moment = x.moment; capacity = x.capacity }) at
    ∙ ap (λ (f : Found). record { position = y.position; found = f; moment = x.moment; capacity = x.capacity }) found
    ∙ ap (λ (n : ℕ). record { position = y.position; found = y.found; moment = n; capacity = x.capacity }) moment
    ∙ ap (λ (n : ℕ). record { position = y.position; found = y.found; moment = y.moment; capacity = n }) capacity

-- looks that go on after an end
past_end : (o : Opening) (before : List LookMade) → has_ended o before ≡ false → has_ended o (before ++ []) ≡ true → {P : Type 0} → P
past_end o before not ended = let end : has_ended o before ≡ true = ap (has_ended o) (sym (append-nil before)) ∙ ended in absurd cc

same_looks : (o : Opening) (cap : ℕ) (log : List (List ℕ)) (before xs ys : List LookMade) → AreMadeAfter o before xs → AreMadeAfter o before ys → AllByRecursion (IsGot cap log) xs → AllByRecursion (IsGot cap log) ys
    → has_ended o (before ++ xs) ≡ true → has_ended o (before ++ ys) ≡ true → xs ≡ ys
same_looks o cap log before [] [] p q g h e f = refl
same_looks o cap log before [] (y ∷ ys) p q g h e f = past_end o before q.0 e
same_looks o cap log before (x ∷ xs) [] p q g h e f = past_end o before p.0 f
same_looks o cap log before (x ∷ xs) (y ∷ ys) p q g h e f =
    let first : x ≡ y = same_look cap log x y (p.1 ∙ sym q.1) g.0 h.0 in
    let made : AreMadeAfter o (before ++ x ∷ []) ys = subst (λ (look : LookMade). AreMadeAfter o (before ++ look ∷ []) ys) (sym first) q.2 in
    let left = ap (has_ended o) (append_assoc before (x ∷ []) xs) ∙ e in
    let right = ap (has_ended o) (append_assoc before (x ∷ []) ys) ∙ ap (λ (look : LookMade). has_ended o (before ++ look ∷ ys)) first ∙ f in
    ap (λ (look : LookMade). look ∷ xs) first ∙ ap (λ (looks : List LookMade). y ∷ looks) (same_looks o cap log (before ++ x ∷ []) xs ys p.2 made g.1 h.1 left right)

pub reply_once : (o : Opening) (cap : ℕ) (log : List (List ℕ)) (a b : List ℕ) → IsReply o cap log a → IsReply o cap log b → a ≡ b
reply_once o cap log a b p q = p.whole ∙ ap (λ (looks : List LookMade). spelled (owed o looks)) (same_looks o cap log [] p.looks q.looks p.made q.made p.got q.got p.ended q.ended) ∙ sym q.whole
