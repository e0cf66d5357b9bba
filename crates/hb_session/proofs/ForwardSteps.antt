-- A span that is read forwards, with one more look.
use Rattle.std.proofs.Common.{◌≡◌, ℕ, ◌+◌, Bool, true, false, cond, not, List, [], ◌∷◌, ◌++◌, Option, Some, None, refl, arith, zero, suc, ◌-◌, ◌*◌, ◌<◌, ◌≤◌, min, ◌&&◌, ◌||◌, sym, ap, ◌∙◌, length, replicate, inl, inr, subst}
use Rattle.std.specs.Prelude.{◌==◌}
use Rattle.std.specs.Option.{is_none, option_map, option_map_or, ForSome}
use Rattle.std.specs.List.{flat_map, count_by, list_any}
use Rattle.std.proofs.Math.Bool.{or-false}
use Rattle.std.proofs.lemmas.Bool.{eqb-false, cases_lt, cases_eq, eq-eqb, ne_eqb}
use Rattle.std.proofs.lemmas.List.{append-nil, length-append, length-replicate}
use Rattle.hb_look.specs.Looks.{Found, LookMade, Got, Gone, NotYet, place_after}
use Rattle.hb_flow.specs.declared.event.Event.{Event}
use Rattle.hb_api.specs.declared.request.GetFlowsRequest.{GetFlowsRequest}
use Rattle.hb_session.specs.declared.counts.Counts.{Counts}
use Rattle.hb_session.specs.declared.loss.Loss.{Loss}
use Rattle.hb_session.specs.declared.span.Span.{Span}
use Rattle.hb_session.specs.Openings.{Opening, Forwards}
use Rattle.hb_session.specs.Events.{passes, flows, event_of_record, lost_event}
use Rattle.hb_session.specs.Marks.{Read, Mark, Over, event_found, passed_over, marks_of, marks, is_through, parts_of, closed}
use Rattle.hb_session.specs.Forward.{given_of, are_given, is_late, is_past, is_given, is_skipped, forward, forward_has_ended, is_lost, sums}
use Rattle.hb_session.specs.Steps.{Forward, loss_events, bytes_of, given, skipped, given_or_skipped, Step, is_at_end, forward_is_over, loss_count, lost, lost_at_end, forward_read, forward_gone}
use Rattle.hb_session.specs.Stands.{open_part, IsForwardAt}
use Rattle.hb_session.proofs.Windows.{fewer_than, marks_got, marks_gone, at_most, gone_size, with_got, with_gone, with_none}
use Rattle.hb_session.proofs.Replies.{plus, reach_more, bytes_more, count_more, flows_more, events_of, GivesMore}
use Rattle.hb_session.proofs.Bools.{first_false, second_false, and_false, or_both}

-- ---- what a record that was read leaves

pub loss_given : (r : GetFlowsRequest) (loss : Option Loss) → flat_map (given_of r) (open_part loss) ≡ loss_events loss
loss_given r None = refl
loss_given r (Some loss) = refl

pub no_flows : (loss : Option Loss) → flows (loss_events loss) ≡ 0
no_flows None = refl
no_flows (Some loss) = refl

-- what a record that was read leaves, by the events that it gives, and whether it counts as given or as skipped
pub record ReadLeaves (f new : Forward) (events : List Event) (is_given is_skipped : Bool) : Type 0 where
  pub place : new.place ≡ f.place + 1
  pub end : new.end ≡ f.end
  pub flows : new.flows ≡ f.flows + flows events
  pub loss : new.loss ≡ None
  pub given : new.counts.given ≡ f.counts.given + cond is_given 1 0
  pub skipped : new.counts.skipped ≡ f.counts.skipped + cond is_skipped 1 0
  pub lost : new.counts.lost ≡ f.counts.lost

-- where it is passed over
leaves_skipped : (f : Forward) → ReadLeaves f (skipped f) [] false true
leaves_skipped f = record {
  place = refl;
  end = refl;
  flows = omega arith;
  loss = refl;
  given = omega arith;
  skipped = refl;
  lost = refl;
}

-- where its event passes
leaves_given : (f : Forward) (event : Event) → ReadLeaves f (given f event) (event ∷ []) true false
leaves_given f event = record {
  place = refl;
  end = refl;
  flows = omega arith;
  loss = refl;
  given = refl;
  skipped = omega arith;
  lost = refl;
}

leaves_by : (f : Forward) (event : Event) (b : Bool) → ReadLeaves f (cond b (given f event) (skipped f)) (cond b (event ∷ []) []) b (not b)
leaves_by f event true = leaves_given f event
leaves_by f event false = leaves_skipped f

pub read_leaves : (o : Opening) (f : Forward) (event : Option Event)
    → ReadLeaves f (given_or_skipped o f event) (events_of o event) (is_given o.request (Read event)) (is_skipped o.request (Read event))
read_leaves o f None = leaves_skipped f
read_leaves o f (Some event) = leaves_by f event (passes o.request event)

-- ---- a step forwards

-- what is known of a span that goes on forwards
pub record GoesForward (o : Opening) (span : Span) (f : Forward) (own : List LookMade) : Type 0 where
  pub through : is_through span own ≡ false
  pub few : are_given o.request (flows (forward o span own)) ≡ false
  pub past : is_past o span.end own ≡ false
  pub counts : f.counts ≡ sums o.request (marks span own)
  pub at : IsForwardAt o span f own

pub goes_forward : (o : Opening) (span : Span) (f : Forward) (own : List LookMade) → forward_has_ended o span own ≡ false → f.counts ≡ sums o.request (marks span own)
    → IsForwardAt o span f own → GoesForward o span f own
goes_forward o span f own not counts at =
    let other = second_false (is_through span own) _ not in record {
      through = first_false (is_through span own) _ not;
      few = first_false (are_given o.request (flows (forward o span own))) _ other;
      past = second_false (are_given o.request (flows (forward o span own))) _ other;
      counts = counts;
      at = at;
    }

-- a step forwards is that of more looks
pub record IsForwardStep (o : Opening) (span : Span) (own new : List LookMade) (step : Step Forward) : Type 0 where
  pub gives : GivesMore o (Forwards span) own new step.put step.ended
  pub counts : step.state.counts ≡ sums o.request (marks span new)
  pub on : step.ended ≡ false → IsForwardAt o span step.state new

-- a flow that is too late is found by the last look or by one before it
any_more : {X : Type 0} (p : X → Bool) (xs : List X) (x : X) → list_any p (xs ++ x ∷ []) ≡ (list_any p xs || p x)
any_more p [] x = or-false (p x)
any_more p (y ∷ xs) x = ap (λ (b : Bool). p y || b) (any_more p xs x) ∙ or_both (p y) (list_any p xs) (p x)

past_more : (o : Opening) (end : Option ℕ) (own : List LookMade) (look : LookMade) → is_past o end own ≡ false
    → is_past o end (plus own look) ≡ (is_none end && is_late o look.position (event_found look.found))
past_more o (Some end) own look not = refl
past_more o None own look not =
    let late : LookMade → Bool = λ l. is_late o l.position (event_found l.found) in
    any_more late own look ∙ ap (λ (b : Bool). b || late look) not

-- the end of a span is reached where all of its positions were passed over
pub end_by : (start : ℕ) (end : Option ℕ) (n place : ℕ) → place ≡ start + n → ForSome end (λ e. start ≤ e)
    → option_map_or (λ e. place == e) end false ≡ option_map_or (λ size. n == size) (option_map (λ e. e - start) end) false
end_by start None n place is below = refl
end_by start (Some e) n place is below =
    let from : start ≤ e = below e refl in
    elim (cases_eq place e) [
      | inl same ↦ eq-eqb place e same ∙ sym (eq-eqb n (e - start) (omega (arith, is, same, from)))
      | inr other ↦ ne_eqb place e other ∙ sym (ne_eqb n (e - start) (λ same. other (omega (arith, is, same, from))))
    ]

-- a span that goes on starts before its end, and its place is before that too
start_below : (span : Span) (own : List LookMade) → is_through span own ≡ false → ForSome span.end (λ e. span.start + length (marks span own) < e)
start_below span own not e is =
    let less = fewer_than span own not (e - span.start) (ap (λ (x : Option ℕ). option_map (λ (end : ℕ). end - span.start) x) is) in
    omega (arith, less)

end_is : (span : Span) (own new : List LookMade) (f : Forward) → is_through span own ≡ false → f.place ≡ span.start + length (marks span new) → f.end ≡ span.end
    → is_at_end f ≡ is_through span new
end_is span own new f not place end =
    ap (λ (x : Option ℕ). option_map_or (λ e. f.place == e) x false) end
    ∙ end_by span.start span.end (length (marks span new)) f.place place (λ e is. let less = start_below span own not e is in omega (arith, less))

-- what is given forwards with more looks
gives_forward : (o : Opening) (span : Span) (own new : List LookMade) (f : Forward) (late : Bool) (put : List ℕ) (events : List Event) → is_through span own ≡ false
    → forward o span new ≡ forward o span own ++ events → put ≡ bytes_of o events → f.place ≡ span.start + length (marks span new) → f.end ≡ span.end
    → f.flows ≡ flows (forward o span new) → late ≡ is_past o span.end new
    → GivesMore o (Forwards span) own new put (forward_is_over o f late)
gives_forward o span own new f late put events not more bytes place end given late_is = record {
  events = events;
  more = more;
  bytes = bytes;
  at_end = ap (λ (b : Bool). b || (are_given o.request f.flows || late)) (end_is span own new f not place end)
      ∙ ap (λ (n : ℕ). is_through span new || (are_given o.request n || late)) given
      ∙ ap (λ (b : Bool). is_through span new || (are_given o.request (flows (forward o span new)) || b)) late_is;
}

counts_are : (c d : Counts) → c.given ≡ d.given → c.skipped ≡ d.skipped → c.lost ≡ d.lost → c ≡ d
counts_are c d g s l =
    ap (λ (n : ℕ). record { given = n; skipped = c.skipped; lost = c.lost }) g
    ∙ ap (λ (n : ℕ). record { given = d.given; skipped = n; lost = c.lost }) s
    ∙ ap (λ (n : ℕ). record { given = d.given; skipped = d.skipped; lost = n }) l

-- the counts with more positions
sums_are : (r : GetFlowsRequest) (ms more all : List Mark) (c d : Counts) → all ≡ ms ++ more → c ≡ sums r ms → d.given ≡ c.given + count_by (is_given r) more
    → d.skipped ≡ c.skipped + count_by (is_skipped r) more → d.lost ≡ c.lost + count_by is_lost more → d ≡ sums r all
sums_are r ms more all c d is before given skipped lost =
    let whole : (p : Mark → Bool) → count_by p all ≡ count_by p ms + count_by p more = λ p. ap (count_by p) is ∙ count_more p ms more in
    counts_are d (sums r all)
    (omega (arith, given, ap (λ (c : Counts). c.given) before, whole (is_given r)))
    (omega (arith, skipped, ap (λ (c : Counts). c.skipped) before, whole (is_skipped r)))
    (omega (arith, lost, ap (λ (c : Counts). c.lost) before, whole is_lost))

one_is : (p : Mark → Bool) (event : Option Event) → count_by p (Read event ∷ []) ≡ cond (p (Read event)) 1 0
one_is p event = omega arith

-- of positions that are alike all count or none
count_alike : (p : Mark → Bool) (m : Mark) (k n : ℕ) → count_by p (m ∷ []) ≡ n → count_by p (replicate k m) ≡ k * n
count_alike p m zero n one = omega arith
count_alike p m (suc k) n one = count_more p (m ∷ []) (replicate k m) ∙ omega (arith, one, count_alike p m k n one)

no_flows_if : (b : Bool) (count moment : ℕ) → flows (cond b (lost_event count moment ∷ []) []) ≡ 0
no_flows_if true count moment = refl
no_flows_if false count moment = refl

bytes_if : (o : Opening) (b : Bool) (es : List Event) → cond b (bytes_of o es) [] ≡ bytes_of o (cond b es [])
bytes_if o true es = refl
bytes_if o false es = refl

-- as many positions are found overwritten as are before the next one, or before the end
gone_by : (start : ℕ) (end : Option ℕ) (n place next : ℕ) → place ≡ start + n → ForSome end (λ e. start + n < e)
    → at_most (option_map (λ m. m - n) (option_map (λ e. e - start) end)) (next - place) ≡ option_map_or (λ e. min next e) end next - place
gone_by start None n place next is below = refl
gone_by start (Some e) n place next is below =
    let less : start + n < e = below e refl in
    elim (cases_lt next e) [
      | inl before ↦ omega (arith, is, less, before)
      | inr behind ↦ omega (arith, is, less, behind)
    ]

-- where the span goes on, it goes on where the look said
goes_to : (end : Option ℕ) (place next k : ℕ) → place < next → k ≡ option_map_or (λ e. min next e) end next - place
    → option_map_or (λ e. (place + k) == e) end false ≡ false → ForSome end (λ e. place < e) → next ≡ place + k
goes_to None place next k moves is not below = omega (arith, moves, is)
goes_to (Some e) place next k moves is not below =
    let less : place < e = below e refl in
    let other = eqb-false (place + k) e not in
    elim (cases_lt next e) [
      | inl before ↦ omega (arith, moves, is, before)
      | inr behind ↦ absurd (other (omega (arith, is, behind, less)))
    ]

-- ---- one more look

module _ (o : Opening) (span : Span) (f : Forward) (own : List LookMade) (look : LookMade) (is : GoesForward o span f own) (at : look.position ≡ f.place) where
  abbrev r : GetFlowsRequest
  r = o.request

  abbrev new : List LookMade
  new = plus own look

  abbrev all : List Mark
  all = marks span new

  late_is : (found : Found) → look.found ≡ found → (is_none f.end && is_late o f.place (event_found found)) ≡ is_past o span.end new
  late_is found same =
      ap (λ (x : Option ℕ). is_none x && is_late o f.place (event_found found)) is.at.end
      ∙ ap (λ (n : ℕ). is_none span.end && is_late o n (event_found found)) (sym at)
      ∙ ap (λ (x : Found). is_none span.end && is_late o look.position (event_found x)) (sym same)
      ∙ sym (past_more o span.end own look is.past)

  read_more : (g : Forward) (bytes : List ℕ) → look.found ≡ Got bytes
      → ReadLeaves f g (events_of o (event_of_record bytes)) (is_given r (Read (event_of_record bytes))) (is_skipped r (Read (event_of_record bytes)))
      → IsForwardStep o span own new (record {
        state = g;
        put = bytes_of o (loss_events f.loss) ++ bytes_of o (events_of o (event_of_record bytes));
        ended = forward_is_over o g (is_none f.end && is_late o f.place (event_of_record bytes));
      })
  read_more g bytes found leaves =
      let event = event_of_record bytes in
      let L = loss_events f.loss in
      let G = events_of o event in
      let both = with_got o span own look bytes f.loss is.through is.at.loss found in
      let more : forward o span new ≡ forward o span own ++ (L ++ G) =
      both.0 ∙ ap (λ (es : List Event). forward o span own ++ (es ++ G)) (loss_given r f.loss) in
      let ms : all ≡ marks span own ++ Read event ∷ [] = marks_got span own look bytes is.through found in
      let place : g.place ≡ span.start + length all =
      omega (arith, leaves.place, is.at.place, ap length ms, length-append (marks span own) (Read event ∷ [])) in
      let flows_are : g.flows ≡ flows (forward o span new) =
      omega (arith, leaves.flows, is.at.flows, ap flows more, flows_more (forward o span own) (L ++ G), flows_more L G, no_flows f.loss) in
      let next : place_after look.position look.found ≡ look.position + 1 = ap (place_after look.position) found in record {
        gives = gives_forward o span own new g _ _ (L ++ G) is.through more (sym (bytes_more o L G)) place (leaves.end ∙ is.at.end) flows_are (late_is (Got bytes) found);
        counts = sums_are r (marks span own) (Read event ∷ []) all f.counts g.counts ms is.counts (omega (arith, leaves.given, one_is (is_given r) event))
            (omega (arith, leaves.skipped, one_is (is_skipped r) event)) (omega (arith, leaves.lost, one_is is_lost event));
        on = λ _. record {
          place = place;
          end = leaves.end ∙ is.at.end;
          reach = reach_more span.start own look ∙ next ∙ omega (arith, at, leaves.place);
          flows = flows_are;
          loss = both.1 ∙ ap (λ (l : Option Loss). closed (parts_of all) ++ open_part l) (sym leaves.loss);
        };
      }

  pub read_step : (bytes : List ℕ) → look.found ≡ Got bytes → IsForwardStep o span own new (forward_read o f (event_of_record bytes))
  read_step bytes found = read_more (given_or_skipped o f (event_of_record bytes)) bytes found (read_leaves o f (event_of_record bytes))

  gone_more : (next k : ℕ) → look.found ≡ Gone next → f.place < next
      → k ≡ option_map_or (λ e. min next e) f.end next - f.place → IsForwardStep o span own new (lost_at_end o (lost f k look.moment))
  gone_more next k found moves k_is =
      let end : Forward = lost f k look.moment in
      let loss : Loss = record { count = loss_count f.loss + k; moment = look.moment } in
      let over : List Mark = replicate k (Over look.moment) in
      let below : ForSome span.end (λ e. span.start + length (marks span own) < e) = start_below span own is.through in
      let count : k ≡ option_map_or (λ e. min next e) span.end next - f.place =
      k_is ∙ ap (λ (x : Option ℕ). option_map_or (λ e. min next e) x next - f.place) is.at.end in
      let size_is : gone_size span own look.position next ≡ k =
      ap (λ (n : ℕ). gone_size span own n next) at ∙ gone_by span.start span.end (length (marks span own)) f.place next is.at.place below ∙ sym count in
      let both = with_gone o span own look next f.loss loss is.through is.at.loss found (omega (arith, at, moves))
      (ap (λ (n : ℕ). loss_count f.loss + n) (sym size_is)) refl in
      let ms : all ≡ marks span own ++ over =
      marks_gone span own look next is.through found ∙ ap (λ (n : ℕ). marks span own ++ replicate n (Over look.moment)) size_is in
      let place : f.place + k ≡ span.start + length all =
      omega (arith, is.at.place, ap length ms, length-append (marks span own) over, length-replicate k (Over look.moment)) in
      let through : Bool = is_through span new in
      let events : List Event = cond through (lost_event loss.count loss.moment ∷ []) [] in
      let flows_are : f.flows ≡ flows (forward o span new) =
      omega (arith, is.at.flows, ap flows both.0, flows_more (forward o span own) events, no_flows_if through loss.count loss.moment) in
      let none_late : false ≡ is_past o span.end new = sym (and_false (is_none f.end)) ∙ late_is (Gone next) found in
      let few : are_given r f.flows ≡ false = ap (are_given r) is.at.flows ∙ is.few in
      let at_end : is_at_end end ≡ through = end_is span own new end is.through place is.at.end in
      let done : forward_is_over o end false ≡ through =
      ap (λ (b : Bool). is_at_end end || (b || false)) few ∙ or-false (is_at_end end) ∙ at_end in
      let bytes : (lost_at_end o end).put ≡ bytes_of o events =
      ap (λ (b : Bool). cond b (bytes_of o (lost_event loss.count loss.moment ∷ [])) []) done ∙ bytes_if o through (lost_event loss.count loss.moment ∷ []) in
      let next_is : place_after look.position look.found ≡ next = ap (place_after look.position) found in record {
        gives = gives_forward o span own new end false (lost_at_end o end).put events is.through both.0 bytes place is.at.end flows_are none_late;
        counts = sums_are r (marks span own) over all f.counts end.counts ms is.counts (omega (arith, count_alike (is_given r) (Over look.moment) k 0 refl))
            (omega (arith, count_alike (is_skipped r) (Over look.moment) k 0 refl)) (omega (arith, count_alike is_lost (Over look.moment) k 1 refl));
        on = λ not. record {
          place = place;
          end = is.at.end;
          reach = reach_more span.start own look ∙ next_is ∙ goes_to f.end f.place next k moves k_is (first_false (is_at_end end) _ not)
              (λ e has. let less = below e (sym is.at.end ∙ has) in omega (arith, less, is.at.place));
          flows = flows_are;
          loss = both.1;
        };
      }

  pub gone_step : (next : ℕ) → look.found ≡ Gone next → f.place < next → IsForwardStep o span own new (forward_gone o f next look.moment)
  gone_step next found moves = gone_more next (option_map_or (λ e. min next e) f.end next - f.place) found moves refl

  -- a look that finds nothing yet
  pub none_step : look.found ≡ NotYet → IsForwardStep o span own new (record { state = f; put = []; ended = false })
  none_step found =
      let none : marks_of look ≡ [] = ap (passed_over look.position look.moment) found in
      let both = with_none o span own look is.through none in
      let same : all ≡ marks span own = both.0 in
      let place : f.place ≡ span.start + length all = omega (arith, is.at.place, ap length same) in
      let flows_are : f.flows ≡ flows (forward o span new) = is.at.flows ∙ ap flows (sym both.1) in
      let none_late : false ≡ is_past o span.end new = sym (and_false (is_none f.end)) ∙ late_is NotYet found in
      let more : forward o span new ≡ forward o span own ++ [] = both.1 ∙ sym (append-nil (forward o span own)) in
      let few : are_given r f.flows ≡ false = ap (are_given r) is.at.flows ∙ is.few in
      let at_end : is_at_end f ≡ false = end_is span own own f is.through is.at.place is.at.end ∙ is.through in
      let over : forward_is_over o f false ≡ false =
      ap (λ (b : Bool). b || (are_given r f.flows || false)) at_end ∙ ap (λ (b : Bool). b || false) few in
      let stays : place_after look.position look.found ≡ look.position = ap (place_after look.position) found in record {
        gives = subst (λ (b : Bool). GivesMore o (Forwards span) own new [] b) over
            (gives_forward o span own new f false [] [] is.through more refl place is.at.end flows_are none_late);
        counts = is.counts ∙ ap (sums r) (sym same);
        on = λ _. record {
          place = place;
          end = is.at.end;
          reach = reach_more span.start own look ∙ stays ∙ at;
          flows = flows_are;
          loss = ap parts_of same ∙ is.at.loss ∙ ap (λ (ms : List Mark). closed (parts_of ms) ++ open_part f.loss) (sym same);
        };
      }
