-- The positions of a span that is read forwards and their parts, with one more look.
use Rattle.std.proofs.Common.{◌≡◌, ℕ, zero, suc, ◌+◌, List, [], ◌∷◌, ◌++◌, Option, Some, None, refl, sym, ap, ◌∙◌, append_assoc, arith, replicate, drop, length, ◌-◌, ◌<◌, min, Bool, true, false, cond, take, inl, inr}
use Rattle.std.proofs.lemmas.List.{append-nil, take_all, length-take-le, take-replicate, length-replicate}
use Rattle.hb_flow.specs.declared.event.Event.{Event}
use Rattle.hb_session.specs.declared.loss.Loss.{Loss}
use Rattle.hb_session.specs.Steps.{loss_count}
use Rattle.hb_session.specs.Stands.{open_part}
use Rattle.hb_session.specs.Marks.{Mark, Read, Over, Part, Record, Stretch, with_over, parts_of, closed, passed_over, marks_of, size_of, upto, marks, is_through}
use Rattle.std.specs.Prelude.{◌==◌}
use Rattle.std.specs.List.{flat_map}
use Rattle.std.specs.Option.{option_map, option_map_or, ForSome}
use Rattle.std.proofs.lemmas.Bool.{cases_lt, eqb-false}
use Rattle.std.proofs.Math.Seq.{take-append-add}
use Rattle.std.proofs.lemmas.Grind.{flat_map-append}
use Rattle.hb_look.specs.Looks.{Found, Got, Gone, LookMade}
use Rattle.hb_session.specs.declared.span.Span.{Span}
use Rattle.hb_session.specs.Openings.{Opening}
use Rattle.hb_session.specs.Events.{event_of_record, lost_event}
use Rattle.hb_session.specs.Forward.{given_of, forward}
use Rattle.hb_session.proofs.Bools.{same_if}

-- ---- the parts of positions, when more positions follow

-- a stretch that is open at the end of positions
abbrev pub IsOpen : List Mark → Option Loss → Type 0
IsOpen marks loss = parts_of marks ≡ closed (parts_of marks) ++ open_part loss

-- one more overwritten position after parts
abbrev add_over : ℕ → List Part → List Part
add_over m [] = Stretch 1 m ∷ []
add_over m (Record e ∷ ps) = Record e ∷ add_over m ps
add_over m (Stretch c x ∷ []) = Stretch (suc c) m ∷ []
add_over m (Stretch c x ∷ p ∷ ps) = Stretch c x ∷ add_over m (p ∷ ps)

over_both : (x m : ℕ) (ps : List Part) → with_over x (add_over m ps) ≡ add_over m (with_over x ps)
over_both x m [] = refl
over_both x m (Record e ∷ ps) = refl
over_both x m (Stretch c y ∷ []) = refl
over_both x m (Stretch c y ∷ p ∷ ps) = refl

parts_over : (ms : List Mark) (m : ℕ) → parts_of (ms ++ Over m ∷ []) ≡ add_over m (parts_of ms)
parts_over [] m = refl
parts_over (Read e ∷ ms) m = ap (λ ps. Record e ∷ ps) (parts_over ms m)
parts_over (Over x ∷ ms) m = ap (with_over x) (parts_over ms m) ∙ over_both x m (parts_of ms)

over_record : (x : ℕ) (ps : List Part) (e : Option Event) → with_over x (ps ++ Record e ∷ []) ≡ with_over x ps ++ Record e ∷ []
over_record x [] e = refl
over_record x (Record y ∷ ps) e = refl
over_record x (Stretch c y ∷ ps) e = refl

-- with one more record
pub parts_read : (ms : List Mark) (e : Option Event) → parts_of (ms ++ Read e ∷ []) ≡ parts_of ms ++ Record e ∷ []
parts_read [] e = refl
parts_read (Read x ∷ ms) e = ap (λ ps. Record x ∷ ps) (parts_read ms e)
parts_read (Over x ∷ ms) e = ap (with_over x) (parts_read ms e) ∙ over_record x (parts_of ms) e

-- parts that a record ends are closed
pub closed_record : (ps : List Part) (e : Option Event) → closed (ps ++ Record e ∷ []) ≡ ps ++ Record e ∷ []
closed_record [] e = refl
closed_record (Record x ∷ ps) e = ap (λ qs. Record x ∷ qs) (closed_record ps e)
closed_record (Stretch c x ∷ []) e = refl
closed_record (Stretch c x ∷ p ∷ ps) e = ap (λ qs. Stretch c x ∷ qs) (closed_record (p ∷ ps) e)

-- a stretch that ends parts is open
pub closed_stretch : (ps : List Part) (c m : ℕ) → closed (ps ++ Stretch c m ∷ []) ≡ ps
closed_stretch [] c m = refl
closed_stretch (Record x ∷ ps) c m = ap (λ qs. Record x ∷ qs) (closed_stretch ps c m)
closed_stretch (Stretch d x ∷ []) c m = refl
closed_stretch (Stretch d x ∷ p ∷ ps) c m = ap (λ qs. Stretch d x ∷ qs) (closed_stretch (p ∷ ps) c m)

-- one more overwritten position, after a stretch
after_stretch : (ps : List Part) (c x m : ℕ) → add_over m (ps ++ Stretch c x ∷ []) ≡ ps ++ Stretch (suc c) m ∷ []
after_stretch [] c x m = refl
after_stretch (Record e ∷ ps) c x m = ap (λ qs. Record e ∷ qs) (after_stretch ps c x m)
after_stretch (Stretch d y ∷ []) c x m = refl
after_stretch (Stretch d y ∷ p ∷ ps) c x m = ap (λ qs. Stretch d y ∷ qs) (after_stretch (p ∷ ps) c x m)

-- and where no stretch is open
after_closed : (ps : List Part) (m : ℕ) → ps ≡ closed ps → add_over m ps ≡ ps ++ Stretch 1 m ∷ []
after_closed [] m e = refl
after_closed (Record x ∷ ps) m e = ap (λ qs. Record x ∷ qs) (after_closed ps m (ap (drop 1) e))
after_closed (Stretch d y ∷ []) m e = absurd (let none : 1 ≡ 0 = ap length e in omega arith)
after_closed (Stretch d y ∷ p ∷ ps) m e = ap (λ qs. Stretch d y ∷ qs) (after_closed (p ∷ ps) m (ap (drop 1) e))

-- one more overwritten position joins the open stretch, or opens one
one_over : (ms : List Mark) (loss : Option Loss) (m : ℕ) → IsOpen ms loss
    → parts_of (ms ++ Over m ∷ []) ≡ closed (parts_of ms) ++ Stretch (suc (loss_count loss)) m ∷ []
one_over ms None m is =
    let same : parts_of ms ≡ closed (parts_of ms) = is ∙ append-nil (closed (parts_of ms)) in
    parts_over ms m ∙ after_closed (parts_of ms) m same ∙ ap (λ (ps : List Part). ps ++ Stretch 1 m ∷ []) same
one_over ms (Some loss) m is =
    parts_over ms m ∙ ap (add_over m) is ∙ after_stretch (closed (parts_of ms)) loss.count loss.moment m

-- and so do several, found at one moment
pub more_over : (k : ℕ) (ms : List Mark) (loss : Option Loss) (m : ℕ) → IsOpen ms loss
    → parts_of (ms ++ replicate (suc k) (Over m)) ≡ closed (parts_of ms) ++ Stretch (loss_count loss + suc k) m ∷ []
more_over zero ms loss m is =
    let same : suc (loss_count loss) ≡ loss_count loss + 1 = omega arith in
    one_over ms loss m is ∙ ap (λ (n : ℕ). closed (parts_of ms) ++ Stretch n m ∷ []) same
more_over (suc k) ms loss m is =
    let one = one_over ms loss m is in
    let same : suc (loss_count loss) + suc k ≡ loss_count loss + suc (suc k) = omega arith in
    let next : Loss = record { count = suc (loss_count loss); moment = m } in
    let shut : closed (parts_of (ms ++ Over m ∷ [])) ≡ closed (parts_of ms) =
    ap closed one ∙ closed_stretch (closed (parts_of ms)) (suc (loss_count loss)) m in
    let open_is : IsOpen (ms ++ Over m ∷ []) (Some next) = one ∙ ap (λ (ps : List Part). ps ++ open_part (Some next)) (sym shut) in
    ap parts_of (sym (append_assoc ms (Over m ∷ []) (replicate (suc k) (Over m))))
    ∙ more_over k (ms ++ Over m ∷ []) (Some next) m open_is
    ∙ ap (λ (ps : List Part). ps ++ Stretch (suc (loss_count loss) + suc k) m ∷ []) shut
    ∙ ap (λ (n : ℕ). closed (parts_of ms) ++ Stretch n m ∷ []) same

-- ---- the span

-- all positions that looks passed over, however many
abbrev pub all_marks : List LookMade → List Mark
all_marks looks = flat_map marks_of looks

-- so many positions are left of a size, where there is one
abbrev pub room : Option ℕ → List Mark → Option ℕ
room size ms = option_map (λ n. n - length ms) size

-- where looks did not pass over all of a span, they passed over fewer positions than it has
pub not_all : (size : Option ℕ) (ms : List Mark) → option_map_or (λ n. length (upto size ms) == n) size false ≡ false
    → (upto size ms ≡ ms) × ForSome size (λ n. length ms < n)
not_all None ms not = (refl, λ n e. absurd cc)
not_all (Some n) ms not =
    elim (cases_lt (length ms) n) [
      | inl less ↦ (take_all n ms (omega (arith, less)), λ m e. let same : n ≡ m = cc in omega (arith, less, same))
      | inr enough ↦ absurd (eqb-false (length (take n ms)) n not (length-take-le n ms enough))
    ]

pub not_through : (span : Span) (looks : List LookMade) → is_through span looks ≡ false
    → (marks span looks ≡ all_marks looks) × ForSome (size_of span) (λ n. length (all_marks looks) < n)
not_through span looks = not_all (size_of span) (all_marks looks)

upto_more : (size : Option ℕ) (ms more : List Mark) → ForSome size (λ n. length ms < n) → upto size (ms ++ more) ≡ ms ++ upto (room size ms) more
upto_more None ms more fewer = refl
upto_more (Some n) ms more fewer =
    let less : length ms < n = fewer n refl in
    let whole : n ≡ length ms + (n - length ms) = omega (arith, less) in
    ap (λ (k : ℕ). take k (ms ++ more)) whole ∙ take-append-add ms more (n - length ms)

-- one more look
pub marks_with : (span : Span) (looks : List LookMade) (look : LookMade) → is_through span looks ≡ false
    → marks span (looks ++ look ∷ []) ≡ marks span looks ++ upto (room (size_of span) (marks span looks)) (marks_of look)
marks_with span looks look not =
    let is = not_through span looks not in
    let all = all_marks looks in
    let whole : all_marks (looks ++ look ∷ []) ≡ all ++ marks_of look =
    flat_map-append marks_of looks (look ∷ []) ∙ ap (λ (ms : List Mark). all ++ ms) (append-nil (marks_of look)) in
    ap (upto (size_of span)) whole
    ∙ upto_more (size_of span) all (marks_of look) is.1
    ∙ ap (λ (ms : List Mark). ms ++ upto (room (size_of span) ms) (marks_of look)) (sym is.0)

-- of what is left, one position is read
one_of : (size : Option ℕ) (ms : List Mark) (mark : Mark) → ForSome size (λ n. length ms < n) → upto (room size ms) (mark ∷ []) ≡ mark ∷ []
one_of None ms mark fewer = refl
one_of (Some n) ms mark fewer = let less : length ms < n = fewer n refl in take_all (n - length ms) (mark ∷ []) (omega (arith, less))

pub fewer_than : (span : Span) (looks : List LookMade) → is_through span looks ≡ false → ForSome (size_of span) (λ n. length (marks span looks) < n)
fewer_than span looks not n e = let is = not_through span looks not in let less = is.1 n e in omega (arith, less, ap length is.0)

pub marks_got : (span : Span) (looks : List LookMade) (look : LookMade) (bytes : List ℕ) → is_through span looks ≡ false → look.found ≡ Got bytes
    → marks span (looks ++ look ∷ []) ≡ marks span looks ++ Read (event_of_record bytes) ∷ []
marks_got span looks look bytes not found =
    let left : Option ℕ = room (size_of span) (marks span looks) in
    marks_with span looks look not
    ∙ ap (λ (f : Found). marks span looks ++ upto left (passed_over look.position look.moment f)) found
    ∙ ap (λ (ms : List Mark). marks span looks ++ ms) (one_of (size_of span) (marks span looks) (Read (event_of_record bytes)) (fewer_than span looks not))

-- what is given, before the span's end
pub forward_open : (o : Opening) (span : Span) (looks : List LookMade) → is_through span looks ≡ false
    → forward o span looks ≡ flat_map (given_of o.request) (closed (parts_of (marks span looks)))
forward_open o span looks not =
    ap (λ (b : Bool). flat_map (given_of o.request) (cond b (parts_of (marks span looks)) (closed (parts_of (marks span looks))))) not

-- a record that is read ends the open stretch
pub with_got : (o : Opening) (span : Span) (looks : List LookMade) (look : LookMade) (bytes : List ℕ) (loss : Option Loss)
    → is_through span looks ≡ false → IsOpen (marks span looks) loss → look.found ≡ Got bytes
    → (forward o span (looks ++ look ∷ [])
    ≡ forward o span looks ++ (flat_map (given_of o.request) (open_part loss) ++ given_of o.request (Record (event_of_record bytes))))
    × IsOpen (marks span (looks ++ look ∷ [])) None
with_got o span looks look bytes loss not is found =
    let event = event_of_record bytes in
    let g = given_of o.request in
    let ms = marks span looks in
    let ps = parts_of ms in
    let new = looks ++ look ∷ [] in
    let read : parts_of (marks span new) ≡ ps ++ Record event ∷ [] = ap parts_of (marks_got span looks look bytes not found) ∙ parts_read ms event in
    let shut : closed (parts_of (marks span new)) ≡ ps ++ Record event ∷ [] = ap closed read ∙ closed_record ps event in
    let all : forward o span new ≡ flat_map g (ps ++ Record event ∷ []) =
    ap (flat_map g) (same_if (is_through span new) (parts_of (marks span new)) (closed (parts_of (marks span new))) (ps ++ Record event ∷ []) read shut) in
    let before : flat_map g ps ≡ forward o span looks ++ flat_map g (open_part loss) =
    ap (flat_map g) is ∙ flat_map-append g (closed ps) (open_part loss)
    ∙ ap (λ (es : List Event). es ++ flat_map g (open_part loss)) (sym (forward_open o span looks not)) in (
      all ∙ flat_map-append g ps (Record event ∷ [])
          ∙ ap (λ (es : List Event). flat_map g ps ++ es) (append-nil (g (Record event)))
          ∙ ap (λ (es : List Event). es ++ g (Record event)) before
          ∙ append_assoc (forward o span looks) (flat_map g (open_part loss)) (g (Record event)),
      read ∙ sym shut ∙ sym (append-nil (closed (parts_of (marks span new)))),
    )

-- a count, and no more than there are
abbrev pub at_most : Option ℕ → ℕ → ℕ
at_most None n = n
at_most (Some most) n = min n most

replicate_upto : {A : Type 0} (most : Option ℕ) (n : ℕ) (x : A) → upto most (replicate n x) ≡ replicate (at_most most n) x
replicate_upto None n x = refl
replicate_upto (Some most) n x =
    elim (cases_lt n most) [
      | inl less ↦
          let same : min n most ≡ n = omega (arith, less) in
          take_all most (replicate n x) (omega (arith, length-replicate n x, less)) ∙ ap (λ (k : ℕ). replicate k x) (sym same)
      | inr more ↦
          let same : min n most ≡ most = omega (arith, more) in
          take-replicate most n x more ∙ ap (λ (k : ℕ). replicate k x) (sym same)
    ]

-- how many positions of the span a look found overwritten
abbrev pub gone_size : Span → List LookMade → ℕ → ℕ → ℕ
gone_size span looks position next = at_most (room (size_of span) (marks span looks)) (next - position)

-- at least one
some_of : (size : Option ℕ) (ms : List Mark) (n : ℕ) → ForSome size (λ n. length ms < n) → 0 < n → 0 < at_most (room size ms) n
some_of None ms n fewer some = omega (arith, some)
some_of (Some most) ms n fewer some = let less : length ms < most = fewer most refl in omega (arith, some, less)

pub marks_gone : (span : Span) (looks : List LookMade) (look : LookMade) (next : ℕ) → is_through span looks ≡ false → look.found ≡ Gone next
    → marks span (looks ++ look ∷ []) ≡ marks span looks ++ replicate (gone_size span looks look.position next) (Over look.moment)
marks_gone span looks look next not found =
    let left : Option ℕ = room (size_of span) (marks span looks) in
    marks_with span looks look not
    ∙ ap (λ (f : Found). marks span looks ++ upto left (passed_over look.position look.moment f)) found
    ∙ ap (λ (ms : List Mark). marks span looks ++ ms) (replicate_upto left (next - look.position) (Over look.moment))

given_at_end : (o : Opening) (end : Bool) (ps shut : List Part) (loss : Loss) → ps ≡ shut ++ Stretch loss.count loss.moment ∷ [] → closed ps ≡ shut
    → flat_map (given_of o.request) (cond end ps (closed ps))
    ≡ flat_map (given_of o.request) shut ++ cond end (lost_event loss.count loss.moment ∷ []) []
given_at_end o true ps shut loss is closed_is =
    ap (flat_map (given_of o.request)) is ∙ flat_map-append (given_of o.request) shut (Stretch loss.count loss.moment ∷ [])
given_at_end o false ps shut loss is closed_is =
    ap (flat_map (given_of o.request)) closed_is ∙ sym (append-nil (flat_map (given_of o.request) shut))

-- positions that are found overwritten join the open stretch, which is given at the span's end
pub with_gone : (o : Opening) (span : Span) (looks : List LookMade) (look : LookMade) (next : ℕ) (loss : Option Loss) (new : Loss)
    → is_through span looks ≡ false → IsOpen (marks span looks) loss → look.found ≡ Gone next → look.position < next
    → new.count ≡ loss_count loss + gone_size span looks look.position next → new.moment ≡ look.moment
    → (forward o span (looks ++ look ∷ [])
    ≡ forward o span looks ++ cond (is_through span (looks ++ look ∷ [])) (lost_event new.count new.moment ∷ []) [])
    × IsOpen (marks span (looks ++ look ∷ [])) (Some new)
with_gone o span looks look next loss new not is found moves count at =
    let ms = marks span looks in
    let ps = parts_of ms in
    let k = gone_size span looks look.position next in
    let all = looks ++ look ∷ [] in
    let through : Bool = is_through span all in
    let least : 0 < k = some_of (size_of span) ms (next - look.position) (fewer_than span looks not) (omega (arith, moves)) in
    let some : k ≡ suc (k - 1) = omega (arith, least) in
    let stretch : Part = Stretch new.count new.moment in
    let counts : loss_count loss + suc (k - 1) ≡ new.count = omega (arith, some, count) in
    let counted : Stretch (loss_count loss + suc (k - 1)) look.moment ≡ stretch =
    ap (λ (n : ℕ). Stretch n look.moment) counts ∙ ap (λ (m : ℕ). Stretch new.count m) (sym at) in
    let parts : parts_of (marks span all) ≡ closed ps ++ stretch ∷ [] =
    ap parts_of (marks_gone span looks look next not found ∙ ap (λ (n : ℕ). ms ++ replicate n (Over look.moment)) some)
    ∙ more_over (k - 1) ms loss look.moment is
    ∙ ap (λ (p : Part). closed ps ++ p ∷ []) counted in
    let shut : closed (parts_of (marks span all)) ≡ closed ps = ap closed parts ∙ closed_stretch (closed ps) new.count new.moment in (
      given_at_end o through (parts_of (marks span all)) (closed ps) new parts shut
          ∙ ap (λ (es : List Event). es ++ cond through (lost_event new.count new.moment ∷ []) []) (sym (forward_open o span looks not)),
      parts ∙ ap (λ (qs : List Part). qs ++ stretch ∷ []) (sym shut),
    )

pub upto_none : {A : Type 0} (size : Option ℕ) → upto {A = A} size [] ≡ []
upto_none None = refl
upto_none (Some n) = take_all n [] (omega arith)

-- a look that passes over no position
pub with_none : (o : Opening) (span : Span) (looks : List LookMade) (look : LookMade) → is_through span looks ≡ false → marks_of look ≡ []
    → (marks span (looks ++ look ∷ []) ≡ marks span looks) × (forward o span (looks ++ look ∷ []) ≡ forward o span looks)
with_none o span looks look not none =
    let left : Option ℕ = room (size_of span) (marks span looks) in
    let same : marks span (looks ++ look ∷ []) ≡ marks span looks =
    marks_with span looks look not
    ∙ ap (λ (ms : List Mark). marks span looks ++ upto left ms) none
    ∙ ap (λ (ms : List Mark). marks span looks ++ ms) (upto_none left)
    ∙ append-nil (marks span looks) in
    (same, ap (λ (ms : List Mark). flat_map (given_of o.request) (cond (option_map_or (λ n. length ms == n) (size_of span) false) (parts_of ms) (closed (parts_of ms)))) same)
