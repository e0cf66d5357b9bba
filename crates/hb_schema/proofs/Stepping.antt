-- Read one field after another, fields whose messages join are what they read as number by number.
use Rattle.std.proofs.Common.{◌≡◌, ℕ, Bool, true, false, eqb, List, [], ◌∷◌, ◌++◌, map, Option, Some, None, refl, sym, ap, subst, ◌∙◌, append_assoc, inl, inr}
use Rattle.std.specs.Prelude.{unwrap_or}
use Rattle.std.specs.Option.{option_map}
use Rattle.std.specs.List.{AllByRecursion, fold, flat_map, list_any, cons_option}
use Rattle.std.proofs.Math.Bool.{or-false, or-true}
use Rattle.std.proofs.lemmas.Bool.{cases_Bool, eqb-true}
use Rattle.std.proofs.lemmas.List.{append-nil, map-append, map-id, flat_map_more}
use Rattle.std.proofs.lemmas.List.Elements.{filter_map-append}
use Rattle.std.proofs.lemmas.List.Folds.{list_any-append}
use Rattle.std.proofs.lemmas.List.Concat.{flat_map-append}
use Rattle.std.proofs.lemmas.Iterator.Adapters.{option_map_id}
use Rattle.hb_wire.specs.Field.{Content, Varint, Fixed64, Body, Fixed32}
use Rattle.hb_schema.specs.Fields.{Part, parts, body_in, unpacked, varints_at, bodies_at, numbers_at, bodies_since, behind_last, last_or, joined, is_among, is_body_of}
use Rattle.hb_schema.specs.Rows.{Kind, U32, U64, I32, I64, Flag, Row, Done, Number, Numbers, Text, Texts, Message, Messages, Raw, Meaning, HasOneOfs, zero_of, defaults, nothing, knows, keeps_unknown}
use Rattle.hb_schema.specs.Reading.{number_of, kept_of, values, reads}
use Rattle.hb_schema.specs.Steps.{number_step, numbers_step, text_step, bodies_step, member_step, raw_merged, kept_step, merging, step, after, merged}
use Rattle.hb_schema.proofs.Loop.{parts_nil}
use Rattle.hb_schema.proofs.Joining.{Joins}
use Rattle.hb_schema.proofs.Pieces.{all_append, all_weaker, behind_all}

-- ---- fields whose messages join

-- what the body of a part is, where it has the number
abbrev pub BodyIs : (List ℕ → Type 0) → ℕ → Part → Type 0
BodyIs P at p = (body : List ℕ) → body_in (eqb p.field.number at) p.field.content ≡ Some body → P body

-- where the part is a message of the row, its bytes join, and so do those of all the messages in it
abbrev pub Clean : Row → Part → Type 0
Clean (Done keeps) p = Unit {0}
Clean (Number at kind rest) p = Clean rest p
Clean (Numbers at kind rest) p = Clean rest p
Clean (Text at rest) p = Clean rest p
Clean (Texts at rest) p = Clean rest p
Clean (Message at others row rest) p = BodyIs (λ body. Joins body × AllByRecursion (Clean row) (parts body)) at p × Clean rest p
Clean (Messages at row rest) p = BodyIs (λ body. Joins body × AllByRecursion (Clean row) (parts body)) at p × Clean rest p
Clean (Raw at others rest) p = Clean rest p

-- the same of a message of the row
abbrev pub CleanBytes : Row → List ℕ → Type 0
CleanBytes row bytes = Joins bytes × AllByRecursion (Clean row) (parts bytes)

both : {A B : Type 0} {a c : A} {b d : B} → a ≡ c → b ≡ d → ◌≡◌ {A = A × B} (a, b) (c, d)
both {A = A} {B = B} {c = c} {b = b} e f = let pair : A → B → A × B = λ x y. (x, y) in ap (λ (x : A). pair x b) e ∙ ap (pair c) f

-- ---- one more field, for each kind of field

abbrev part_of : List ℕ → ℕ → Content → Part
part_of raw number content = record { raw = raw; field = record { number = number; content = content } }

last_end : {A : Type 0} (d : A) (xs : List A) (x : A) → last_or d (xs ++ x ∷ []) ≡ x
last_end d [] x = refl
last_end d (y ∷ ys) x = last_end y ys x

number_more : (at : ℕ) (kind : Kind) (ns raw : List ℕ) (number : ℕ) (content : Content)
    → number_step at kind (number_of kind (last_or 0 ns)) number content ≡ number_of kind (last_or 0 (ns ++ varints_at at (part_of raw number content ∷ [])))
number_more at kind ns raw number (Varint value) =
    elim (cases_Bool (eqb number at)) [
      | inl t ↦ rw (t, last_end 0 ns value) refl
      | inr f ↦ rw (f, append-nil ns) refl
    ]
number_more at kind ns raw number (Fixed64 value) = rw (append-nil ns) refl
number_more at kind ns raw number (Body body) = rw (append-nil ns) refl
number_more at kind ns raw number (Fixed32 value) = rw (append-nil ns) refl

numbers_more : (at : ℕ) (kind : Kind) (ns raw : List ℕ) (number : ℕ) (content : Content)
    → numbers_step at kind (map (number_of kind) ns) number content ≡ map (number_of kind) (ns ++ numbers_at at (part_of raw number content ∷ []))
numbers_more at kind ns raw number (Varint value) =
    elim (cases_Bool (eqb number at)) [
      | inl t ↦ rw (t, map-append (number_of kind) ns (value ∷ [])) refl
      | inr f ↦ rw (f, append-nil ns) refl
    ]
numbers_more at kind ns raw number (Fixed64 value) = rw (append-nil ns) refl
numbers_more at kind ns raw number (Body body) =
    elim (cases_Bool (eqb number at)) [
      | inl t ↦ rw (t, append-nil (unpacked body), map-append (number_of kind) ns (unpacked body)) refl
      | inr f ↦ rw (f, append-nil ns) refl
    ]
numbers_more at kind ns raw number (Fixed32 value) = rw (append-nil ns) refl

text_more : (at : ℕ) (bs : List (List ℕ)) (raw : List ℕ) (number : ℕ) (content : Content)
    → text_step at (last_or [] bs) number content ≡ last_or [] (bs ++ bodies_at at (part_of raw number content ∷ []))
text_more at bs raw number (Varint value) = rw (append-nil bs) refl
text_more at bs raw number (Fixed64 value) = rw (append-nil bs) refl
text_more at bs raw number (Body body) =
    elim (cases_Bool (eqb number at)) [
      | inl t ↦ rw (t, last_end [] bs body) refl
      | inr f ↦ rw (f, append-nil bs) refl
    ]
text_more at bs raw number (Fixed32 value) = rw (append-nil bs) refl

-- of repeated bodies, each as what it reads as
bodies_more : {A : Type 0} (of seen : List ℕ → A) (at : ℕ) (bs : List (List ℕ)) (raw : List ℕ) (number : ℕ) (content : Content)
    → BodyIs (λ body. of body ≡ seen body) at (part_of raw number content) → bodies_step of at (map seen bs) number content ≡ map seen (bs ++ bodies_at at (part_of raw number content ∷ []))
bodies_more of seen at bs raw number (Varint value) is = rw (append-nil bs) refl
bodies_more of seen at bs raw number (Fixed64 value) is = rw (append-nil bs) refl
bodies_more of seen at bs raw number (Body body) is =
    elim (cases_Bool (eqb number at)) [
      | inl t ↦ let e : of body ≡ seen body = is body (rw t refl) in rw (t, map-append seen bs (body ∷ []), e) refl
      | inr f ↦ rw (f, append-nil bs) refl
    ]
bodies_more of seen at bs raw number (Fixed32 value) is = rw (append-nil bs) refl

texts_more : (at : ℕ) (ps : List Part) (p : Part) → bodies_step (λ body. body) at (bodies_at at ps) p.field.number p.field.content ≡ bodies_at at (ps ++ p ∷ [])
texts_more at ps p =
    ap (λ (bs : List (List ℕ)). bodies_step (λ body. body) at bs p.field.number p.field.content) (sym (map-id (bodies_at at ps)))
    ∙ bodies_more (λ body. body) (λ body. body) at (bodies_at at ps) p.raw p.field.number p.field.content (λ body e. refl)
    ∙ map-id (bodies_at at ps ++ bodies_at at (p ∷ [])) ∙ sym (filter_map-append _ ps (p ∷ []))

-- ---- one more body of a member of a oneof

module _ {A : Type 0} (test : A → Bool) (x : A) where
  -- behind the last that passes stands one more that does not
  behind_more : test x ≡ false → (xs : List A) → behind_last test (xs ++ x ∷ []) ≡ behind_last test xs ++ x ∷ []
  behind_more not [] = rw not refl
  behind_more not (y ∷ ys) =
      let any : list_any test ((y ∷ ys) ++ x ∷ []) ≡ list_any test (y ∷ ys) = list_any-append test (y ∷ ys) (x ∷ []) ∙ rw not (or-false (list_any test (y ∷ ys))) in
      elim (cases_Bool (list_any test (y ∷ ys))) [
        | inl t ↦ rw (any ∙ t, t) (behind_more not ys)
        | inr f ↦ rw (any ∙ f, f) refl
      ]

  -- behind one more that does stands nothing
  behind_end : test x ≡ true → (xs : List A) → behind_last test (xs ++ x ∷ []) ≡ []
  behind_end is [] = rw is refl
  behind_end is (y ∷ ys) =
      let any : list_any test ((y ∷ ys) ++ x ∷ []) ≡ true = list_any-append test (y ∷ ys) (x ∷ []) ∙ rw is (or-true (list_any test (y ∷ ys))) in
      rw any (behind_end is ys)

joined_end : (bs : List (List ℕ)) (body : List ℕ) → joined (bs ++ body ∷ []) ≡ Some (flat_map (λ b. b) bs ++ body)
joined_end [] body = ap Some (append-nil body)
joined_end (b ∷ bs) body =
    ap (λ (x : List ℕ). Some (b ++ x)) (flat_map-append (λ b. b) bs (body ∷ []) ∙ ap (λ (x : List ℕ). flat_map (λ b. b) bs ++ x) (append-nil body))
    ∙ ap Some (sym (append_assoc b (flat_map (λ b. b) bs) body))

-- a field that is no other member's goes behind the bodies that count
since_more : (at : ℕ) (others : List ℕ) (ps : List Part) (p : Part) → is_body_of others p ≡ false → bodies_since at others (ps ++ p ∷ []) ≡ bodies_since at others ps ++ bodies_at at (p ∷ [])
since_more at others ps p not = ap (bodies_at at) (behind_more (is_body_of others) p not ps) ∙ filter_map-append _ (behind_last (is_body_of others) ps) (p ∷ [])

module _ {A : Type 0} (merge : Option A → List ℕ → A) (seen : List ℕ → A) (at : ℕ) (others : List ℕ) (alone : is_among others at ≡ false) (ps : List Part) (raw : List ℕ) (number : ℕ) where
  -- seen as what the bodies that count, joined, read as
  member_more : (content : Content)
      → BodyIs (λ body. merge (option_map seen (joined (bodies_since at others ps))) body ≡ seen (flat_map (λ b. b) (bodies_since at others ps) ++ body)) at (part_of raw number content)
      → member_step merge at others (option_map seen (joined (bodies_since at others ps))) number content ≡ option_map seen (joined (bodies_since at others (ps ++ part_of raw number content ∷ [])))
  member_more (Varint value) is = rw (since_more at others ps (part_of raw number (Varint value)) refl, append-nil (bodies_since at others ps)) refl
  member_more (Fixed64 value) is = rw (since_more at others ps (part_of raw number (Fixed64 value)) refl, append-nil (bodies_since at others ps)) refl
  member_more (Body body) is =
      elim (cases_Bool (eqb number at)) [
        | inl t ↦
            let not : is_among others number ≡ false = subst (λ (n : ℕ). is_among others n ≡ false) (sym (eqb-true number at t)) alone in
            let e = is body (rw t refl) in
            let since = since_more at others ps (part_of raw number (Body body)) not in
            let end : joined (bodies_since at others ps ++ bodies_at at (part_of raw number (Body body) ∷ [])) ≡ Some (flat_map (λ b. b) (bodies_since at others ps) ++ body) =
            rw t (joined_end (bodies_since at others ps) body) in
            rw t (ap Some e ∙ ap (option_map seen) (sym (ap joined since ∙ end)))
        | inr f ↦
            elim (cases_Bool (is_among others number)) [
              | inl t ↦ rw (f, t) (ap (λ (qs : List Part). option_map seen (joined (bodies_at at qs))) (sym (behind_end (is_body_of others) (part_of raw number (Body body)) t ps)))
              | inr g ↦
                  let since = since_more at others ps (part_of raw number (Body body)) g in
                  let end : bodies_since at others ps ++ bodies_at at (part_of raw number (Body body) ∷ []) ≡ bodies_since at others ps = rw f (append-nil (bodies_since at others ps)) in
                  rw (f, g) (ap (λ (bs : List (List ℕ)). option_map seen (joined bs)) (sym (since ∙ end)))
            ]
      ]
  member_more (Fixed32 value) is = rw (since_more at others ps (part_of raw number (Fixed32 value)) refl, append-nil (bodies_since at others ps)) refl

-- ---- what joins

-- a body that may be there, before others
cons_body : (P : List ℕ → Type 0) (o : Option (List ℕ)) (bs : List (List ℕ)) → ((body : List ℕ) → o ≡ Some body → P body) → AllByRecursion P bs → AllByRecursion P (cons_option o bs)
cons_body P None bs first rest = rest
cons_body P (Some body) bs first rest = (first body refl, rest)

-- what each body with the number is
bodies_are : (P : List ℕ → Type 0) (at : ℕ) (ps : List Part) → AllByRecursion (BodyIs P at) ps → AllByRecursion P (bodies_at at ps)
bodies_are P at [] all = tt
bodies_are P at (p ∷ ps) all = cons_body P (body_in (eqb p.field.number at) p.field.content) (bodies_at at ps) all.0 (bodies_are P at ps all.1)

pub clean_nil : (row : Row) → CleanBytes row []
clean_nil row = (λ rest. rw (parts_nil 0) refl, rw (parts_nil 0) tt)

-- bytes that are clean, and others behind them
clean_append : (row : Row) (a b : List ℕ) → CleanBytes row a → CleanBytes row b → CleanBytes row (a ++ b)
clean_append row a b p q = (
  λ rest. ap parts (append_assoc a b rest) ∙ p.0 (b ++ rest) ∙ ap (λ (ps : List Part). parts a ++ ps) (q.0 rest) ∙ sym (append_assoc (parts a) (parts b) (parts rest))
      ∙ ap (λ (ps : List Part). ps ++ parts rest) (sym (p.0 b)),
  subst (AllByRecursion (Clean row)) (sym (p.0 b)) (all_append (Clean row) (parts a) (parts b) p.1 q.1),
)

clean_joined : (row : Row) (bs : List (List ℕ)) → AllByRecursion (CleanBytes row) bs → CleanBytes row (flat_map (λ b. b) bs)
clean_joined row [] clean = clean_nil row
clean_joined row (b ∷ bs) clean = clean_append row b (flat_map (λ x. x) bs) clean.0 (clean_joined row bs clean.1)

-- ---- fields after fields

-- the message that fields read as
abbrev message_of : (row : Row) → List Part → Meaning row
message_of row ps = (values row ps, flat_map (kept_of row) ps)

-- the values that fields read as take one more field
abbrev Steps : Row → Type 0
Steps row = (ps : List Part) (p : Part) → AllByRecursion (Clean row) ps → Clean row p → step row (values row ps) p ≡ values row (ps ++ p ∷ [])

-- and the message more fields
abbrev GoesOn : Row → Type 0
GoesOn row = (ps qs : List Part) → AllByRecursion (Clean row) ps → AllByRecursion (Clean row) qs → fold (after row) (message_of row ps) qs ≡ message_of row (ps ++ qs)

kept_one : (row : Row) (old : List ℕ) (p : Part) → kept_step row old p ≡ old ++ kept_of row p
kept_one row old p =
    elim (cases_Bool (keeps_unknown row)) [
      | inl t ↦
          elim (cases_Bool (knows row p.field)) [
            | inl k ↦ rw (t, k, append-nil old) refl
            | inr u ↦ rw (t, u) refl
          ]
      | inr f ↦ rw (f, append-nil old) refl
    ]

goes_on : (row : Row) → Steps row → GoesOn row
goes_on row steps ps [] first rest = ap (message_of row) (sym (append-nil ps))
goes_on row steps ps (q ∷ qs) first rest =
    ap (λ (m : Meaning row). fold (after row) m qs) (both (steps ps q first rest.0) (kept_one row (flat_map (kept_of row) ps) q ∙ flat_map_more (kept_of row) [] ps q))
    ∙ goes_on row steps (ps ++ q ∷ []) qs (all_append (Clean row) ps (q ∷ []) first (rest.0, tt)) rest.1
    ∙ ap (message_of row) (append_assoc ps (q ∷ []) qs)

zero_is : (kind : Kind) → number_of kind 0 ≡ zero_of kind
zero_is U32 = refl
zero_is U64 = refl
zero_is I32 = refl
zero_is I64 = refl
zero_is Flag = refl

-- no fields read as the values of none
no_values : (row : Row) → values row [] ≡ defaults row
unfolding values
no_values (Done keeps) = refl
no_values (Number at kind rest) = both (zero_is kind) (no_values rest)
no_values (Numbers at kind rest) = both refl (no_values rest)
no_values (Text at rest) = both refl (no_values rest)
no_values (Texts at rest) = both refl (no_values rest)
no_values (Message at others row rest) = both refl (no_values rest)
no_values (Messages at row rest) = both refl (no_values rest)
no_values (Raw at others rest) = both refl (no_values rest)

pub reads_nothing : (row : Row) → nothing row ≡ reads row []
reads_nothing row = both (sym (no_values row)) refl ∙ ap (message_of row) (sym (parts_nil 0))

-- a message that bytes read as, with the fields of more bytes
merged_on : (row : Row) → Steps row → (m : Option (Meaning row)) (bytes more : List ℕ) → CleanBytes row bytes → AllByRecursion (Clean row) (parts more)
    → unwrap_or m (nothing row) ≡ reads row bytes → merged row m more ≡ reads row (bytes ++ more)
unfolding merging merged
merged_on row steps m bytes more clean rest is =
    ap (λ (m : Meaning row). fold (after row) m (parts more)) is ∙ goes_on row steps (parts bytes) (parts more) clean.1 rest ∙ ap (message_of row) (sym (clean.0 more))

-- what the bodies read as, joined
joined_read : (row : Row) (bs : List (List ℕ)) → unwrap_or (option_map (reads row) (joined bs)) (nothing row) ≡ reads row (flat_map (λ b. b) bs)
joined_read row [] = reads_nothing row
joined_read row (b ∷ bs) = refl

-- repeated bodies, each a message
messages_more : (at : ℕ) (row : Row) → Steps row → (ps : List Part) (p : Part) → BodyIs (CleanBytes row) at p
    → bodies_step (merging row (step row) None) at (map (reads row) (bodies_at at ps)) p.field.number p.field.content ≡ map (reads row) (bodies_at at (ps ++ p ∷ []))
unfolding merged
messages_more at row steps ps p is =
    bodies_more (merging row (step row) None) (reads row) at (bodies_at at ps) p.raw p.field.number p.field.content
    (λ body e. merged_on row steps None [] body (clean_nil row) (is body e).1 (reads_nothing row))
    ∙ ap (map (reads row)) (sym (filter_map-append _ ps (p ∷ [])))

-- a member of a oneof that is a message
message_more : (at : ℕ) (others : List ℕ) (row : Row) → is_among others at ≡ false → Steps row → (ps : List Part) (p : Part) → AllByRecursion (BodyIs (CleanBytes row) at) ps → BodyIs (CleanBytes row) at p
    → member_step (merging row (step row)) at others (option_map (reads row) (joined (bodies_since at others ps))) p.field.number p.field.content
    ≡ option_map (reads row) (joined (bodies_since at others (ps ++ p ∷ [])))
unfolding merged
message_more at others row alone steps ps p all is =
    let bs = bodies_since at others ps in
    let clean : CleanBytes row (flat_map (λ b. b) bs) =
    clean_joined row bs (bodies_are (CleanBytes row) at (behind_last (is_body_of others) ps) (behind_all (BodyIs (CleanBytes row) at) (is_body_of others) ps all)) in
    member_more (merging row (step row)) (reads row) at others alone ps p.raw p.field.number p.field.content
    (λ body e. merged_on row steps (option_map (reads row) (joined bs)) (flat_map (λ b. b) bs) body clean (is body e).1 (joined_read row bs))

raw_on : (bs : List (List ℕ)) (body : List ℕ) → raw_merged (option_map (λ b. b) (joined bs)) body ≡ flat_map (λ b. b) bs ++ body
raw_on [] body = refl
raw_on (b ∷ bs) body = refl

-- a member of a oneof that is raw
raw_more : (at : ℕ) (others : List ℕ) → is_among others at ≡ false → (ps : List Part) (p : Part)
    → member_step raw_merged at others (joined (bodies_since at others ps)) p.field.number p.field.content ≡ joined (bodies_since at others (ps ++ p ∷ []))
raw_more at others alone ps p =
    let here = joined (bodies_since at others ps) in
    let there = joined (bodies_since at others (ps ++ p ∷ [])) in
    ap (λ (o : Option (List ℕ)). member_step raw_merged at others o p.field.number p.field.content) (sym (option_map_id here))
    ∙ member_more raw_merged (λ b. b) at others alone ps p.raw p.field.number p.field.content (λ body e. raw_on (bodies_since at others ps) body)
    ∙ option_map_id there

steps : (whole row : Row) → HasOneOfs whole row → Steps row
unfolding step values
steps whole (Done keeps) ones ps p first rest = refl
steps whole (Number at kind more) ones ps p first rest =
    both (number_more at kind (varints_at at ps) p.raw p.field.number p.field.content ∙ ap (λ (ns : List ℕ). number_of kind (last_or 0 ns)) (sym (filter_map-append _ ps (p ∷ []))))
    (steps whole more ones ps p first rest)
steps whole (Numbers at kind more) ones ps p first rest =
    both (numbers_more at kind (numbers_at at ps) p.raw p.field.number p.field.content ∙ ap (map (number_of kind)) (sym (flat_map-append _ ps (p ∷ [])))) (steps whole more ones ps p first rest)
steps whole (Text at more) ones ps p first rest =
    both (text_more at (bodies_at at ps) p.raw p.field.number p.field.content ∙ ap (last_or []) (sym (filter_map-append _ ps (p ∷ [])))) (steps whole more ones ps p first rest)
steps whole (Texts at more) ones ps p first rest = both (texts_more at ps p) (steps whole more ones ps p first rest)
steps whole (Message at others row more) ones ps p first rest =
    both (message_more at others row ones.0.0 (steps row row ones.2) ps p (all_weaker (Clean (Message at others row more)) (BodyIs (CleanBytes row) at) (λ q c. c.0) ps first) rest.0)
    (steps whole more ones.3 ps p (all_weaker (Clean (Message at others row more)) (Clean more) (λ q c. c.1) ps first) rest.1)
steps whole (Messages at row more) ones ps p first rest =
    both (messages_more at row (steps row row ones.0) ps p rest.0) (steps whole more ones.1 ps p (all_weaker (Clean (Messages at row more)) (Clean more) (λ q c. c.1) ps first) rest.1)
steps whole (Raw at others more) ones ps p first rest = both (raw_more at others ones.0.0 ps p) (steps whole more ones.2 ps p first rest)

-- a message that clean bytes read as, with the fields of more bytes, is what all of them read as
pub merged_is : (row : Row) → HasOneOfs row row → (m : Option (Meaning row)) (bytes more : List ℕ) → CleanBytes row bytes → AllByRecursion (Clean row) (parts more)
    → unwrap_or m (nothing row) ≡ reads row bytes → merged row m more ≡ reads row (bytes ++ more)
merged_is row ones m bytes more clean rest is = merged_on row (steps row row ones) m bytes more clean rest is
