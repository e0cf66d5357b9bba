-- What was written is read again.
use Rattle.std.proofs.Common.{◌≡◌, ℕ, zero, suc, ◌%◌, ◌<◌, ◌≤◌, ◌^◌, Bool, true, false, cond, eqb, ◌&&◌, ◌||◌, List, [], ◌∷◌, ◌++◌, length, map, Option, Some, None, refl, sym, ap, subst, ◌∙◌, append_assoc, inl, inr, arith}
use Rattle.std.specs.Prelude.{ℤ, pos, FitsSigned, IfSome, IsSome}
use lib.IntN.{negsuc}
use Rattle.std.specs.Option.{option_map}
use Rattle.std.specs.Int.{w32, w64, cast_signed, cast_unsigned}
use Rattle.std.specs.List.{AllByRecursion, flat_map}
use Rattle.std.proofs.lemmas.Int.{to_z-of_z}
use Rattle.std.proofs.lemmas.Bool.{cases_eq, ne_eqb, and_right, or_parts, or_right, false_from_ne_true}
use Rattle.std.proofs.lemmas.List.{append-nil, map-append}
use Rattle.std.proofs.lemmas.List.Concat.{flat_map-append}
use Rattle.std.proofs.lemmas.List.Elements.{filter_map-append}
use Rattle.hb_wire.specs.Field.{Content, Varint, Fixed64, Body, Fixed32, Piece, PieceFits}
use Rattle.hb_schema.specs.Fields.{Part, body_in, varints_at, bodies_at, numbers_at, last_or, joined, is_varint, is_body, is_among, is_body_of, bodies_since}
use Rattle.hb_schema.specs.Rows.{Kind, U32, U64, I32, I64, Flag, Row, Done, Number, Numbers, Text, Texts, Message, Messages, Raw, NumberOf, Values, Meaning, knows, keeps_unknown, Ascends, NamedBack, AreOthers, HasOneOfs, IsRow}
use Rattle.hb_schema.specs.Reading.{number_of, kept_of, values, reads}
use Rattle.hb_schema.specs.Writing.{varint_of, number_field, text_field, body_field, body_fields, packed, pieces, writes}
use Rattle.hb_schema.specs.Fits.{NumberFits, KeptFits, NoneOf, ValuesFit, Fits}
use Rattle.hb_schema.proofs.Pieces.{all_append, all_apart, all_weaker, canonical, parts_again, kept_spelled}
use Rattle.hb_schema.proofs.Near.{varints_below, pieces_fit}
use Rattle.hb_schema.proofs.Picked.{same_number, wanted, Passed, is_either, no_varints, no_bodies, no_numbers, only_mine, since_whole, since_skip, nothing_since, number_mine, text_mine, bodies_mine, body_mine, numbers_mine, unpacked_again}

-- ---- numbers

int32_wide : (z : ℤ) → FitsSigned w32 z → cast_unsigned w64 z % 2 ^ 32 ≡ cast_unsigned w32 z
int32_wide (pos n) fits = omega (arith, fits.sfits)
int32_wide (negsuc n) fits = omega (arith, fits.sfits)

flag_again : (b : Bool) → number_of Flag (varint_of Flag b) ≡ b
flag_again true = refl
flag_again false = refl

number_again : (kind : Kind) (v : NumberOf kind) → NumberFits kind v → number_of kind (varint_of kind v) ≡ v
number_again U32 n fits = omega (arith, fits)
number_again U64 n fits = refl
number_again I32 z fits = ap (cast_signed w32) (int32_wide z fits) ∙ to_z-of_z w32 z fits
number_again I64 z fits = to_z-of_z w64 z fits
number_again Flag b fits = flag_again b

numbers_again : (kind : Kind) (vs : List (NumberOf kind)) → AllByRecursion (NumberFits kind) vs → map (number_of kind) (map (varint_of kind) vs) ≡ vs
numbers_again kind [] fits = refl
numbers_again kind (v ∷ vs) fits = ap (λ (n : NumberOf kind). n ∷ map (number_of kind) (map (varint_of kind) vs)) (number_again kind v fits.0) ∙ ap (λ (ns : List (NumberOf kind)). v ∷ ns) (numbers_again kind vs fits.1)

-- ---- the numbers of the fields

abbrev Above : ℕ → List Piece → Type 0
Above low = AllByRecursion (λ q. low < q.number)

number_above : (low at n : ℕ) → low < at → Above low (number_field at n)
number_above low at zero lt = tt
number_above low at (suc n) lt = (lt, tt)

text_above : (low at : ℕ) (text : List ℕ) → low < at → Above low (text_field at text)
text_above low at [] lt = tt
text_above low at (b ∷ text) lt = (lt, tt)

body_above : (low at : ℕ) (body : Option (List ℕ)) → low < at → Above low (body_field at body)
body_above low at None lt = tt
body_above low at (Some body) lt = (lt, tt)

bodies_above : (low at : ℕ) (bodies : List (List ℕ)) → low < at → Above low (body_fields at bodies)
bodies_above low at [] lt = tt
bodies_above low at (body ∷ bodies) lt = (lt, bodies_above low at bodies lt)

higher : (low at : ℕ) (qs : List Piece) → low < at → Above at qs → Above low qs
higher low at qs lt all = all_weaker (λ q. at < q.number) (λ q. low < q.number) (λ q h. omega (arith, h, lt)) qs all

pieces_above : (row : Row) (low : ℕ) → Ascends low row → (vs : Values row) → Above low (pieces row vs)
unfolding pieces
pieces_above (Done keeps) low is vs = tt
pieces_above (Number at kind rest) low is vs =
    all_append _ (number_field at (varint_of kind vs.0)) (pieces rest vs.1) (number_above low at (varint_of kind vs.0) is.0) (higher low at (pieces rest vs.1) is.0 (pieces_above rest at is.2 vs.1))
pieces_above (Numbers at kind rest) low is vs =
    all_append _ (text_field at (packed (map (varint_of kind) vs.0))) (pieces rest vs.1) (text_above low at (packed (map (varint_of kind) vs.0)) is.0) (higher low at (pieces rest vs.1) is.0 (pieces_above rest at is.2 vs.1))
pieces_above (Text at rest) low is vs = all_append _ (text_field at vs.0) (pieces rest vs.1) (text_above low at vs.0 is.0) (higher low at (pieces rest vs.1) is.0 (pieces_above rest at is.2 vs.1))
pieces_above (Texts at rest) low is vs = all_append _ (body_fields at vs.0) (pieces rest vs.1) (bodies_above low at vs.0 is.0) (higher low at (pieces rest vs.1) is.0 (pieces_above rest at is.2 vs.1))
pieces_above (Message at others row rest) low is vs =
    all_append _ (body_field at (option_map (writes row) vs.0)) (pieces rest vs.1) (body_above low at (option_map (writes row) vs.0) is.0) (higher low at (pieces rest vs.1) is.0 (pieces_above rest at is.3 vs.1))
pieces_above (Messages at row rest) low is vs =
    all_append _ (body_fields at (map (writes row) vs.0)) (pieces rest vs.1) (bodies_above low at (map (writes row) vs.0) is.0) (higher low at (pieces rest vs.1) is.0 (pieces_above rest at is.3 vs.1))
pieces_above (Raw at others rest) low is vs = all_append _ (body_field at vs.0) (pieces rest vs.1) (body_above low at vs.0 is.0) (higher low at (pieces rest vs.1) is.0 (pieces_above rest at is.2 vs.1))

-- ---- fields that are passed over, by their numbers

abbrev Below : ℕ → List Part → Type 0
Below low = AllByRecursion (λ p. p.field.number ≤ low)

passed_below : (test : Content → Bool) (at low : ℕ) (ps : List Part) → low < at → Below low ps → Passed test at ps
passed_below test at low ps lt all = all_weaker (λ p. p.field.number ≤ low) (λ p. wanted test at p ≡ false)
    (λ p h. and_right (test p.field.content) (eqb p.field.number at) (ne_eqb p.field.number at (λ e. omega (arith, h, lt, e)))) ps all

passed_above : (test : Content → Bool) (at : ℕ) (qs : List Piece) → Above at qs → Passed test at (map canonical qs)
passed_above test at [] all = tt
passed_above test at (q ∷ qs) all = (and_right (test q.content) (eqb q.number at) (ne_eqb q.number at (λ e. omega (arith, all.0, e))), passed_above test at qs all.1)

behind_passed : (test : Content → Bool) (at : ℕ) (qs : List Piece) (us : List Part) → Above at qs → Passed test at us → Passed test at (map canonical qs ++ us)
behind_passed test at qs us above passed = all_append (λ p. wanted test at p ≡ false) (map canonical qs) us (passed_above test at qs above) passed

below_mine : (at : ℕ) (qs : List Piece) → AllByRecursion (λ q. q.number ≡ at) qs → Below at (map canonical qs)
below_mine at [] all = tt
below_mine at (q ∷ qs) all = (omega (arith, all.0), below_mine at qs all.1)

below_more : (low at : ℕ) (ps mine : List Part) → low < at → Below low ps → Below at mine → Below at (ps ++ mine)
below_more low at ps mine lt before own =
    all_append (λ p. p.field.number ≤ at) ps mine (all_weaker (λ p. p.field.number ≤ low) (λ p. p.field.number ≤ at) (λ p h. omega (arith, h, lt)) ps before) own

number_own : (at n : ℕ) → AllByRecursion (λ (q : Piece). q.number ≡ at) (number_field at n)
number_own at zero = tt
number_own at (suc n) = (refl, tt)

text_own : (at : ℕ) (text : List ℕ) → AllByRecursion (λ (q : Piece). q.number ≡ at) (text_field at text)
text_own at [] = tt
text_own at (b ∷ text) = (refl, tt)

body_own : (at : ℕ) (body : Option (List ℕ)) → AllByRecursion (λ (q : Piece). q.number ≡ at) (body_field at body)
body_own at None = tt
body_own at (Some body) = (refl, tt)

bodies_own : (at : ℕ) (bodies : List (List ℕ)) → AllByRecursion (λ (q : Piece). q.number ≡ at) (body_fields at bodies)
bodies_own at [] = tt
bodies_own at (body ∷ bodies) = (refl, bodies_own at bodies)

-- ---- other members

-- what a row knows of a body does not rest on its bytes
knows_body : (row : Row) (number : ℕ) (body : List ℕ) → knows row (record { number = number; content = Body body }) ≡ knows row (record { number = number; content = Body [] })
knows_body (Done keeps) number body = refl
knows_body (Number at kind rest) number body = knows_body rest number body
knows_body (Numbers at kind rest) number body = ap (λ (b : Bool). eqb number at || b) (knows_body rest number body)
knows_body (Text at rest) number body = ap (λ (b : Bool). eqb number at || b) (knows_body rest number body)
knows_body (Texts at rest) number body = ap (λ (b : Bool). eqb number at || b) (knows_body rest number body)
knows_body (Message at others row rest) number body = ap (λ (b : Bool). eqb number at || b) (knows_body rest number body)
knows_body (Messages at row rest) number body = ap (λ (b : Bool). eqb number at || b) (knows_body rest number body)
knows_body (Raw at others rest) number body = ap (λ (b : Bool). eqb number at || b) (knows_body rest number body)

-- a number whose body a row does not know is none of those that it knows
not_among : (whole : Row) (number : ℕ) (others : List ℕ) → AllByRecursion (λ n. knows whole (record { number = n; content = Body [] }) ≡ true) others
    → knows whole (record { number = number; content = Body [] }) ≡ false → is_among others number ≡ false
not_among whole number [] known unknown = refl
not_among whole number (k ∷ others) known unknown =
    elim (cases_eq number k) [
      | inl e ↦ absurd (let both = sym (subst (λ (n : ℕ). knows whole (record { number = n; content = Body [] }) ≡ false) e unknown) ∙ known.0 in cc)
      | inr ne ↦ rw (ne_eqb number k ne) (not_among whole number others known.1 unknown)
    ]

not_member : (whole : Row) (others : List ℕ) → AllByRecursion (λ n. knows whole (record { number = n; content = Body [] }) ≡ true) others
    → (raw : List ℕ) (number : ℕ) (content : Content) → knows whole (record { number = number; content = content }) ≡ false
    → is_body_of others (record { raw = raw; field = record { number = number; content = content } }) ≡ false
not_member whole others known raw number (Varint value) unknown = refl
not_member whole others known raw number (Fixed64 value) unknown = refl
not_member whole others known raw number (Body body) unknown = not_among whole number others known (sym (knows_body whole number body) ∙ unknown)
not_member whole others known raw number (Fixed32 value) unknown = refl

abbrev NoMember : List ℕ → List Part → Type 0
NoMember numbers = AllByRecursion (λ p. is_body_of numbers p ≡ false)

number_none : (numbers : List ℕ) (at n : ℕ) → NoMember numbers (map canonical (number_field at n))
number_none numbers at zero = tt
number_none numbers at (suc n) = (refl, tt)

text_none : (numbers : List ℕ) (at : ℕ) (text : List ℕ) → is_among numbers at ≡ false → NoMember numbers (map canonical (text_field at text))
text_none numbers at [] e = tt
text_none numbers at (b ∷ text) e = (e, tt)

bodies_none : (numbers : List ℕ) (at : ℕ) (bodies : List (List ℕ)) → is_among numbers at ≡ false → NoMember numbers (map canonical (body_fields at bodies))
bodies_none numbers at [] e = tt
bodies_none numbers at (body ∷ bodies) e = (e, bodies_none numbers at bodies e)

body_none : {A : Type 0} (numbers : List ℕ) (at : ℕ) (of : A → List ℕ) (held : Option A) → (is_among numbers at ≡ true → held ≡ None) → NoMember numbers (map canonical (body_field at (option_map of held)))
body_none numbers at of None absent = tt
body_none numbers at of (Some m) absent = (false_from_ne_true (is_among numbers at) (λ e. let none = absent e in absurd cc), tt)

-- of fields one after another
both_none : (numbers : List ℕ) (ps qs : List Piece) → NoMember numbers (map canonical ps) → NoMember numbers (map canonical qs) → NoMember numbers (map canonical (ps ++ qs))
both_none numbers ps qs p q = subst (NoMember numbers) (sym (map-append canonical ps qs)) (all_append _ (map canonical ps) (map canonical qs) p q)

-- where no other member is there, none is spelled
none_later : (at : ℕ) (numbers : List ℕ) (rest : Row) → NamedBack at numbers rest → (vs : Values rest) → NoneOf numbers rest vs → NoMember numbers (map canonical (pieces rest vs))
unfolding pieces
none_later at numbers (Done keeps) named vs none = tt
none_later at numbers (Number n kind rest) named vs none =
    both_none numbers (number_field n (varint_of kind vs.0)) (pieces rest vs.1) (number_none numbers n (varint_of kind vs.0)) (none_later at numbers rest named.1 vs.1 none)
none_later at numbers (Numbers n kind rest) named vs none =
    both_none numbers (text_field n (packed (map (varint_of kind) vs.0))) (pieces rest vs.1) (text_none numbers n (packed (map (varint_of kind) vs.0)) named.0) (none_later at numbers rest named.1 vs.1 none)
none_later at numbers (Text n rest) named vs none = both_none numbers (text_field n vs.0) (pieces rest vs.1) (text_none numbers n vs.0 named.0) (none_later at numbers rest named.1 vs.1 none)
none_later at numbers (Texts n rest) named vs none = both_none numbers (body_fields n vs.0) (pieces rest vs.1) (bodies_none numbers n vs.0 named.0) (none_later at numbers rest named.1 vs.1 none)
none_later at numbers (Message n others row rest) named vs none =
    both_none numbers (body_field n (option_map (writes row) vs.0)) (pieces rest vs.1) (body_none numbers n (writes row) vs.0 none.0) (none_later at numbers rest named.1 vs.1 none.1)
none_later at numbers (Messages n row rest) named vs none =
    both_none numbers (body_fields n (map (writes row) vs.0)) (pieces rest vs.1) (bodies_none numbers n (map (writes row) vs.0) named.0) (none_later at numbers rest named.1 vs.1 none)
none_later at numbers (Raw n others rest) named vs none = both_none numbers (body_field n vs.0) (pieces rest vs.1) (raw_none vs.0 none.0) (none_later at numbers rest named.1 vs.1 none.1)
  where
    raw_none : (held : Option (List ℕ)) → (is_among numbers n ≡ true → held ≡ None) → NoMember numbers (map canonical (body_field n held))
    raw_none None absent = tt
    raw_none (Some m) absent = (false_from_ne_true (is_among numbers n) (λ e. let none = absent e in absurd cc), tt)

-- ---- one member, among fields in front of it and behind it

member_is : (at : ℕ) (others : List ℕ) (held : Option (List ℕ)) (ps us : List Part) → Passed is_body at ps → Passed is_body at us → is_among others at ≡ false → (IsSome held → NoMember others us)
    → joined (bodies_since at others (ps ++ (map canonical (body_field at held) ++ us))) ≡ held
member_is at others None ps us before behind own none = ap joined (nothing_since at others (ps ++ us) (all_append _ ps us before behind))
member_is at others (Some body) ps us before behind own none =
    let mine = map canonical (body_field at (Some body)) in
    let whole : NoMember others (mine ++ us) = (own, none refl) in
    ap joined (since_skip at others ps (mine ++ us) before ∙ since_whole at others (mine ++ us) whole ∙ filter_map-append (λ (p : Part). body_in (eqb p.field.number at) p.field.content) mine us
    ∙ ap (λ (bs : List (List ℕ)). bodies_at at mine ++ bs) (no_bodies at us behind) ∙ append-nil (bodies_at at mine)) ∙ body_mine at body

-- ---- the fields of a row, among fields with lesser numbers and fields that are not known

-- a field of a row, and the rest of the fields
abbrev AgainIn : Row → Row → ℕ → Type 0
AgainIn whole rest low = (vs : Values rest) → ValuesFit rest vs → AllByRecursion PieceFits (pieces rest vs) → (ps us : List Part) → Below low ps
    → AllByRecursion (λ u. knows whole u.field ≡ false) us → values rest (ps ++ (map canonical (pieces rest vs) ++ us)) ≡ vs

-- what is not known by the whole row is not known by the rest
abbrev Within : Row → Row → Type 0
Within whole rest = (field : Piece) → knows whole field ≡ false → knows rest field ≡ false

module _ (test : Content → Bool) (at : ℕ) (whole rest : Row) (first : (field : Piece) → knows whole field ≡ false → ((test field.content && eqb field.number at) || knows rest field) ≡ false) where
  rest_within : Within whole rest
  rest_within field unknown = (or_parts (test field.content && eqb field.number at) (knows rest field) (first field unknown)).1

  unknown_passed : (us : List Part) → AllByRecursion (λ u. knows whole u.field ≡ false) us → Passed test at us
  unknown_passed us unknown = all_weaker (λ u. knows whole u.field ≡ false) (λ u. wanted test at u ≡ false)
      (λ u e. (or_parts (test u.field.content && eqb u.field.number at) (knows rest u.field) (first u.field e)).0) us unknown

-- the parts of a field, behind those before it and before those behind it
regrouped : (ps us : List Part) (mine later : List Piece) → ps ++ (map canonical (mine ++ later) ++ us) ≡ ps ++ (map canonical mine ++ (map canonical later ++ us))
regrouped ps us mine later =
    ap (λ (x : List Part). ps ++ x) (ap (λ (x : List Part). x ++ us) (map-append canonical mine later) ∙ append_assoc (map canonical mine) (map canonical later) us)

pair : {A B : Type 0} (a c : A) (b d : B) → a ≡ c → b ≡ d → ◌≡◌ {A = A × B} (a, b) (c, d)
pair {A = A} {B = B} a c b d e f = let of : A → B → A × B = λ x y. (x, y) in ap (λ (x : A). of x b) e ∙ ap (of c) f

-- the values of a field and of the rest, where the first is `read` of the parts
module _ {A : Type 0} (whole rest : Row) (low at : ℕ) (read : List Part → A) (lt : low < at) (again : AgainIn whole rest at) where
  one_and_rest : (v : A) (vs : Values rest) (mine : List Piece) → ValuesFit rest vs → AllByRecursion PieceFits (mine ++ pieces rest vs) → AllByRecursion (λ (q : Piece). q.number ≡ at) mine
      → (ps us : List Part) → Below low ps → AllByRecursion (λ u. knows whole u.field ≡ false) us → read (ps ++ (map canonical mine ++ (map canonical (pieces rest vs) ++ us))) ≡ v
      → ◌≡◌ {A = A × Values rest} (read (ps ++ (map canonical (mine ++ pieces rest vs) ++ us)), values rest (ps ++ (map canonical (mine ++ pieces rest vs) ++ us))) (v, vs)
  one_and_rest v vs mine fits fit own ps us before unknown is =
      let later = pieces rest vs in
      let apart = regrouped ps us mine later in
      let joined_up : ps ++ (map canonical mine ++ (map canonical later ++ us)) ≡ (ps ++ map canonical mine) ++ (map canonical later ++ us) = sym (append_assoc ps (map canonical mine) (map canonical later ++ us)) in
      pair _ v _ vs (ap read apart ∙ is)
      (ap (values rest) (apart ∙ joined_up)
      ∙ again vs fits (all_apart PieceFits mine later fit).1 (ps ++ map canonical mine) us (below_more low at ps (map canonical mine) lt before (below_mine at mine own)) unknown)

-- a message in a message
abbrev Returns : Row → Type 0
Returns row = (m : Meaning row) → Fits row m → length (writes row m) < 2 ^ 64 → reads row (writes row m) ≡ m

part_again : (row : Row) (at : ℕ) → Returns row → (held : Option (Meaning row)) → IfSome held (λ m. ValuesFit row m.0 × KeptFits (keeps_unknown row) row m.1)
    → AllByRecursion PieceFits (body_field at (option_map (writes row) held)) → option_map (reads row) (option_map (writes row) held) ≡ held
part_again row at again None fits fit = refl
part_again row at again (Some m) fits fit = ap Some (again m fits fit.0.1)

parts_are_again : (row : Row) (at : ℕ) → Returns row → (ms : List (Meaning row)) → AllByRecursion (λ m. ValuesFit row m.0 × KeptFits (keeps_unknown row) row m.1) ms
    → AllByRecursion PieceFits (body_fields at (map (writes row) ms)) → map (reads row) (map (writes row) ms) ≡ ms
parts_are_again row at again [] fits fit = refl
parts_are_again row at again (m ∷ ms) fits fit =
    ap (λ (x : Meaning row). x ∷ map (reads row) (map (writes row) ms)) (again m fits.0 fit.0.1) ∙ ap (λ (xs : List (Meaning row)). m ∷ xs) (parts_are_again row at again ms fits.1 fit.1)

-- a member that is written is held
held_some : {A : Type 0} (of : A → List ℕ) (held : Option A) → IsSome (option_map of held) → IsSome held
held_some of None some = some
held_some of (Some m) some = some

-- ---- the fields that are not known

number_known : (at n : ℕ) (rest : Row) → AllByRecursion (λ q. ((is_varint q.content && eqb q.number at) || knows rest q) ≡ true) (number_field at n)
number_known at zero rest = tt
number_known at (suc n) rest = (rw (same_number at) refl, tt)

list_known : (at : ℕ) (text : List ℕ) (rest : Row) → AllByRecursion (λ q. ((is_either q.content && eqb q.number at) || knows rest q) ≡ true) (text_field at text)
list_known at [] rest = tt
list_known at (b ∷ text) rest = (rw (same_number at) refl, tt)

abbrev KnownBody : ℕ → Row → List Piece → Type 0
KnownBody at rest = AllByRecursion (λ q. ((is_body q.content && eqb q.number at) || knows rest q) ≡ true)

text_known : (at : ℕ) (text : List ℕ) (rest : Row) → KnownBody at rest (text_field at text)
text_known at [] rest = tt
text_known at (b ∷ text) rest = (rw (same_number at) refl, tt)

body_known : (at : ℕ) (body : Option (List ℕ)) (rest : Row) → KnownBody at rest (body_field at body)
body_known at None rest = tt
body_known at (Some body) rest = (rw (same_number at) refl, tt)

bodies_known : (at : ℕ) (bodies : List (List ℕ)) (rest : Row) → KnownBody at rest (body_fields at bodies)
bodies_known at [] rest = tt
bodies_known at (body ∷ bodies) rest = (rw (same_number at) refl, bodies_known at bodies rest)

-- what the rest knows is known with one more field
known_more : (test : Content → Bool) (at : ℕ) (rest : Row) (mine later : List Piece) → AllByRecursion (λ q. ((test q.content && eqb q.number at) || knows rest q) ≡ true) mine
    → AllByRecursion (λ q. knows rest q ≡ true) later → AllByRecursion (λ q. ((test q.content && eqb q.number at) || knows rest q) ≡ true) (mine ++ later)
known_more test at rest mine later own known =
    all_append _ mine later own
    (all_weaker (λ q. knows rest q ≡ true) (λ q. ((test q.content && eqb q.number at) || knows rest q) ≡ true) (λ q e. or_right (test q.content && eqb q.number at) (knows rest q) e) later known)

pieces_known : (row : Row) (vs : Values row) → AllByRecursion (λ q. knows row q ≡ true) (pieces row vs)
unfolding pieces
pieces_known (Done keeps) vs = tt
pieces_known (Number at kind rest) vs = known_more is_varint at rest (number_field at (varint_of kind vs.0)) (pieces rest vs.1) (number_known at (varint_of kind vs.0) rest) (pieces_known rest vs.1)
pieces_known (Numbers at kind rest) vs =
    known_more is_either at rest (text_field at (packed (map (varint_of kind) vs.0))) (pieces rest vs.1) (list_known at (packed (map (varint_of kind) vs.0)) rest) (pieces_known rest vs.1)
pieces_known (Text at rest) vs = known_more is_body at rest (text_field at vs.0) (pieces rest vs.1) (text_known at vs.0 rest) (pieces_known rest vs.1)
pieces_known (Texts at rest) vs = known_more is_body at rest (body_fields at vs.0) (pieces rest vs.1) (bodies_known at vs.0 rest) (pieces_known rest vs.1)
pieces_known (Message at others row rest) vs =
    known_more is_body at rest (body_field at (option_map (writes row) vs.0)) (pieces rest vs.1) (body_known at (option_map (writes row) vs.0) rest) (pieces_known rest vs.1)
pieces_known (Messages at row rest) vs =
    known_more is_body at rest (body_fields at (map (writes row) vs.0)) (pieces rest vs.1) (bodies_known at (map (writes row) vs.0) rest) (pieces_known rest vs.1)
pieces_known (Raw at others rest) vs = known_more is_body at rest (body_field at vs.0) (pieces rest vs.1) (body_known at vs.0 rest) (pieces_known rest vs.1)

nothing_kept : (b : Bool) → cond {A = List ℕ} b [] [] ≡ []
nothing_kept true = refl
nothing_kept false = refl

known_not_kept : (row : Row) (qs : List Piece) → AllByRecursion (λ q. knows row q ≡ true) qs → flat_map (kept_of row) (map canonical qs) ≡ []
known_not_kept row [] known = refl
known_not_kept row (q ∷ qs) known = rw (known.0, nothing_kept (keeps_unknown row)) (known_not_kept row qs known.1)

all_kept : (row : Row) (us : List Part) → keeps_unknown row ≡ true → AllByRecursion (λ u. knows row u.field ≡ false) us → flat_map (kept_of row) us ≡ flat_map (λ (u : Part). u.raw) us
all_kept row [] keeps unknown = refl
all_kept row (u ∷ us) keeps unknown = rw (keeps, unknown.0) (ap (λ (bs : List ℕ). u.raw ++ bs) (all_kept row us keeps unknown.1))

kept_again : (row : Row) (bytes : List ℕ) (keeps : Bool) (fits : KeptFits keeps row bytes) → keeps_unknown row ≡ keeps → flat_map (kept_of row) (kept_spelled keeps row bytes fits).parts ≡ bytes
kept_again row bytes true fits e = all_kept row fits.parts e fits.not_known ∙ sym fits.whole
kept_again row bytes false fits e = sym fits

-- ---- a message

returns_from : (row : Row) → Ascends 0 row → AgainIn row row 0 → Returns row
returns_from row up again m fits short =
    let kept = kept_spelled (keeps_unknown row) row m.1 fits.1 in
    let fit = pieces_fit row up m fits.0 short in
    let are = parts_again row (pieces row m.0) m.1 kept fit in
    pair _ m.0 _ m.1 (ap (values row) are ∙ again m.0 fits.0 fit [] kept.parts tt kept.not_known)
    (ap (flat_map (kept_of row)) are ∙ flat_map-append (kept_of row) (map canonical (pieces row m.0)) kept.parts
    ∙ ap (λ (bs : List ℕ). bs ++ flat_map (kept_of row) kept.parts) (known_not_kept row (pieces row m.0) (pieces_known row m.0)) ∙ kept_again row m.1 (keeps_unknown row) fits.1 refl)

-- the fields behind a field are passed over for it
module _ (test : Content → Bool) (at : ℕ) (whole rest : Row) (up : Ascends at rest) (first : (field : Piece) → knows whole field ≡ false → ((test field.content && eqb field.number at) || knows rest field) ≡ false) where
  later_passed : (vs : Values rest) (us : List Part) → AllByRecursion (λ u. knows whole u.field ≡ false) us → Passed test at (map canonical (pieces rest vs) ++ us)
  later_passed vs us unknown = behind_passed test at (pieces rest vs) us (pieces_above rest at up vs) (unknown_passed test at whole rest first us unknown)

-- no other member is among the fields behind one that is there
others_passed : (whole rest : Row) (at : ℕ) (others : List ℕ) → AreOthers whole at others → NamedBack at others rest → (vs : Values rest) → NoneOf others rest vs
    → (us : List Part) → AllByRecursion (λ u. knows whole u.field ≡ false) us → NoMember others (map canonical (pieces rest vs) ++ us)
others_passed whole rest at others are named vs none us unknown =
    all_append _ (map canonical (pieces rest vs)) us (none_later at others rest named vs none)
    (all_weaker (λ u. knows whole u.field ≡ false) (λ u. is_body_of others u ≡ false) (λ u e. not_member whole others are.1 u.raw u.field.number u.field.content e) us unknown)

again_in : (whole rest : Row) (low : ℕ) → Ascends low rest → HasOneOfs whole rest → Within whole rest → AgainIn whole rest low
unfolding values pieces
again_in whole (Done keeps) low up ones within vs fits fit ps us before unknown = refl
again_in whole (Number at kind rest) low up ones within vs fits fit ps us before unknown =
    let n = varint_of kind vs.0 in
    let behind = map canonical (pieces rest vs.1) ++ us in
    one_and_rest whole rest low at (λ qs. number_of kind (last_or 0 (varints_at at qs))) up.0 (again_in whole rest at up.2 ones (rest_within is_varint at whole rest within))
    vs.0 vs.1 (number_field at n) fits.1 fit (number_own at n) ps us before unknown
    (ap (λ (ns : List ℕ). number_of kind (last_or 0 ns)) (only_mine (varints_at at) (filter_map-append _) ps (map canonical (number_field at n)) behind
    (no_varints at ps (passed_below is_varint at low ps up.0 before)) (no_varints at behind (later_passed is_varint at whole rest up.2 within vs.1 us unknown)))
    ∙ ap (number_of kind) (number_mine at n) ∙ number_again kind vs.0 fits.0)
again_in whole (Numbers at kind rest) low up ones within vs fits fit ps us before unknown =
    let ns = map (varint_of kind) vs.0 in
    let behind = map canonical (pieces rest vs.1) ++ us in
    one_and_rest whole rest low at (λ qs. map (number_of kind) (numbers_at at qs)) up.0 (again_in whole rest at up.2 ones (rest_within is_either at whole rest within))
    vs.0 vs.1 (text_field at (packed ns)) fits.1 fit (text_own at (packed ns)) ps us before unknown
    (ap (map (number_of kind)) (only_mine (numbers_at at) (flat_map-append _) ps (map canonical (text_field at (packed ns))) behind
    (no_numbers at ps (passed_below is_either at low ps up.0 before)) (no_numbers at behind (later_passed is_either at whole rest up.2 within vs.1 us unknown))
    ∙ numbers_mine at (packed ns) ns (unpacked_again ns (varints_below kind vs.0 fits.0))) ∙ numbers_again kind vs.0 fits.0)
again_in whole (Text at rest) low up ones within vs fits fit ps us before unknown =
    let behind = map canonical (pieces rest vs.1) ++ us in
    one_and_rest whole rest low at (λ qs. last_or [] (bodies_at at qs)) up.0 (again_in whole rest at up.2 ones (rest_within is_body at whole rest within))
    vs.0 vs.1 (text_field at vs.0) fits.1 fit (text_own at vs.0) ps us before unknown
    (ap (last_or []) (only_mine (bodies_at at) (filter_map-append _) ps (map canonical (text_field at vs.0)) behind
    (no_bodies at ps (passed_below is_body at low ps up.0 before)) (no_bodies at behind (later_passed is_body at whole rest up.2 within vs.1 us unknown)))
    ∙ text_mine at vs.0)
again_in whole (Texts at rest) low up ones within vs fits fit ps us before unknown =
    let behind = map canonical (pieces rest vs.1) ++ us in
    one_and_rest whole rest low at (bodies_at at) up.0 (again_in whole rest at up.2 ones (rest_within is_body at whole rest within))
    vs.0 vs.1 (body_fields at vs.0) fits.1 fit (bodies_own at vs.0) ps us before unknown
    (only_mine (bodies_at at) (filter_map-append _) ps (map canonical (body_fields at vs.0)) behind
    (no_bodies at ps (passed_below is_body at low ps up.0 before)) (no_bodies at behind (later_passed is_body at whole rest up.2 within vs.1 us unknown))
    ∙ bodies_mine at vs.0)
again_in whole (Message at others row rest) low up ones within vs fits fit ps us before unknown =
    let body = option_map (writes row) vs.0 in
    let behind = map canonical (pieces rest vs.1) ++ us in
    let inner = returns_from row up.2 (again_in row row 0 up.2 ones.2 (λ field e. e)) in
    one_and_rest whole rest low at (λ qs. option_map (reads row) (joined (bodies_since at others qs))) up.0 (again_in whole rest at up.3 ones.3 (rest_within is_body at whole rest within))
    vs.0 vs.1 (body_field at body) fits.2 fit (body_own at body) ps us before unknown
    (ap (option_map (reads row)) (member_is at others body ps behind (passed_below is_body at low ps up.0 before) (later_passed is_body at whole rest up.3 within vs.1 us unknown) ones.0.0
    (λ some. others_passed whole rest at others ones.0 ones.1 vs.1 (fits.1 (held_some (writes row) vs.0 some)) us unknown))
    ∙ part_again row at inner vs.0 fits.0 (all_apart PieceFits (body_field at body) (pieces rest vs.1) fit).0)
again_in whole (Messages at row rest) low up ones within vs fits fit ps us before unknown =
    let bodies = map (writes row) vs.0 in
    let behind = map canonical (pieces rest vs.1) ++ us in
    let inner = returns_from row up.2 (again_in row row 0 up.2 ones.0 (λ field e. e)) in
    one_and_rest whole rest low at (λ qs. map (reads row) (bodies_at at qs)) up.0 (again_in whole rest at up.3 ones.1 (rest_within is_body at whole rest within))
    vs.0 vs.1 (body_fields at bodies) fits.1 fit (bodies_own at bodies) ps us before unknown
    (ap (map (reads row)) (only_mine (bodies_at at) (filter_map-append _) ps (map canonical (body_fields at bodies)) behind
    (no_bodies at ps (passed_below is_body at low ps up.0 before)) (no_bodies at behind (later_passed is_body at whole rest up.3 within vs.1 us unknown))
    ∙ bodies_mine at bodies) ∙ parts_are_again row at inner vs.0 fits.0 (all_apart PieceFits (body_fields at bodies) (pieces rest vs.1) fit).0)
again_in whole (Raw at others rest) low up ones within vs fits fit ps us before unknown =
    let behind = map canonical (pieces rest vs.1) ++ us in
    one_and_rest whole rest low at (λ qs. joined (bodies_since at others qs)) up.0 (again_in whole rest at up.2 ones.2 (rest_within is_body at whole rest within))
    vs.0 vs.1 (body_field at vs.0) fits.1 fit (body_own at vs.0) ps us before unknown
    (member_is at others vs.0 ps behind (passed_below is_body at low ps up.0 before) (later_passed is_body at whole rest up.2 within vs.1 us unknown) ones.0.0
    (λ some. others_passed whole rest at others ones.0 ones.1 vs.1 (fits.0 some) us unknown))

pub written_again : (row : Row) → IsRow row → (m : Meaning row) → Fits row m → length (writes row m) < 2 ^ 64 → reads row (writes row m) ≡ m
written_again row is m fits short = returns_from row is.ascends (again_in row row 0 is.ascends is.one_ofs (λ field e. e)) m fits short
