-- What begins bytes: a whole frame, or one of three causes why none does.
use Rattle.std.proofs.Common.{◌≡◌, ◌⊎◌, inl, inr, ℕ, zero, suc, ◌<◌, ◌≤◌, ◌-◌, ◌^◌, List, [], ◌∷◌, ◌++◌, length, take, drop, get_or, replicate, Bor, append_assoc, refl, sym, ap, ◌∙◌, subst, ◌+◌, arith, length-append}
use Rattle.std.specs.Int.{w32, to_be_bytes, from_be_bytes}
use Rattle.std.proofs.lemmas.List.{append-nil, length-take, length-replicate, take-append-drop}
use Rattle.std.proofs.lemmas.Nat.{be_bytes_4}
use Rattle.std.proofs.lemmas.Bool.{cases_lt}
use Rattle.hb_frame.specs.Frames.{Frame, IsFrame, frame_bytes}
use Rattle.hb_frame.specs.Cut.{StartsFrame, StartsNoFrame, IsUnfinished, HasBadKind, HasLongBody, IsStopped}
use Rattle.hb_frame.specs.Reader.{Begins}
use Rattle.hb_frame.specs.declared.front.Front.{Front}
use Rattle.hb_frame.specs.declared.front.Front.TheVariants as fronts
use Rattle.hb_frame.proofs.Cuts.{length_once, frame_once}

-- what begins bytes, where a frame does
abbrev pub Begun : List ℕ → Type 0
Begun bytes = (f : Frame) × (after : List ℕ) × StartsFrame bytes f after

-- each is a byte
abbrev pub AreBytes : List ℕ → Type 0
AreBytes bytes = (i : ℕ) → get_or bytes i 0 < 256

first_same : (x y : ℕ) (xs ys : List ℕ) → x ∷ xs ≡ y ∷ ys → x ≡ y
first_same x y xs ys e = ap (λ (bs : List ℕ). get_or bs 0 0) e

-- ---- a cause is one alone

-- the kind of a frame that begins bytes, or of one whose front they are
kind_of_front : (bytes more after : List ℕ) (f : Frame) (kind : ℕ) → frame_bytes f ≡ bytes ++ more → bytes ≡ kind ∷ after → f.kind ≡ kind
kind_of_front bytes more after f kind front head = first_same f.kind kind _ _ (front ∙ ap (λ (bs : List ℕ). bs ++ more) head)

-- and its length
length_of_front : (bytes more after : List ℕ) (f : Frame) (kind size : ℕ) → IsFrame f → frame_bytes f ≡ bytes ++ more → bytes ≡ kind ∷ to_be_bytes w32 size ++ after
    → size < 2 ^ 32 → length f.body ≡ size
length_of_front bytes more after f kind size fits front head small =
    length_once (length f.body) size (omega (arith, fits.short)) small
    (ap (λ (bs : List ℕ). take 4 (drop 1 bs)) (front ∙ ap (λ (bs : List ℕ). bs ++ more) head))

pub not_bad_kind : (bytes : List ℕ) (kind : ℕ) → IsUnfinished bytes → HasBadKind bytes kind → ⊥
not_bad_kind bytes kind (inl cut) bad =
    omega (arith, kind_of_front bytes cut.more bad.after cut.of kind cut.front bad.head, cut.fits.known, bad.unknown)
not_bad_kind bytes kind (inr short) bad =
    omega (arith, first_same short.kind kind short.after bad.after (sym short.head ∙ bad.head), short.known, bad.unknown)

pub not_long_body : (bytes : List ℕ) (size : ℕ) → IsUnfinished bytes → HasLongBody bytes size → ⊥
not_long_body bytes size (inl cut) long =
    omega (arith, length_of_front bytes cut.more long.after cut.of long.kind size cut.fits cut.front long.head long.fits, cut.fits.short, long.long)
not_long_body bytes size (inr short) long =
    omega (arith, ap length (sym short.head ∙ long.head), short.short)

pub kind_or_length : (bytes : List ℕ) (kind size : ℕ) → HasBadKind bytes kind → HasLongBody bytes size → ⊥
kind_or_length bytes kind size bad long =
    omega (arith, first_same kind long.kind _ _ (sym bad.head ∙ long.head), bad.unknown, long.known)

pub one_kind : (bytes : List ℕ) (k l : ℕ) → HasBadKind bytes k → HasBadKind bytes l → k ≡ l
one_kind bytes k l p q = first_same k l p.after q.after (sym p.head ∙ q.head)

pub one_length : (bytes : List ℕ) (m n : ℕ) → HasLongBody bytes m → HasLongBody bytes n → m ≡ n
one_length bytes m n p q =
    length_once m n p.fits q.fits (ap (λ (bs : List ℕ). take 4 (drop 1 bs)) (sym p.head ∙ q.head))

-- ---- where it stands no frame begins

pub unfinished_starts_none : (bytes : List ℕ) → IsUnfinished bytes → StartsNoFrame bytes
unfinished_starts_none bytes (inl cut) f after starts =
    let once = frame_once cut.of f [] (after ++ cut.more) cut.fits starts.fits
    (append-nil (frame_bytes cut.of) ∙ cut.front ∙ ap (λ (bs : List ℕ). bs ++ cut.more) starts.whole ∙ append_assoc (frame_bytes f) after cut.more) in
    omega (arith, ap length once.1, length-append after cut.more, cut.some)
unfinished_starts_none bytes (inr short) f after starts = omega (arith, ap length (sym short.head ∙ starts.whole), short.short)

pub bad_kind_starts_none : (bytes : List ℕ) (kind : ℕ) → HasBadKind bytes kind → StartsNoFrame bytes
bad_kind_starts_none bytes kind bad f after starts =
    omega (arith, first_same kind f.kind _ _ (sym bad.head ∙ starts.whole), bad.unknown, starts.fits.known)

pub long_body_starts_none : (bytes : List ℕ) (size : ℕ) → HasLongBody bytes size → StartsNoFrame bytes
long_body_starts_none bytes size long f after starts =
    omega (
      arith,
      length_once (length f.body) size (omega (arith, starts.fits.short)) long.fits
          (ap (λ (bs : List ℕ). take 4 (drop 1 bs)) (sym starts.whole ∙ long.head)),
      starts.fits.short,
      long.long,
    )

-- ---- one of the four stands of each bytes

four_bytes : (k a b c d : ℕ) (rest : List ℕ) → AreBytes (k ∷ a ∷ b ∷ c ∷ d ∷ rest) → AreBytes (a ∷ b ∷ c ∷ d ∷ [])
four_bytes k a b c d rest are zero = are 1
four_bytes k a b c d rest are (suc zero) = are 2
four_bytes k a b c d rest are (suc (suc zero)) = are 3
four_bytes k a b c d rest are (suc (suc (suc zero))) = are 4
four_bytes k a b c d rest are (suc (suc (suc (suc i)))) = omega arith

-- the bytes of a length that was read
head_bytes : (k a b c d : ℕ) (rest : List ℕ) → AreBytes (k ∷ a ∷ b ∷ c ∷ d ∷ rest)
    → to_be_bytes w32 (from_be_bytes w32 (a ∷ b ∷ c ∷ d ∷ [])) ≡ a ∷ b ∷ c ∷ d ∷ []
head_bytes k a b c d rest are = be_bytes_4 (a ∷ b ∷ c ∷ d ∷ []) _ refl (four_bytes k a b c d rest are) refl

-- no byte, or no whole head
pub none_unfinished : IsUnfinished []
none_unfinished = inl (record {
  of = record { kind = 0; body = [] };
  fits = record { known = omega arith; short = omega arith };
  more = 0 ∷ 0 ∷ 0 ∷ 0 ∷ 0 ∷ [];
  some = omega arith;
  front = refl;
})

pub head_unfinished : (bytes after : List ℕ) (kind : ℕ) → bytes ≡ kind ∷ after → kind ≤ 3 → length after < 4 → IsUnfinished bytes
head_unfinished bytes after kind head known short = inr (record { kind = kind; after = after; head = head; known = known; short = short })

-- a head, and less than the body that it tells of
pub body_unfinished : (k a b c d : ℕ) (rest : List ℕ) → AreBytes (k ∷ a ∷ b ∷ c ∷ d ∷ rest) → k ≤ 3 → from_be_bytes w32 (a ∷ b ∷ c ∷ d ∷ []) ≤ 65536
    → length rest < from_be_bytes w32 (a ∷ b ∷ c ∷ d ∷ []) → IsUnfinished (k ∷ a ∷ b ∷ c ∷ d ∷ rest)
body_unfinished k a b c d rest are known short less =
    let n = from_be_bytes w32 (a ∷ b ∷ c ∷ d ∷ []) in
    let more = replicate (n - length rest) 0 in
    let count : length more ≡ n - length rest = length-replicate (n - length rest) 0 in
    let size : length (rest ++ more) ≡ n = omega (arith, length-append rest more, count, less) in
    inl (record {
      of = record { kind = k; body = rest ++ more };
      fits = record { known = known; short = omega (arith, size, short) };
      more = more;
      some = omega (arith, count, less);
      front = ap (λ (m : ℕ). k ∷ to_be_bytes w32 m ++ (rest ++ more)) size
          ∙ ap (λ (hs : List ℕ). k ∷ hs ++ (rest ++ more)) (head_bytes k a b c d rest are);
    })

-- a head whose length is too long
pub head_long : (k a b c d : ℕ) (rest : List ℕ) → AreBytes (k ∷ a ∷ b ∷ c ∷ d ∷ rest) → k ≤ 3 → 65536 < from_be_bytes w32 (a ∷ b ∷ c ∷ d ∷ [])
    → from_be_bytes w32 (a ∷ b ∷ c ∷ d ∷ []) < 2 ^ 32 → HasLongBody (k ∷ a ∷ b ∷ c ∷ d ∷ rest) (from_be_bytes w32 (a ∷ b ∷ c ∷ d ∷ []))
head_long k a b c d rest are known long small = record {
  kind = k;
  after = rest;
  head = ap (λ (hs : List ℕ). k ∷ hs ++ rest) (sym (head_bytes k a b c d rest are));
  known = known;
  long = long;
  fits = small;
}

-- a head and the body that it tells of
pub head_starts : (k a b c d : ℕ) (rest : List ℕ) → AreBytes (k ∷ a ∷ b ∷ c ∷ d ∷ rest) → k ≤ 3 → from_be_bytes w32 (a ∷ b ∷ c ∷ d ∷ []) ≤ 65536
    → from_be_bytes w32 (a ∷ b ∷ c ∷ d ∷ []) ≤ length rest
    → StartsFrame (k ∷ a ∷ b ∷ c ∷ d ∷ rest) (record { kind = k; body = take (from_be_bytes w32 (a ∷ b ∷ c ∷ d ∷ [])) rest }) (drop (from_be_bytes w32 (a ∷ b ∷ c ∷ d ∷ [])) rest)
head_starts k a b c d rest are known short long =
    let n = from_be_bytes w32 (a ∷ b ∷ c ∷ d ∷ []) in
    let size : length (take n rest) ≡ n = omega (arith, length-take n rest, long) in
    record {
      fits = record { known = known; short = omega (arith, size, short) };
      whole = ap (λ (xs : List ℕ). k ∷ a ∷ b ∷ c ∷ d ∷ xs) (sym (take-append-drop n rest))
          ∙ ap (λ (hs : List ℕ). k ∷ hs ++ (take n rest ++ drop n rest)) (sym (head_bytes k a b c d rest are))
          ∙ ap (λ (m : ℕ). k ∷ to_be_bytes w32 m ++ (take n rest ++ drop n rest)) (sym size)
          ∙ sym (append_assoc (k ∷ to_be_bytes w32 (length (take n rest))) (take n rest) (drop n rest));
    }

-- ---- the same, of bytes by their places

-- the number that stands behind the kind
abbrev pub length_in : List ℕ → ℕ
length_in bytes = from_be_bytes w32 (get_or bytes 1 0 ∷ get_or bytes 2 0 ∷ get_or bytes 3 0 ∷ get_or bytes 4 0 ∷ [])

whole_head : (bytes : List ℕ) → 5 ≤ length bytes
    → bytes ≡ get_or bytes 0 0 ∷ get_or bytes 1 0 ∷ get_or bytes 2 0 ∷ get_or bytes 3 0 ∷ get_or bytes 4 0 ∷ drop 5 bytes
whole_head [] long = absurd (omega (arith, long))
whole_head (k ∷ []) long = absurd (omega (arith, long))
whole_head (k ∷ a ∷ []) long = absurd (omega (arith, long))
whole_head (k ∷ a ∷ b ∷ []) long = absurd (omega (arith, long))
whole_head (k ∷ a ∷ b ∷ c ∷ []) long = absurd (omega (arith, long))
whole_head (k ∷ a ∷ b ∷ c ∷ d ∷ rest) long = refl

-- what is shown of a whole head and what comes after it holds of the bytes
by_head : (P : List ℕ → Type 0) (bytes : List ℕ) → AreBytes bytes → 5 ≤ length bytes
    → ((k a b c d : ℕ) (rest : List ℕ) → AreBytes (k ∷ a ∷ b ∷ c ∷ d ∷ rest) → P (k ∷ a ∷ b ∷ c ∷ d ∷ rest)) → P bytes
by_head P bytes are long each =
    let whole = whole_head bytes long in
    subst P (sym whole) (each _ _ _ _ _ (drop 5 bytes) (subst AreBytes whole are))

pub has_long_body : (bytes : List ℕ) → AreBytes bytes → 5 ≤ length bytes → get_or bytes 0 0 ≤ 3 → 65536 < length_in bytes → length_in bytes < 2 ^ 32
    → HasLongBody bytes (length_in bytes)
has_long_body bytes are long known over small =
    by_head (λ bs. get_or bs 0 0 ≤ 3 → 65536 < length_in bs → length_in bs < 2 ^ 32 → HasLongBody bs (length_in bs)) bytes are long
    (λ k a b c d rest are'. head_long k a b c d rest are') known over small

pub has_no_body : (bytes : List ℕ) → AreBytes bytes → 5 ≤ length bytes → get_or bytes 0 0 ≤ 3 → length_in bytes ≤ 65536
    → length bytes < 5 + length_in bytes → IsUnfinished bytes
has_no_body bytes are long known short less =
    by_head (λ bs. get_or bs 0 0 ≤ 3 → length_in bs ≤ 65536 → length bs < 5 + length_in bs → IsUnfinished bs) bytes are long
    (λ k a b c d rest are' known' short' less'. body_unfinished k a b c d rest are' known' short' (omega (arith, less'))) known short less

pub has_body : (bytes : List ℕ) → AreBytes bytes → 5 ≤ length bytes → get_or bytes 0 0 ≤ 3 → length_in bytes ≤ 65536
    → 5 + length_in bytes ≤ length bytes → Begun bytes
has_body bytes are long known short enough =
    by_head (λ bs. get_or bs 0 0 ≤ 3 → length_in bs ≤ 65536 → 5 + length_in bs ≤ length bs → Begun bs) bytes are long
    (λ k a b c d rest are' known' short' enough'. (_, _, head_starts k a b c d rest are' known' short' (omega (arith, enough')))) known short enough

pub has_no_head : (bytes : List ℕ) → get_or bytes 0 0 ≤ 3 → length bytes < 5 → IsUnfinished bytes
has_no_head [] known short = none_unfinished
has_no_head (k ∷ rest) known short = head_unfinished (k ∷ rest) rest k refl known (omega (arith, short))

pub has_no_byte : (bytes : List ℕ) → length bytes < 1 → IsUnfinished bytes
has_no_byte [] short = none_unfinished
has_no_byte (k ∷ rest) short = absurd (omega (arith, short))

has_bad_kind : (bytes : List ℕ) → 3 < get_or bytes 0 0 → HasBadKind bytes (get_or bytes 0 0)
has_bad_kind [] unknown = absurd (omega (arith, unknown))
has_bad_kind (k ∷ after) unknown = record { after = after; head = refl; unknown = unknown }

length_fits : (bytes : List ℕ) → AreBytes bytes → length_in bytes < 2 ^ 32
length_fits bytes are = omega (arith, are 1, are 2, are 3, are 4)

-- a frame begins bytes, or there is a cause why none does
pub begun_or_stopped : (bytes : List ℕ) → AreBytes bytes → Begun bytes ⊎ IsStopped bytes
begun_or_stopped bytes are =
    elim (cases_lt 3 (get_or bytes 0 0)) [
      | inl unknown ↦ inr (inr (inl (get_or bytes 0 0, has_bad_kind bytes unknown)))
      | inr known ↦
          elim (cases_lt (length bytes) 5) [
            | inl short ↦ inr (inl (has_no_head bytes known short))
            | inr whole ↦
                elim (cases_lt 65536 (length_in bytes)) [
                  | inl over ↦ inr (inr (inr (length_in bytes, has_long_body bytes are whole known over (length_fits bytes are))))
                  | inr short ↦
                      elim (cases_lt (length bytes) (5 + length_in bytes)) [
                        | inl less ↦ inr (inl (has_no_body bytes are whole known short less))
                        | inr enough ↦ inl (has_body bytes are whole known short enough)
                      ]
                ]
          ]
    ]

pub stopped_starts_none : (bytes : List ℕ) → IsStopped bytes → StartsNoFrame bytes
stopped_starts_none bytes (inl unfinished) = unfinished_starts_none bytes unfinished
stopped_starts_none bytes (inr (inl bad)) = bad_kind_starts_none bytes bad.0 bad.1
stopped_starts_none bytes (inr (inr long)) = long_body_starts_none bytes long.0 long.1

pub none_is_stopped : (bytes : List ℕ) → AreBytes bytes → StartsNoFrame bytes → IsStopped bytes
none_is_stopped bytes are none =
    elim (begun_or_stopped bytes are) [
      | inl begun ↦ absurd (none begun.0 begun.1 begun.2)
      | inr stopped ↦ stopped
    ]

-- what begins bytes is no frame
pub no_frame_begins : (bytes : List ℕ) (front : Front) → Begins bytes front
    → ((kind : ℕ) (body after : Bor (List ℕ)) → front ≡ fronts.Frame kind body after → ⊥) → StartsNoFrame bytes
no_frame_begins bytes (fronts.Frame kind body after) begins none = absurd (none kind body after refl)
no_frame_begins bytes fronts.NeedMore begins none = unfinished_starts_none bytes begins
no_frame_begins bytes (fronts.BadKind kind) begins none = bad_kind_starts_none bytes kind begins
no_frame_begins bytes (fronts.TooLong size) begins none = long_body_starts_none bytes size begins

-- ---- a fault stays, whatever comes behind it

pub bad_kind_stays : (bytes more : List ℕ) (kind : ℕ) → HasBadKind bytes kind → HasBadKind (bytes ++ more) kind
bad_kind_stays bytes more kind bad = record { after = bad.after ++ more; head = ap (λ (bs : List ℕ). bs ++ more) bad.head; unknown = bad.unknown }

pub long_body_stays : (bytes more : List ℕ) (size : ℕ) → HasLongBody bytes size → HasLongBody (bytes ++ more) size
long_body_stays bytes more size long = record {
  kind = long.kind;
  after = long.after ++ more;
  head = ap (λ (bs : List ℕ). bs ++ more) long.head ∙ append_assoc (long.kind ∷ to_be_bytes w32 size) long.after more;
  known = long.known;
  long = long.long;
  fits = long.fits;
}
