-- Bytes are cut into frames in one way.
use Rattle.std.proofs.Common.{◌≡◌, ℕ, ◌<◌, ◌^◌, List, [], ◌∷◌, ◌++◌, length, take, drop, get_or, append_assoc, refl, sym, ap, ◌∙◌, arith}
use Rattle.std.specs.Int.{w32, to_be_bytes, from_be_bytes}
use Rattle.std.specs.List.{flat_map, AllByRecursion}
use Rattle.std.proofs.Math.Seq.{take-append_seam, drop-append_seam}
use Rattle.std.proofs.lemmas.List.{append-nil}
use Rattle.std.proofs.lemmas.List.Concat.{flat_map-append}
use Rattle.std.proofs.lemmas.Nat.{from_be_bytes-to_be_bytes_4}
use Rattle.hb_frame.specs.Frames.{Frame, IsFrame, frame_bytes}
use Rattle.hb_frame.specs.Cut.{StartsFrame, StartsNoFrame, StartsFrames, IsCut}

pub length_once : (m n : ℕ) → m < 2 ^ 32 → n < 2 ^ 32 → to_be_bytes w32 m ≡ to_be_bytes w32 n → m ≡ n
length_once m n p q e = sym (from_be_bytes-to_be_bytes_4 m p) ∙ ap (from_be_bytes w32) e ∙ from_be_bytes-to_be_bytes_4 n q

-- two lists of one length that begin the same items
front_once : (xs ys x y : List ℕ) → length xs ≡ length ys → xs ++ x ≡ ys ++ y → (xs ≡ ys) × (x ≡ y)
front_once xs ys x y p e = (
  sym (take-append_seam xs x) ∙ ap (take (length xs)) e ∙ ap (λ n. take n (ys ++ y)) p ∙ take-append_seam ys y,
  sym (drop-append_seam xs x) ∙ ap (drop (length xs)) e ∙ ap (λ n. drop n (ys ++ y)) p ∙ drop-append_seam ys y,
)

-- a frame by its fields
same_frame : (f g : Frame) → f.kind ∷ [] ≡ g.kind ∷ [] → f.body ≡ g.body → f ≡ g
same_frame f g p q =
    ap (λ (xs : List ℕ). record { kind = get_or xs 0 0; body = f.body }) p ∙ ap (λ (b : List ℕ). record { kind = g.kind; body = b }) q

-- the bytes of a frame, and what comes after them, tell both
pub frame_once : (f g : Frame) (x y : List ℕ) → IsFrame f → IsFrame g → frame_bytes f ++ x ≡ frame_bytes g ++ y → (f ≡ g) × (x ≡ y)
frame_once f g x y p q e =
    let head : take 5 (frame_bytes f ++ x) ≡ take 5 (frame_bytes g ++ y) = ap (take 5) e in
    let size : length f.body ≡ length g.body =
    length_once (length f.body) (length g.body) (omega (arith, p.short)) (omega (arith, q.short)) (ap (drop 1) head) in
    let bodies : (f.body ≡ g.body) × (x ≡ y) = front_once f.body g.body x y size (ap (drop 5) e) in
    (same_frame f g (ap (take 1) head) bodies.0, bodies.1)

-- one frame and others, as bytes
pub frames_after : (f : Frame) (fs : List Frame) (x : List ℕ) → flat_map frame_bytes (f ∷ fs) ++ x ≡ frame_bytes f ++ (flat_map frame_bytes fs ++ x)
frames_after f fs x = append_assoc (frame_bytes f) (flat_map frame_bytes fs) x

-- Lists of frames that begin the same bytes are one, where each frame has a property and no frame that has it begins what comes after them.
module _ (P : Frame → Type 0) where
  abbrev pub Stops : List ℕ → Type 0
  Stops rest = (f : Frame) (after : List ℕ) → StartsFrame rest f after → P f → ⊥

  pub same_front : (fs gs : List Frame) (x y : List ℕ) → AllByRecursion IsFrame fs → AllByRecursion IsFrame gs → AllByRecursion P fs → AllByRecursion P gs
      → flat_map frame_bytes fs ++ x ≡ flat_map frame_bytes gs ++ y → Stops x → Stops y → (fs ≡ gs) × (x ≡ y)
  same_front [] [] x y p q all all' e none none' = (refl, e)
  same_front [] (g ∷ gs) x y p q all all' e none none' =
      absurd (none g (flat_map frame_bytes gs ++ y) (record { fits = q.0; whole = e ∙ frames_after g gs y }) all'.0)
  same_front (f ∷ fs) [] x y p q all all' e none none' =
      absurd (none' f (flat_map frame_bytes fs ++ x) (record { fits = p.0; whole = sym e ∙ frames_after f fs x }) all.0)
  same_front (f ∷ fs) (g ∷ gs) x y p q all all' e none none' =
      let first = frame_once f g (flat_map frame_bytes fs ++ x) (flat_map frame_bytes gs ++ y) p.0 q.0 (sym (frames_after f fs x) ∙ e ∙ frames_after g gs y) in
      let others = same_front fs gs x y p.1 q.1 all.1 all'.1 first.1 none none' in
      (ap (λ (h : Frame). h ∷ fs) first.0 ∙ ap (λ (hs : List Frame). g ∷ hs) others.0, others.1)

-- one frame begins bytes
pub first_once : (bytes x y : List ℕ) (f g : Frame) → StartsFrame bytes f x → StartsFrame bytes g y → (f ≡ g) × (x ≡ y)
first_once bytes x y f g p q = frame_once f g x y p.fits q.fits (sym p.whole ∙ q.whole)

all_append : {A : Type 0} (P : A → Type 0) (xs ys : List A) → AllByRecursion P xs → AllByRecursion P ys → AllByRecursion P (xs ++ ys)
all_append P [] ys p q = q
all_append P (x ∷ xs) ys p q = (p.0, all_append P xs ys p.1 q)

-- frames that begin bytes, with the frame after them
pub frames_with : (file rest after : List ℕ) (f : Frame) (fs : List Frame) → StartsFrames file fs rest → StartsFrame rest f after → StartsFrames file (fs ++ f ∷ []) after
frames_with file rest after f fs starts next =
    let one : flat_map frame_bytes (f ∷ []) ++ after ≡ frame_bytes f ++ after = ap (λ (bs : List ℕ). bs ++ after) (append-nil (frame_bytes f)) in
    let all : flat_map frame_bytes (fs ++ f ∷ []) ++ after ≡ flat_map frame_bytes fs ++ (frame_bytes f ++ after) =
    ap (λ (bs : List ℕ). bs ++ after) (flat_map-append frame_bytes fs (f ∷ []))
    ∙ append_assoc (flat_map frame_bytes fs) (flat_map frame_bytes (f ∷ [])) after
    ∙ ap (λ (bs : List ℕ). flat_map frame_bytes fs ++ bs) one in
    record {
      fit = all_append IsFrame fs (f ∷ []) starts.fit (next.fits, tt);
      whole = starts.whole ∙ ap (λ (bs : List ℕ). flat_map frame_bytes fs ++ bs) next.whole ∙ sym all;
    }

-- no frame begins no bytes
pub nothing_starts : StartsNoFrame []
nothing_starts f after starts = omega (arith, ap length starts.whole)

-- two cuts of the same bytes are one
any_frames : (fs : List Frame) → AllByRecursion (λ _. Unit {0}) fs
any_frames [] = tt
any_frames (f ∷ fs) = (tt, any_frames fs)

pub cut_once : (bytes : List ℕ) (fs gs : List Frame) (x y : List ℕ) → IsCut bytes fs x → IsCut bytes gs y → (fs ≡ gs) × (x ≡ y)
cut_once bytes fs gs x y p q =
    same_front (λ _. Unit {0}) fs gs x y p.starts.fit q.starts.fit (any_frames fs) (any_frames gs) (sym p.starts.whole ∙ q.starts.whole)
    (λ f after starts _. p.longest f after starts) (λ f after starts _. q.longest f after starts)
