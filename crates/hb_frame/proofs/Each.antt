-- Each list of bytes has a cut, and more bytes only add frames to it.
use Rattle.std.proofs.Common.{◌≡◌, inl, inr, ℕ, zero, suc, ◌+◌, ◌<◌, ◌≤◌, List, [], ◌∷◌, ◌++◌, length, get_or, append_assoc, refl, sym, ap, ◌∙◌, subst, arith, length-append}
use Rattle.std.specs.List.{flat_map, AllByRecursion}
use Rattle.std.proofs.lemmas.List.{append-nil, drop_at, get_or-drop}
use Rattle.hb_frame.specs.Frames.{Frame, IsFrame, frame_bytes}
use Rattle.hb_frame.specs.Cut.{StartsFrame, StartsNoFrame, StartsFrames, IsCut}
use Rattle.hb_frame.proofs.Cuts.{frame_once, frames_after, nothing_starts}
use Rattle.hb_frame.proofs.Begins.{AreBytes, begun_or_stopped, stopped_starts_none}

pub rest_bytes : (xs ys : List ℕ) → AreBytes (xs ++ ys) → AreBytes ys
rest_bytes xs ys are i = subst (λ bs. get_or bs i 0 < 256) (drop_at xs ys (length xs) refl) (rw get_or-drop (are (length xs + i)))

-- a frame before those of a cut
cut_with : (bytes after : List ℕ) (f : Frame) (frames : List Frame) (rest : List ℕ) → StartsFrame bytes f after → IsCut after frames rest → IsCut bytes (f ∷ frames) rest
cut_with bytes after f frames rest next cut = record {
  starts = record {
    fit = (next.fits, cut.starts.fit);
    whole = next.whole ∙ ap (λ (bs : List ℕ). frame_bytes f ++ bs) cut.starts.whole ∙ sym (frames_after f frames rest);
  };
  longest = cut.longest;
}

no_frames : (bytes : List ℕ) → StartsNoFrame bytes → IsCut bytes [] bytes
no_frames bytes none = record { starts = record { fit = tt; whole = refl }; longest = none }

cut_of : (most : ℕ) (bytes : List ℕ) → length bytes ≤ most → AreBytes bytes → (frames : List Frame) × (rest : List ℕ) × IsCut bytes frames rest
cut_of zero bytes room are = ([], bytes, no_frames bytes (λ f after next. omega (arith, ap length next.whole, room)))
cut_of (suc most) bytes room are =
    elim (begun_or_stopped bytes are) [
      | inl begun ↦
          let f = begun.0 in
          let after = begun.1 in
          let shorter : length after ≤ most = omega (arith, room, ap length begun.2.whole, length-append (frame_bytes f) after) in
          let cut = cut_of most after shorter (rest_bytes (frame_bytes f) after (subst AreBytes begun.2.whole are)) in
          (f ∷ cut.0, cut.1, cut_with bytes after f cut.0 cut.1 begun.2 cut.2)
      | inr stopped ↦ ([], bytes, no_frames bytes (stopped_starts_none bytes stopped))
    ]

pub cut_each : (bytes : List ℕ) → AreBytes bytes → (frames : List Frame) × (rest : List ℕ) × IsCut bytes frames rest
cut_each bytes are = cut_of (length bytes) bytes (omega arith) are

-- whole frames are cut into themselves
pub cut_frames : (frames : List Frame) → AllByRecursion IsFrame frames → IsCut (flat_map frame_bytes frames) frames []
cut_frames frames fit = record { starts = record { fit = fit; whole = sym (append-nil (flat_map frame_bytes frames)) }; longest = nothing_starts }

-- frames that begin bytes are the first ones of their cut
pub first_frames : (fs gs : List Frame) (x y : List ℕ) → AllByRecursion IsFrame fs → AllByRecursion IsFrame gs → flat_map frame_bytes fs ++ x ≡ flat_map frame_bytes gs ++ y
    → StartsNoFrame y → (more : List Frame) × (gs ≡ fs ++ more)
first_frames [] gs x y p q e none = (gs, refl)
first_frames (f ∷ fs) [] x y p q e none = absurd (none f (flat_map frame_bytes fs ++ x) (record { fits = p.0; whole = sym e ∙ frames_after f fs x }))
first_frames (f ∷ fs) (g ∷ gs) x y p q e none =
    let first = frame_once f g (flat_map frame_bytes fs ++ x) (flat_map frame_bytes gs ++ y) p.0 q.0 (sym (frames_after f fs x) ∙ e ∙ frames_after g gs y) in
    let others = first_frames fs gs x y p.1 q.1 first.1 none in
    (others.0, ap (λ (h : Frame). h ∷ gs) (sym first.0) ∙ ap (λ (hs : List Frame). f ∷ hs) others.1)

pub cut_begins : (bytes more : List ℕ) (fs gs : List Frame) (x y : List ℕ) → StartsFrames bytes fs x → IsCut (bytes ++ more) gs y
    → (others : List Frame) × (gs ≡ fs ++ others)
cut_begins bytes more fs gs x y p q =
    first_frames fs gs (x ++ more) y p.fit q.starts.fit
    (sym (append_assoc (flat_map frame_bytes fs) x more) ∙ ap (λ (bs : List ℕ). bs ++ more) (sym p.whole) ∙ q.starts.whole) q.longest
