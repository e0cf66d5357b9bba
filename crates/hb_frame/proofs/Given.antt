-- What a reader holds once it gave a frame, and that it gives those of the cut.
use Rattle.std.proofs.Common.{◌≡◌, ℕ, ◌-◌, ◌+◌, List, [], ◌∷◌, ◌++◌, length, take, drop, sym, ap, subst, ◌∙◌, arith, length-append}
use Rattle.std.specs.List.{flat_map}
use Rattle.std.proofs.Math.Seq.{take-append_seam, drop-append_seam}
use Rattle.std.proofs.lemmas.List.{append-nil, drop-drop, drop-take}
use Rattle.std.proofs.lemmas.List.Concat.{flat_map-append}
use Rattle.hb_frame.specs.Frames.{Frame, frame_bytes}
use Rattle.hb_frame.specs.Cut.{StartsFrame, StartsFrames, StartsNoFrame, IsCut}
use Rattle.hb_frame.specs.Reader.{Reader, HasRead, HasStayed, place_of}
use Rattle.hb_frame.proofs.Cuts.{frames_with}

-- the body that ends where the bytes that were given do
pub given_body : (items : List ℕ) (given body : ℕ) → drop (given + (5 + body) - body) (take (given + (5 + body)) items) ≡ take body (drop 5 (drop given items))
given_body items given body =
    let before : given + (5 + body) - body ≡ given + 5 = omega arith in
    let all : given + (5 + body) ≡ given + 5 + body = omega arith in
    ap (λ n. drop n (take (given + (5 + body)) items)) before ∙ ap (λ n. drop (given + 5) (take n items)) all
    ∙ drop-take (given + 5) body items ∙ ap (take body) (sym (drop-drop 5 given items))

-- a place, and that of what comes after a frame, told up to the end of their type
pub place_after : (place size : ℕ) → place_of (place_of place + size) ≡ place_of (place + size)
place_after place size = omega arith

-- a frame is its head and its body
pub frame_size : (f : Frame) → length (frame_bytes f) ≡ 5 + length f.body
frame_size f = omega arith

-- the parts of bytes that a frame begins
pub body_part : (bytes after : List ℕ) (f : Frame) → StartsFrame bytes f after → take (length f.body) (drop 5 bytes) ≡ f.body
body_part bytes after f starts = ap (λ (bs : List ℕ). take (length f.body) (drop 5 bs)) starts.whole ∙ take-append_seam f.body after

pub after_part : (bytes after : List ℕ) (f : Frame) → StartsFrame bytes f after → drop (5 + length f.body) bytes ≡ after
after_part bytes after f starts =
    sym (drop-drop (length f.body) 5 bytes) ∙ ap (λ (bs : List ℕ). drop (length f.body) (drop 5 bs)) starts.whole ∙ drop-append_seam f.body after

-- one frame more was given
pub has_read_more : (old new : Reader) (fed : List ℕ) (given : List Frame) (f : Frame) → HasRead old fed given → StartsFrame old.held f new.held
    → new.place ≡ place_of (old.place + (5 + length f.body)) → HasRead new fed (given ++ f ∷ [])
has_read_more old new fed given f read next place =
    let size : length (flat_map frame_bytes (given ++ f ∷ [])) ≡ length (flat_map frame_bytes given) + (5 + length f.body) =
    omega (
      arith,
      ap length (flat_map-append frame_bytes given (f ∷ []) ∙ ap (λ bs. flat_map frame_bytes given ++ bs) (append-nil (frame_bytes f))),
      length-append (flat_map frame_bytes given) (frame_bytes f),
      frame_size f,
    ) in
    record {
      starts = frames_with fed old.held new.held f given read.starts next;
      place = place ∙ ap (λ n. place_of (n + (5 + length f.body))) read.place
          ∙ place_after (length (flat_map frame_bytes given)) (5 + length f.body) ∙ ap place_of (sym size);
    }

-- no whole frame is held
pub has_cut : (old new : Reader) (fed : List ℕ) (given : List Frame) → HasRead old fed given → HasStayed old new → StartsNoFrame old.held
    → HasRead new fed given × IsCut fed given new.held
has_cut old new fed given read same none =
    let starts : StartsFrames fed given new.held = subst (StartsFrames fed given) (sym same.held) read.starts in
    (record { starts = starts; place = same.place ∙ read.place }, record { starts = starts; longest = subst StartsNoFrame (sym same.held) none })
