-- The frame that a rest begins with.
use Rattle.std.proofs.Common.{◌≡◌, ℕ, zero, suc, ◌+◌, ◌-◌, List, [], ◌∷◌, ◌++◌, length, refl, ap, subst, ◌∙◌, arith, length-append}
use Rattle.std.specs.List.{flat_map}
use Rattle.std.proofs.Math.Dec.{eqb-suc-zero}
use Rattle.std.proofs.lemmas.List.{append-nil}
use Rattle.std.proofs.lemmas.List.Elements.{filter_map-append}
use Rattle.hb_frame.specs.Frames.{Frame, frame_bytes, message_frame, message_in, messages}
use Rattle.hb_frame.specs.Cut.{StartsFrame}
use Rattle.hb_recording.specs.Recording.{TakesFrames}
use Rattle.hb_recording.proofs.Once.{SoundFrame}

-- how many bytes it takes
pub frame_size : (rest body after : List ℕ) (kind : ℕ) → StartsFrame rest (record { kind = kind; body = body }) after → length rest ≡ 5 + length body + length after
frame_size rest body after kind starts = ap length starts.whole ∙ omega (arith, length-append body after)

-- one of kind 0 is a message
pub starts_message : (rest body after : List ℕ) (kind : ℕ) → StartsFrame rest (record { kind = kind; body = body }) after → kind ≡ 0
    → StartsFrame rest (message_frame body) after
starts_message rest body after kind starts e = subst (λ (k : ℕ). StartsFrame rest (record { kind = k; body = body }) after) e starts

-- one of another kind is none
no_message : (kind : ℕ) (body : List ℕ) → (kind ≡ 0 → ⊥) → messages (record { kind = kind; body = body } ∷ []) ≡ []
no_message zero body other = absurd (other refl)
no_message (suc k) body other = simp eqb-suc-zero

pub other_frame : (kind : ℕ) (body : List ℕ) → (kind ≡ 0 → ⊥) → SoundFrame (record { kind = kind; body = body })
other_frame zero body other = absurd (other refl)
other_frame (suc k) body other = rw (eqb-suc-zero k) tt

pub same_messages : (frames : List Frame) (kind : ℕ) (body : List ℕ) → (kind ≡ 0 → ⊥) → messages (frames ++ record { kind = kind; body = body } ∷ []) ≡ messages frames
same_messages frames kind body other =
    filter_map-append message_in frames (record { kind = kind; body = body } ∷ [])
    ∙ ap (λ (ms : List (List ℕ)). messages frames ++ ms) (no_message kind body other) ∙ append-nil (messages frames)

-- the place of the rest
pub place_of : (file rest : List ℕ) (at : ℕ) (frames : List Frame) → TakesFrames file frames rest → at ≡ length file - length rest → at ≡ length (flat_map frame_bytes frames)
place_of file rest at frames before is = omega (arith, is, ap length before.starts.whole, length-append (flat_map frame_bytes frames) rest)
