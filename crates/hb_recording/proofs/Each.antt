-- Each file is a recording, or bad at a place.
use Rattle.std.proofs.Common.{◌≡◌, ◌⊎◌, inl, inr, ℕ, zero, suc, ◌≤◌, List, [], ◌∷◌, ◌++◌, length, map, Option, Some, None, refl, sym, subst, arith}
use Rattle.std.specs.Prelude.{IsSome}
use Rattle.std.specs.List.{flat_map}
use Rattle.std.proofs.Math.Dec.{eqb-suc-zero}
use Rattle.std.proofs.lemmas.Bool.{cases_lt}
use Rattle.hb_wire.specs.Varint.{AreBytes}
use Rattle.hb_flow.specs.Faults.{response_fault}
use Rattle.hb_flow.specs.Messages.{read_response, response_bytes}
use Rattle.hb_schema.specs.declared.fault.DecodeFault.{DecodeFault}
use Rattle.hb_flow.specs.declared.response.GetFlowsResponse.{GetFlowsResponse}
use Rattle.hb_frame.specs.Frames.{Frame, frame_bytes, messages}
use Rattle.hb_frame.specs.Cut.{StartsNoFrame}
use Rattle.hb_recording.specs.Recording.{IsSound, IsBad, TakesFrames, Recorded, IsBadFront, IsBadRecord}
use Rattle.hb_frame.proofs.Begins.{begun_or_stopped, stopped_starts_none}
use Rattle.hb_frame.proofs.Each.{rest_bytes}
use Rattle.hb_recording.proofs.Fronts.{frame_size, starts_message}
use Rattle.hb_recording.proofs.Once.{SoundFrame, takes_more, all_recorded}

-- ---- a message is sound or bad

-- by its fault, and its length when it is spelled anew
told_by_fault : (message : List ℕ) (fault : Option DecodeFault) → response_fault message ≡ fault → IsSound message ⊎ IsBad message
told_by_fault message (Some fault) is = inr (inl (subst (λ (o : Option DecodeFault). IsSome o) (sym is) refl))
told_by_fault message None is =
    elim (cases_lt 65536 (length (response_bytes (read_response message)))) [
      | inl long ↦ inr (inr long)
      | inr short ↦ inl (record { no_fault = is; short = short })
    ]

-- ---- a file

abbrev pub Each : List ℕ → Type 0
Each file = ((rs : List GetFlowsResponse) × Recorded file rs) ⊎ ((at : ℕ) × IsBadRecord file at)

-- a rest that begins with no whole frame, or with a bad message
bad_at : (file : List ℕ) (frames : List Frame) (rest : List ℕ) → TakesFrames file frames rest → IsBadFront rest → Each file
bad_at file frames rest before bad = inr (
  length (flat_map frame_bytes frames),
  (map read_response (messages frames), record { frames = frames; rest = rest; before = before; read = refl; place = refl; bad = bad }),
)

-- a frame is sound, or is a message that is bad
frame_told : (kind : ℕ) (body : List ℕ) → SoundFrame (record { kind = kind; body = body }) ⊎ ((kind ≡ 0) × IsBad body)
frame_told zero body =
    elim (told_by_fault body (response_fault body) refl) [
      | inl sound ↦ inl sound
      | inr bad ↦ inr (refl, bad)
    ]
frame_told (suc k) body = inl (rw (eqb-suc-zero k) tt)

-- a rest that begins with no frame
rest_ends : (file : List ℕ) (frames : List Frame) (rest : List ℕ) → TakesFrames file frames rest → StartsNoFrame rest → Each file
rest_ends file frames rest before none =
    elim (cases_lt 0 (length rest)) [
      | inl some ↦ bad_at file frames rest before (inl (some, none))
      | inr empty ↦ inl (map read_response (messages frames), all_recorded file rest frames before (omega (arith, empty)))
    ]

-- the rest, a frame at a time
each_from : (most : ℕ) (file : List ℕ) (frames : List Frame) (rest : List ℕ) → length rest ≤ most → AreBytes rest → TakesFrames file frames rest → Each file
each_from zero file frames rest fits are before = inl (map read_response (messages frames), all_recorded file rest frames before (omega (arith, fits)))
each_from (suc most) file frames rest fits are before =
    elim (begun_or_stopped rest are) [
      | inl begun ↦
          let f = begun.0 in
          let after = begun.1 in
          let next = begun.2 in
          let bytes : AreBytes after = rest_bytes (frame_bytes f) after (subst AreBytes next.whole are) in
          elim (frame_told f.kind f.body) [
            | inl sound ↦ each_from most file (frames ++ f ∷ []) after (omega (arith, fits, frame_size rest f.body after f.kind next)) bytes (takes_more file rest after f frames before next sound)
            | inr bad ↦ bad_at file frames rest before (inr (f.body, after, starts_message rest f.body after f.kind next bad.0, bad.1))
          ]
      | inr stopped ↦ rest_ends file frames rest before (stopped_starts_none rest stopped)
    ]

pub each_file : (file : List ℕ) → AreBytes file → Each file
each_file file are = each_from (length file) file [] file (omega arith) are (record { starts = record { fit = tt; whole = refl }; sound = tt })
