-- A file is a recording of one list of responses, or bad at one place, and not both.
use Rattle.std.proofs.Common.{◌≡◌, inl, inr, ℕ, List, [], ◌∷◌, ◌++◌, length, map, Option, Some, None, refl, sym, ap, subst, ◌∙◌, arith}
use Rattle.std.specs.Prelude.{IfSome, IsSome}
use Rattle.std.specs.List.{AllByRecursion, cons_option, flat_map}
use Rattle.std.proofs.lemmas.List.{nil_from_length}
use Rattle.std.proofs.lemmas.List.Elements.{filter_map-append}
use Rattle.hb_flow.proofs.Pieces.{all_append}
use Rattle.hb_flow.specs.Faults.{response_fault}
use Rattle.hb_flow.specs.Messages.{read_response}
use Rattle.hb_schema.specs.declared.fault.DecodeFault.{DecodeFault}
use Rattle.hb_flow.specs.declared.response.GetFlowsResponse.{GetFlowsResponse}
use Rattle.hb_frame.specs.Frames.{Frame, frame_bytes, message_frame, message_in, messages}
use Rattle.hb_frame.specs.Cut.{StartsFrame}
use Rattle.hb_recording.specs.Recording.{IsSound, IsBad, TakesFrames, Recorded, IsBadFront, IsBadRecord}
use Rattle.hb_frame.proofs.Cuts.{Stops, same_front, first_once, frames_with, nothing_starts}

-- ---- a message is one thing only

no_fault_told : (o : Option DecodeFault) → IsSome o → o ≡ None → ⊥
no_fault_told None some none = cc
no_fault_told (Some f) some none = cc

pub bad_unsound : (message : List ℕ) → IsBad message → IsSound message → ⊥
bad_unsound message (inl fault) sound = no_fault_told (response_fault message) fault sound.no_fault
bad_unsound message (inr long) sound = omega (arith, long, sound.short)

-- ---- what begins a file

-- a frame that is no message, or one whose message is sound
abbrev pub SoundFrame : Frame → Type 0
SoundFrame f = IfSome (message_in f) IsSound

sound_with : (o : Option (List ℕ)) (ms : List (List ℕ)) → AllByRecursion IsSound (cons_option o ms) → IfSome o IsSound × AllByRecursion IsSound ms
sound_with None ms sound = (tt, sound)
sound_with (Some m) ms sound = sound

pub sound_frames : (frames : List Frame) → AllByRecursion IsSound (messages frames) → AllByRecursion SoundFrame frames
sound_frames [] sound = tt
sound_frames (f ∷ fs) sound = let both = sound_with (message_in f) (messages fs) sound in (both.0, sound_frames fs both.1)

-- no sound frame begins a bad front, or nothing
pub bad_stops : (rest : List ℕ) → IsBadFront rest → Stops SoundFrame rest
bad_stops rest (inl none) = λ f after starts sound. none.1 f after starts
bad_stops rest (inr bad) = λ f after starts sound.
    let same : f ≡ message_frame bad.0 = (first_once rest after bad.1 f (message_frame bad.0) starts bad.2).0 in
    let it : IsSound bad.0 = subst SoundFrame same sound in bad_unsound bad.0 bad.3 it

pub end_stops : Stops SoundFrame []
end_stops f after starts sound = nothing_starts f after starts

-- the sound frames, up to where they stop, are the ones
one_front : (file x y : List ℕ) (fs gs : List Frame) → TakesFrames file fs x → TakesFrames file gs y → Stops SoundFrame x → Stops SoundFrame y → (fs ≡ gs) × (x ≡ y)
one_front file x y fs gs p q stops stops' =
    same_front SoundFrame fs gs x y p.starts.fit q.starts.fit (sound_frames fs p.sound) (sound_frames gs q.sound) (sym p.starts.whole ∙ q.starts.whole) stops stops'

pub takes_all : (file : List ℕ) (rs : List GetFlowsResponse) (recorded : Recorded file rs) → TakesFrames file recorded.frames []
takes_all file rs recorded = record { starts = recorded.cut.starts; sound = recorded.sound }

-- one sound frame more
sound_one : (o : Option (List ℕ)) → IfSome o IsSound → AllByRecursion IsSound (cons_option o [])
sound_one None sound = tt
sound_one (Some m) sound = (sound, tt)

pub takes_more : (file rest after : List ℕ) (f : Frame) (frames : List Frame) → TakesFrames file frames rest → StartsFrame rest f after → SoundFrame f → TakesFrames file (frames ++ f ∷ []) after
takes_more file rest after f frames before next sound = record {
  starts = frames_with file rest after f frames before.starts next;
  sound = subst (AllByRecursion IsSound) (sym (filter_map-append message_in frames (f ∷ [])))
      (all_append IsSound (messages frames) (messages (f ∷ [])) before.sound (sound_one (message_in f) sound));
}

-- frames that are all of the file
pub all_recorded : (file rest : List ℕ) (frames : List Frame) → TakesFrames file frames rest → length rest ≡ 0 → Recorded file (map read_response (messages frames))
all_recorded file rest frames before none = record {
  frames = frames;
  cut = record {
    starts = record {
      fit = before.starts.fit;
      whole = before.starts.whole ∙ ap (λ (r : List ℕ). flat_map frame_bytes frames ++ r) (nil_from_length rest none);
    };
    longest = nothing_starts;
  };
  sound = before.sound;
  read = refl;
}

-- ---- a file is one thing only

pub responses_once : (file : List ℕ) (rs ss : List GetFlowsResponse) → Recorded file rs → Recorded file ss → rs ≡ ss
responses_once file rs ss p q =
    let same = one_front file [] [] p.frames q.frames (takes_all file rs p) (takes_all file ss q) end_stops end_stops in
    p.read ∙ ap (λ (fs : List Frame). map read_response (messages fs)) same.0 ∙ sym q.read

pub place_once : (file : List ℕ) (at there : ℕ) → IsBadRecord file at → IsBadRecord file there → at ≡ there
place_once file at there p q = let p = p.1 in let q = q.1 in
    let same = one_front file p.rest q.rest p.frames q.frames p.before q.before (bad_stops p.rest p.bad) (bad_stops q.rest q.bad) in
    p.place ∙ ap (λ (fs : List Frame). length (flat_map frame_bytes fs)) same.0 ∙ sym q.place

no_bad_end : IsBadFront [] → ⊥
no_bad_end (inl none) = omega (arith, none.0)
no_bad_end (inr bad) = nothing_starts (message_frame bad.0) bad.1 bad.2

pub recorded_not_bad : (file : List ℕ) (rs : List GetFlowsResponse) (at : ℕ) → Recorded file rs → IsBadRecord file at → ⊥
recorded_not_bad file rs at p q = let q = q.1 in
    let same = one_front file [] q.rest p.frames q.frames (takes_all file rs p) q.before end_stops (bad_stops q.rest q.bad) in
    no_bad_end (subst IsBadFront (sym same.1) q.bad)
