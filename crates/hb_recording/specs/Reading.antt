-- A reader of a recording: what it has, and what it gave.
use Rattle.std.specs.Prelude.{◌≡◌, ℕ, ◌+◌, ◌-◌, ◌*◌, ◌≤◌, List, [], ◌∷◌, length, map}
use Rattle.hb_flow.specs.Messages.{read_response}
use Rattle.hb_flow.specs.declared.response.GetFlowsResponse.{GetFlowsResponse}
use Rattle.hb_frame.specs.Frames.{Frame, messages}
use Rattle.hb_recording.specs.declared.reader.Next.{Next}
use Rattle.hb_recording.specs.declared.reader.Next.TheVariants.{Response, End, Bad, NoMemory}
use Rattle.hb_recording.specs.Recording.{IsSound, IsBad, TakesFrames}

-- a file, and the part at its end that was not read yet
pub record Reading : Type 0 where
  pub file : List ℕ
  pub rest : List ℕ

-- The responses are all that the reader gave: those of the sound frames that begin the file up to
-- the rest.
pub record HasGiven (reading : Reading) (responses : List GetFlowsResponse) : Type 0 where
  pub frames : List Frame
  pub before : TakesFrames reading.file frames reading.rest
  pub read : responses ≡ map read_response (messages frames)

-- what an answer gives, where the caller's response is this then
abbrev pub given_by : Next → GetFlowsResponse → List GetFlowsResponse
given_by Response response = response ∷ []
given_by End response = []
given_by (Bad at) response = []
given_by NoMemory response = []

-- each response that was given takes the five bytes of a frame's head at least
abbrev pub IsFurther : Reading → Reading → List GetFlowsResponse → Type 0
IsFurther old new given = 5 * length given + length new.rest ≤ length old.rest

-- What came of a message with which the rest begins, and after which this comes: it is sound and
-- was read as the response, or it is bad.
abbrev pub ReadsMessage : List ℕ → List ℕ → Reading → Reading → GetFlowsResponse → Next → Type 0
ReadsMessage message after old new response Response = IsSound message
    × (response ≡ read_response message) × (new ≡ record old { rest = after })
ReadsMessage message after old new response End = ⊥
ReadsMessage message after old new response (Bad at) = IsBad message
    × (at ≡ length old.file - length old.rest) × (new ≡ old)
ReadsMessage message after old new response NoMemory = new ≡ old
