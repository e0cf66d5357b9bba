-- Frames.
use Rattle.std.specs.Prelude.{ℕ, ◌+◌, ◌≤◌, List, ◌∷◌, ◌++◌, length, Option, Some, None, ◌==◌, if◌then◌else◌}
use Rattle.std.specs.Int.{w32, to_be_bytes}
use Rattle.std.specs.List.{filter_map}

-- the greatest kind of a frame
abbrev pub greatest_kind : ℕ
greatest_kind = 3

-- the greatest length of a frame's body, in bytes
abbrev pub longest_body : ℕ
longest_body = 65536

-- a frame's bytes: its kind, the length of its body in four bytes, the highest first, and its body
abbrev pub frame : ℕ → List ℕ → List ℕ
frame kind body = kind ∷ to_be_bytes w32 (length body) ++ body

-- the most bytes of a frame
abbrev pub longest_frame : ℕ
longest_frame = 5 + longest_body

-- a frame, apart from where its bytes stand
pub record Frame : Type 0 where
  pub kind : ℕ
  pub body : List ℕ

-- its bytes
abbrev pub frame_bytes : Frame → List ℕ
frame_bytes f = frame f.kind f.body

-- it has a known kind, and a body that is not too long
pub record IsFrame (f : Frame) : Type 0 where
  pub known : f.kind ≤ greatest_kind
  pub short : length f.body ≤ longest_body

-- a frame that is a message
abbrev pub message_frame : List ℕ → Frame
message_frame message = record { kind = 0; body = message }

-- the message that a frame of kind 0 is
abbrev pub message_in : Frame → Option (List ℕ)
message_in f = if f.kind == 0 then Some f.body else None

-- the messages among frames, in order
abbrev pub messages : List Frame → List (List ℕ)
messages frames = filter_map message_in frames
