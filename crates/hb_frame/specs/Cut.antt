-- How bytes are cut into frames.
use Rattle.std.specs.Prelude.{◌≡◌, ◌⊎◌, ℕ, ◌<◌, ◌≤◌, ◌^◌, List, ◌∷◌, ◌++◌, length}
use Rattle.std.specs.Int.{w32, to_be_bytes}
use Rattle.std.specs.List.{flat_map, AllByRecursion}
use Rattle.hb_frame.specs.Frames.{Frame, IsFrame, frame_bytes, greatest_kind, longest_body}

-- this whole frame begins the bytes, and this is what comes after it
pub record StartsFrame (bytes : List ℕ) (f : Frame) (after : List ℕ) : Type 0 where
  pub fits : IsFrame f
  pub whole : bytes ≡ frame_bytes f ++ after

-- no whole frame begins them
abbrev pub StartsNoFrame : List ℕ → Type 0
StartsNoFrame bytes = (f : Frame) (after : List ℕ) → StartsFrame bytes f after → ⊥

-- these whole frames begin them, one after another, and this is what comes after them
pub record StartsFrames (bytes : List ℕ) (frames : List Frame) (rest : List ℕ) : Type 0 where
  pub fit : AllByRecursion IsFrame frames
  pub whole : bytes ≡ flat_map frame_bytes frames ++ rest

-- the cut of bytes: the list of whole frames that begins them, as long as it can be, and a rest
pub record IsCut (bytes : List ℕ) (frames : List Frame) (rest : List ℕ) : Type 0 where
  pub starts : StartsFrames bytes frames rest
  pub longest : StartsNoFrame rest

-- ---- why no whole frame begins bytes

-- the bytes are the front of a frame, and more of it has to come; the empty list is the front of
-- each
pub record IsCutShort (bytes : List ℕ) : Type 0 where
  pub of : Frame
  pub fits : IsFrame of
  pub more : List ℕ
  pub some : 0 < length more
  pub front : frame_bytes of ≡ bytes ++ more

-- they begin with a known kind, and end before the length behind it does
pub record IsShortHead (bytes : List ℕ) : Type 0 where
  pub kind : ℕ
  pub after : List ℕ
  pub head : bytes ≡ kind ∷ after
  pub known : kind ≤ greatest_kind
  pub short : length after < 4

-- more bytes have to come before it is told which frame they begin
abbrev pub IsUnfinished : List ℕ → Type 0
IsUnfinished bytes = IsCutShort bytes ⊎ IsShortHead bytes

-- they begin with a kind that is not known
pub record HasBadKind (bytes : List ℕ) (kind : ℕ) : Type 0 where
  pub after : List ℕ
  pub head : bytes ≡ kind ∷ after
  pub unknown : greatest_kind < kind

-- they begin with a known kind, and a length that is too long
pub record HasLongBody (bytes : List ℕ) (size : ℕ) : Type 0 where
  pub kind : ℕ
  pub after : List ℕ
  pub head : bytes ≡ kind ∷ to_be_bytes w32 size ++ after
  pub known : kind ≤ greatest_kind
  pub long : longest_body < size
  pub fits : size < 2 ^ 32

-- there is a cause why no whole frame begins them
abbrev pub IsStopped : List ℕ → Type 0
IsStopped bytes = IsUnfinished bytes ⊎ ((kind : ℕ) × HasBadKind bytes kind)
    ⊎ ((size : ℕ) × HasLongBody bytes size)
