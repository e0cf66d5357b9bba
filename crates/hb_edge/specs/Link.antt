-- What a link answers to a read or a write, and what it holds and shows afterwards.
use Rattle.std.specs.Prelude.{◌≡◌, ◌⊎◌, ℕ, ◌<◌, ◌≤◌, ◌++◌, Bool, true, false, List, [], take, Option, Some}
use Rattle.std.specs.List.{fold}
use Rattle.std.specs.Option.{ForSome}
use Rattle.hb_edge.specs.Causes.{Rose}
use Rattle.hb_edge.specs.declared.link.Moved.{Moved}
use Rattle.hb_edge.specs.declared.link.Moved.TheVariants.{Took, NotYet, End, Failed}

-- a call on a link: a read into a buffer of this length, or a write of this piece
pub data Call : Type 0 where
  Read : (room : ℕ) → Call
  Write : (piece : List ℕ) → Call

-- the bytes that were written to it so far, the bytes that wait to be read, and whether its far
-- side has ended
pub record Held : Type 0 where
  pub taken : List ℕ
  pub unread : List ℕ
  pub ended : Bool

-- What a link shows of its calls: how many failed, how many reads and writes had to wait, and in
-- how many memory was refused, each a count that stops at 2 ^ 64 - 1; and the number that it is
-- told apart by.
pub record Shown : Type 0 where
  pub faults : ℕ
  pub read_waits : ℕ
  pub write_waits : ℕ
  pub refusals : ℕ
  pub key : ℕ

-- no count falls, and the link is the same
pub record IsShownLater (old new : Shown) : Type 0 where
  pub faults : old.faults ≤ new.faults
  pub read_waits : old.read_waits ≤ new.read_waits
  pub write_waits : old.write_waits ≤ new.write_waits
  pub refusals : old.refusals ≤ new.refusals
  pub key : new.key ≡ old.key

-- the bytes that a read gave are at least one, and fit a buffer of this length
abbrev pub ReadWithin : Moved → ℕ → Type 0
ReadWithin (Took n) room = (0 < n) × (n ≤ room)
ReadWithin NotYet room = Unit {0}
ReadWithin End room = Unit {0}
ReadWithin Failed room = Unit {0}

-- the bytes that a write took are at least one, and no more than the piece has; a write never
-- answers that the end is there
abbrev pub WrittenWithin : Moved → ℕ → Type 0
WrittenWithin (Took n) size = (0 < n) × (n ≤ size)
WrittenWithin NotYet size = Unit {0}
WrittenWithin End size = ⊥
WrittenWithin Failed size = Unit {0}

-- the bytes of a buffer or of a piece that a call moved: as many as it answered, from the front
abbrev pub moved_of : List ℕ → Moved → List ℕ
moved_of bytes (Took n) = take n bytes
moved_of bytes NotYet = []
moved_of bytes End = []
moved_of bytes Failed = []

-- a read that gave no bytes of a link that held this: it holds none, and has not ended; or it has
abbrev pub IsDry : Held → Moved → Type 0
IsDry h (Took n) = Unit {0}
IsDry h NotYet = (h.unread ≡ []) × (h.ended ≡ false)
IsDry h End = (h.unread ≡ []) × (h.ended ≡ true)
IsDry h Failed = Unit {0}

-- some calls, one after another, make this of a link
abbrev pub IsLeft : {A : Type 0} → (A → Call → A) → A → A → Type 0
IsLeft after old new = (calls : List Call) × (new ≡ fold after old calls)

-- What calls, however many, leave of a link that gave these bytes and took those. One that tells
-- held the bytes that it gave in front of those that still wait, holds the bytes that it took
-- behind those that it held, and is as calls leave it, but where memory was refused.
pub record HasMoved {A Fixed : Type 0} (shown : A → Shown) (held : A → Option Held)
    (after : A → Call → A) (fixed : A → Fixed) (old new : A) (given taken : List ℕ) : Type 0 where
  pub later : IsShownLater (shown old) (shown new)
  pub holds : ForSome (held old) (λ h. (unread : List ℕ) × (h.unread ≡ given ++ unread)
      × (held new ≡ Some (record h { taken = h.taken ++ taken; unread = unread })))
  pub left : ForSome (held old) (λ _. IsLeft after old new
      ⊎ Rose (shown old).refusals (shown new).refusals)
  pub stays : fixed new ≡ fixed old
