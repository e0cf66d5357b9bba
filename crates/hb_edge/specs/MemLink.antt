-- A link in memory: what it is, and what a read or a write answers and leaves.
use Rattle.std.specs.Prelude.{◌≡◌, ℕ, ◌≤◌, ◌++◌, Bool, true, false, List, [], ◌∷◌, length, take, drop, min, if◌then◌else◌}
use Rattle.hb_edge.specs.declared.link.Moved.{Moved}
use Rattle.hb_edge.specs.declared.link.Moved.TheVariants.{Took, NotYet, End, Failed}
use Rattle.hb_edge.specs.Link.{Call, Read, Write, Shown, moved_of}
use Rattle.hb_edge.specs.Plan.{one_more, is_planned}

-- the bytes written to it, those that wait to be read, whether its far side has ended, whether it
-- is held, the most that one call moves, the numbers of the calls to fail, how many calls there
-- were, how many failed, how many reads and writes had to wait, in how many memory was refused,
-- and its key
pub record LinkState : Type 0 where
  pub taken : List ℕ
  pub unread : List ℕ
  pub ended : Bool
  pub held : Bool
  pub most : ℕ
  pub fails : List ℕ
  pub calls : ℕ
  pub faults : ℕ
  pub read_waits : ℕ
  pub write_waits : ℕ
  pub refusals : ℕ
  pub key : ℕ

-- what it shows of its calls
abbrev pub shown : LinkState → Shown
shown s = record {
  faults = s.faults;
  read_waits = s.read_waits;
  write_waits = s.write_waits;
  refusals = s.refusals;
  key = s.key;
}

-- a read of these bytes: as many as wait and are allowed, and with none the end, where it is there
abbrev pub front_answer : List ℕ → Bool → ℕ → Moved
front_answer [] ended most = if ended then End else NotYet
front_answer (b ∷ bytes) ended most = Took (min (length (b ∷ bytes)) most)

-- a read of these bytes gave this answer, and left the buffer so
abbrev pub ReadsFront : List ℕ → Bool → Moved → List ℕ → Type 0
ReadsFront unread ended (Took n) buffer = (n ≤ length unread) × (take n buffer ≡ take n unread)
ReadsFront unread ended NotYet buffer = (unread ≡ []) × (ended ≡ false)
ReadsFront unread ended End buffer = (unread ≡ []) × (ended ≡ true)
ReadsFront unread ended Failed buffer = ⊥

-- a read fails where the plan says so, else gives as much as it may
abbrev pub read_answer : LinkState → ℕ → Moved
read_answer s room = if is_planned s.fails (one_more s.calls) then Failed
    else front_answer s.unread s.ended (min room s.most)

-- a write fails where the plan says so, waits where the link is held, else takes as much as it may
abbrev pub write_answer : LinkState → List ℕ → Moved
write_answer s piece = if is_planned s.fails (one_more s.calls) then Failed
    else if s.held then NotYet else Took (min (length piece) s.most)

-- a count of faults after this answer
abbrev pub faults_after : Moved → ℕ → ℕ
faults_after (Took n) count = count
faults_after NotYet count = count
faults_after End count = count
faults_after Failed count = one_more count

-- a count of the calls that had to wait, after this answer
abbrev pub waits_after : Moved → ℕ → ℕ
waits_after (Took n) count = count
waits_after NotYet count = one_more count
waits_after End count = count
waits_after Failed count = count

-- the bytes that still wait after a read
abbrev pub left : List ℕ → Moved → List ℕ
left unread (Took n) = drop n unread
left unread NotYet = unread
left unread End = unread
left unread Failed = unread

-- the link after a read
abbrev pub read_after : LinkState → ℕ → LinkState
read_after s room = record s {
  unread = left s.unread (read_answer s room);
  calls = one_more s.calls;
  faults = faults_after (read_answer s room) s.faults;
  read_waits = waits_after (read_answer s room) s.read_waits;
}

-- the link after a write for which memory was not refused
abbrev pub write_after : LinkState → List ℕ → LinkState
write_after s piece = record s {
  taken = s.taken ++ moved_of piece (write_answer s piece);
  calls = one_more s.calls;
  faults = faults_after (write_answer s piece) s.faults;
  write_waits = waits_after (write_answer s piece) s.write_waits;
}

-- what a call answers, if no memory is refused
abbrev pub answer : LinkState → Call → Moved
answer s (Read room) = read_answer s room
answer s (Write piece) = write_answer s piece

-- the link after that call
abbrev pub after : LinkState → Call → LinkState
after s (Read room) = read_after s room
after s (Write piece) = write_after s piece
