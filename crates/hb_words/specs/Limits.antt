-- The limits of a job, and what is taken for an option that is not given.
use Rattle.std.specs.Prelude.{◌≡◌, ℕ, ◌+◌, ◌*◌, ◌/◌, ◌^◌, ◌≤◌, List, length, codes, false}
use Rattle.hb_api.specs.Limits.{longest_name}
use Rattle.hb_look.specs.Limits.{IsCapacity, IsSlot}
use Rattle.hb_words.specs.declared.job.Observe.{Observe}

-- the capacity of a ring
abbrev pub default_capacity : ℕ
default_capacity = 4095

-- the bytes of a slot
abbrev pub default_slot : ℕ
default_slot = 8192

-- the name of a node
abbrev pub default_node : List ℕ
default_node = codes "localhost"

-- the size of a ring, in units of 8 bytes: a slot more than its capacity, each of a unit more
-- than its bytes
abbrev pub ring_size : ℕ → ℕ → ℕ
ring_size capacity slot = (capacity + 1) * (slot / 8 + 1)

-- the size of a ring, at most
abbrev pub largest_ring : ℕ
largest_ring = 2 ^ 27

-- The ring can be opened and is not too large, the name of the node is not too long, and the
-- reply is that of the window alone.
pub record IsWithin (o : Observe) : Type 0 where
  pub capacity : IsCapacity o.capacity
  pub slot : IsSlot o.slot
  pub ring : ring_size o.capacity o.slot ≤ largest_ring
  pub node : length o.node ≤ longest_name
  pub alone : o.request.follow ≡ false
