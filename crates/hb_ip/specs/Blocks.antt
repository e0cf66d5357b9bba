-- Which texts spell which blocks, and which addresses are in a block.
use Rattle.std.specs.Prelude.{◌≡◌, ℕ, ◌≢◌, ◌-◌, ◌/◌, ◌^◌, ◌<◌, ◌≤◌, List, ◌++◌, length, slice_index, codes, decimal}
use Rattle.hb_ip.specs.declared.addr.Addr.{Addr}
use Rattle.hb_ip.specs.declared.addr.Addr.TheVariants.{V4, V6}
use Rattle.hb_ip.specs.declared.cidr.Cidr.{Cidr}
use Rattle.hb_ip.specs.Addresses.{SpellsAddr}

-- how many bits an address has
abbrev pub width : Addr → ℕ
width (V4 number) = 32
width (V6 number) = 128

-- the text has neither a sign nor a leading zero
pub record IsPlain (text : List ℕ) : Type 0 where
  pub some : 0 < length text
  pub unsigned : slice_index text 0 ≢ 43
  pub alone : slice_index text 0 ≡ 48 → length text ≡ 1

-- the text spells the block: an address, `/`, and the length in decimal without leading zeros, at
-- most the address's width
pub record SpellsCidr (text : List ℕ) (block : Cidr) : Type 0 where
  pub front : List ℕ
  pub spelled : text ≡ front ++ codes "/" ++ decimal block.length
  pub addr : SpellsAddr front block.addr
  pub within : block.length ≤ width block.addr

-- the number that the first `length` bits of a number of `bits` bits make
abbrev pub first_bits : ℕ → ℕ → ℕ → ℕ
first_bits bits length number = number / 2 ^ (bits - length)

-- the address is in the block: it has the block's family and the block's first bits
abbrev pub IsIn : Addr → ℕ → Addr → Type 0
IsIn (V4 block) length (V4 number) = first_bits 32 length block ≡ first_bits 32 length number
IsIn (V6 block) length (V6 number) = first_bits 128 length block ≡ first_bits 128 length number
IsIn (V4 block) length (V6 number) = ⊥
IsIn (V6 block) length (V4 number) = ⊥

-- the block contains the address
abbrev pub Contains : Cidr → Addr → Type 0
Contains block addr = IsIn block.addr block.length addr
