-- Which texts spell which addresses.
use Rattle.std.specs.Prelude.{◌≡◌, ℕ, List}
use Rattle.std.specs.declared.net.ipv4_addr.Ipv4Addr.{Ipv4Addr}
use Rattle.std.specs.declared.net.ipv6_addr.Ipv6Addr.{Ipv6Addr}
use Rattle.std.specs.Net.Addr.{ipv4_bits, ipv6_bits}
use Rattle.std.specs.Net.Grammar.{IsIpv4Text, IsIpv6Text}
use Rattle.hb_ip.specs.declared.addr.Addr.{Addr}
use Rattle.hb_ip.specs.declared.addr.Addr.TheVariants.{V4, V6}

-- The text writes this address: by std's grammar it is the text of some octets (IPv4) or groups
-- (IPv6), and the number is their big-endian value.
abbrev pub SpellsAddr : List ℕ → Addr → Type 0
SpellsAddr text (V4 number) = (ip : Ipv4Addr) × IsIpv4Text text ip × (number ≡ ipv4_bits ip)
SpellsAddr text (V6 number) = (ip : Ipv6Addr) × IsIpv6Text text ip × (number ≡ ipv6_bits ip)
