-- A text spells one address at most.
use Rattle.std.proofs.Common.{◌≡◌, ℕ, List, Option, Some, None, ◌↔◌, sym, ap, subst, ◌∙◌}
use Rattle.std.specs.Net.Addr.{ipv4_bits, ipv6_bits}
use Rattle.std.specs.Net.Grammar.{IsIpText}
use Rattle.std.specs.declared.net.ip_addr.IpAddr.{IpAddr}
use Rattle.std.specs.declared.net.ip_addr.IpAddr.TheVariants as Ip
use Rattle.std.proofs.NetLemmas.Theorems.{IsIpv4Text_unique, IsIpv6Text_unique}
use Rattle.std.proofs.NetLemmas.Ipv6.{IsDotted-not_colon_hex}
use Rattle.hb_ip.specs.declared.addr.Addr.{Addr}
use Rattle.hb_ip.specs.declared.addr.Addr.TheVariants.{V4, V6}
use Rattle.hb_ip.specs.Addresses.{SpellsAddr}

pub one_address : (text : List ℕ) (a b : Addr) → SpellsAddr text a → SpellsAddr text b → a ≡ b
one_address text (V4 m) (V4 n) h k = ap V4 (h.2 ∙ ap ipv4_bits (IsIpv4Text_unique text h.0 k.0 h.1 k.1) ∙ sym k.2)
one_address text (V6 m) (V6 n) h k = ap V6 (h.2 ∙ ap ipv6_bits (IsIpv6Text_unique text h.0 k.0 h.1 k.1) ∙ sym k.2)
one_address text (V4 m) (V6 n) h k = absurd (IsDotted-not_colon_hex text _ _ h.1 k.1)
one_address text (V6 m) (V4 n) h k = absurd (IsDotted-not_colon_hex text _ _ k.1 h.1)

-- what is read as the address that the text spells is exact
pub exact_address : (text : List ℕ) (a : Addr) → SpellsAddr text a → (addr : Addr) → (◌≡◌ {A = Option Addr} (Some a) (Some addr)) ↔ SpellsAddr text addr
exact_address text a h addr = (λ e. let same : a ≡ addr = cc in subst (λ (x : Addr). SpellsAddr text x) same h, λ k. ap Some (one_address text a addr h k))

-- a text that std's grammar has no address for spells none
pub no_address : (text : List ℕ) → ((ip : IpAddr) → IsIpText text ip → ⊥) → (addr : Addr) → (◌≡◌ {A = Option Addr} None (Some addr)) ↔ SpellsAddr text addr
no_address text none (V4 n) = (λ e. absurd cc, λ h. absurd (none (Ip.V4 h.0) h.1))
no_address text none (V6 n) = (λ e. absurd cc, λ h. absurd (none (Ip.V6 h.0) h.1))
