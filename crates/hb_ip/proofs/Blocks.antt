-- The parts of a block's text.
use Rattle.std.proofs.Common.{◌≡◌, ℕ, ◌<◌, ◌≤◌, List, [], ◌∷◌, ◌++◌, length, Option, Some, None, MatchOption, ◌↔◌, decimal, Bor, sym, ap, subst, ◌∙◌, arith, lit≤, append_assoc}
use Rattle.std.proofs.lemmas.Str.Pattern.{IsSplitOnceResult, split_after}
use Rattle.hb_ip.specs.declared.addr.Addr.{Addr}
use Rattle.hb_ip.specs.declared.addr.Addr.TheVariants.{V4, V6}
use Rattle.hb_ip.specs.declared.cidr.Cidr.{Cidr}
use Rattle.hb_ip.specs.Addresses.{SpellsAddr}
use Rattle.hb_ip.specs.Blocks.{SpellsCidr, width}
use Rattle.hb_ip.proofs.Slashless.{no_slash}

-- where the text was cut, the parts of each block that it spells
pub record HasParts (block : Cidr) (cut : Option (Bor (List ℕ) × Bor (List ℕ))) : Type 0 where
  pub parts : MatchOption cut ⊥ (λ x. SpellsAddr x.0.now block.addr × (x.1.now ≡ decimal block.length))
  pub small : block.length < 256

widest : (addr : Addr) → width addr ≤ 128
widest (V4 n) = omega arith
widest (V6 n) = omega arith

at : (block : Cidr) (front : List ℕ) (cut : Option (Bor (List ℕ) × Bor (List ℕ))) → MatchOption cut ⊥ (λ x. (x.0.now ≡ front) × (x.1.now ≡ decimal block.length)) → SpellsAddr front block.addr → MatchOption cut ⊥ (λ x. SpellsAddr x.0.now block.addr × (x.1.now ≡ decimal block.length))
at block front None h a = h
at block front (Some x) h a = (subst (λ (t : List ℕ). SpellsAddr t block.addr) (sym h.0) a, h.1)

pub parts_of : (text : List ℕ) (block : Cidr) (cut : Option (Bor (List ℕ) × Bor (List ℕ))) → IsSplitOnceResult 47 text cut → SpellsCidr text block → HasParts block cut
parts_of text block cut h k =
    let none = no_slash k.front block.addr k.addr in
    let most : width block.addr ≤ 128 = widest block.addr in
    let within = k.within in
    record {
      parts = at block k.front cut (split_after 47 text k.front (decimal block.length) cut h (lit≤ tt) (k.spelled ∙ append_assoc k.front (47 ∷ []) (decimal block.length)) (λ i below. none i 0 below)) k.addr;
      small = omega arith;
    }

-- where the text spells no block, none is right
pub no_block : (text : List ℕ) (r : Option Cidr) → r ≡ None → ((block : Cidr) → SpellsCidr text block → ⊥) → (block : Cidr) → (r ≡ Some block) ↔ SpellsCidr text block
no_block text r none spells block = (λ e. absurd cc, λ k. absurd (spells block k))

-- where the text was cut in two, the block of its two parts is right
pub one_block : (text : List ℕ) (front back : Bor (List ℕ)) (block : Cidr) → text ≡ front.now ++ 47 ∷ back.now → SpellsAddr front.now block.addr → back.now ≡ decimal block.length → block.length ≤ width block.addr
    → ((other : Cidr) → SpellsCidr text other → (other.addr ≡ block.addr) × (other.length ≡ block.length)) → (other : Cidr) → (◌≡◌ {A = Option Cidr} (Some block) (Some other)) ↔ SpellsCidr text other
one_block text front back block split addr length within one other = (
  λ e. let same : block ≡ other = cc in
      subst (λ (x : Cidr). SpellsCidr text x) same (record {
        front = front.now;
        spelled = split ∙ ap (λ (t : List ℕ). front.now ++ 47 ∷ t) length ∙ sym (append_assoc front.now (47 ∷ []) (decimal block.length));
        addr = addr;
        within = within;
      }),
  λ k. let h = one other k in ap Some (λ i. record { addr = sym h.0 i; length = sym h.1 i }),
)
