-- No address has a slash.
use Rattle.std.proofs.Common.{◌≢◌, ℕ, zero, suc, ◌^◌, ◌<◌, List, [], ◌∷◌, ◌++◌, get_or, All, true, false, Bool, sym, subst, arith, inl, inr}
use Rattle.std.proofs.lemmas.List.Elements.{All-nil, All-cons, All-append}
use Rattle.std.specs.Char.{digit_value}
use Rattle.std.specs.Str.Parse.{AllDigits}
use Rattle.std.specs.Net.Grammar.{IsDotted, IsColonHex, IsGroupsAfter}
use Rattle.std.proofs.NetLemmas.Alphabet.{IsDigitOrDot, All-ipv4_text}
use Rattle.hb_ip.specs.declared.addr.Addr.{Addr}
use Rattle.hb_ip.specs.declared.addr.Addr.TheVariants.{V4, V6}
use Rattle.hb_ip.specs.Addresses.{SpellsAddr}

-- no byte of the text is a slash
abbrev pub HasNoSlash : List ℕ → Type 0
HasNoSlash text = All (λ b. b ≢ 47) text

joins : (a b : List ℕ) → HasNoSlash a → HasNoSlash b → HasNoSlash (a ++ b)
joins a b h k = All-append (λ b. b ≢ 47) a b h k

digits : (text : List ℕ) → AllDigits 16 text → HasNoSlash text
digits [] h = All-nil (λ b. b ≢ 47)
digits (b ∷ text) h = All-cons (λ b. b ≢ 47) b text (λ e. let low = subst (λ (x : ℕ). digit_value x < 16) e h.0 in omega arith) (digits text h.1)

octet_at : (a b c d : ℕ) → (a < 256) × (b < 256) × (c < 256) × (d < 256) → (k : ℕ) → get_or (a ∷ b ∷ c ∷ d ∷ []) k 0 < 2 ^ 8
octet_at a b c d fit zero = fit.0
octet_at a b c d fit (suc zero) = fit.1
octet_at a b c d fit (suc (suc zero)) = fit.2
octet_at a b c d fit (suc (suc (suc zero))) = fit.3
octet_at a b c d fit (suc (suc (suc (suc k)))) = omega arith

not_47 : (b : ℕ) → IsDigitOrDot b → b ≢ 47
not_47 b h e = elim h [ inl range ↦ omega arith | inr dot ↦ omega arith ]

dotted : (text octets : List ℕ) → IsDotted text octets → HasNoSlash text
dotted text octets h =
    let fit = h.fit in
    let octet : (k : ℕ) → get_or (h.a ∷ h.b ∷ h.c ∷ h.d ∷ []) k 0 < 2 ^ 8 = octet_at h.a h.b h.c h.d fit in
    let each = All-ipv4_text (h.a ∷ h.b ∷ h.c ∷ h.d ∷ []) octet in
    subst HasNoSlash (sym h.spelled) (λ k d below e. not_47 _ (each k d below) e)

groups : (v4 : Bool) (lead text segments : List ℕ) → HasNoSlash lead → IsGroupsAfter v4 lead text segments → HasNoSlash text
groups v4 lead text [] none h = subst HasNoSlash (sym h) (All-nil (λ b. b ≢ 47))
groups v4 lead text (s ∷ segments) none h =
    let colon : HasNoSlash (58 ∷ []) = All-cons (λ b. b ≢ 47) 58 [] (λ e. omega arith) (All-nil (λ b. b ≢ 47)) in
    elim h [
      | inl more ↦ subst HasNoSlash (sym more.2) (joins (lead ++ more.0) more.1 (joins lead more.0 none (digits more.0 more.3.0.0.1)) (groups v4 (58 ∷ []) more.1 segments colon more.4))
      | inr last ↦ subst HasNoSlash (sym last.3) (joins lead last.0 none (dotted last.0 last.1 last.4))
    ]

colon_hex : (text segments : List ℕ) → IsColonHex text segments → HasNoSlash text
colon_hex text segments h =
    let nil : HasNoSlash [] = All-nil (λ b. b ≢ 47) in
    let colons : HasNoSlash (58 ∷ 58 ∷ []) = All-cons (λ b. b ≢ 47) 58 (58 ∷ []) (λ e. omega arith) (All-cons (λ b. b ≢ 47) 58 [] (λ e. omega arith) nil) in
    elim h [
      | inl full ↦ groups true [] text segments nil full.0
      | inr short ↦ subst HasNoSlash (sym short.spelled) (joins (short.head_text ++ 58 ∷ 58 ∷ []) short.tail_text
          (joins short.head_text (58 ∷ 58 ∷ []) (groups false [] short.head_text short.head nil short.head_groups) colons)
          (groups true [] short.tail_text short.tail nil short.tail_groups))
    ]

pub no_slash : (text : List ℕ) (addr : Addr) → SpellsAddr text addr → HasNoSlash text
no_slash text (V4 n) h = dotted text _ h.1
no_slash text (V6 n) h = colon_hex text _ h.1
