-- Keys: what is read at the front is what spells a key.
use Rattle.std.proofs.Common.{◌≡◌, ℕ, ◌<◌, true, false, ◌==◌, List, [], ◌∷◌, ◌++◌, length, Option, Some, None, refl, sym, ap, subst, ◌∙◌, arith, inl, inr, append_assoc, eqb-true, codes}
use Rattle.std.proofs.lemmas.Bool.{cases_Bool}
use Rattle.std.proofs.lemmas.Bool.Decides.{nat_tests}
use Rattle.std.proofs.NetLemmas.Options.{cond_none, map_some}
use Rattle.hb_labels.specs.declared.key.Key.{Key}
use Rattle.hb_labels.specs.Texts.{is_name_byte, IsName, AreSpaces}
use Rattle.hb_labels.specs.Selectors.{IsWord, IsKey}
use Rattle.hb_labels.specs.Meaning.{is_colon}
use Rattle.hb_labels.specs.Reading.{skip, name_front, name_rest, plain_key, source_key, key_with, key_at}
use Rattle.hb_labels.proofs.Spans.{Stops, front_each, back_stops, front_is, back_is}
use Rattle.hb_labels.proofs.Values.{name_no_space, skip_gap, skip_stop, name_split}

-- neither a name nor a source goes on into the text
abbrev pub Ends : List ℕ → Type 0
Ends text = Stops is_name_byte text × Stops is_colon text

word_starts : (name : List ℕ) → IsWord name → (b : ℕ) × (rest : List ℕ) × (name ≡ b ∷ rest) × (is_name_byte b ≡ true)
word_starts [] h = absurd (omega (arith, h.1))
word_starts (b ∷ name) h = (b, name, refl, h.0.0)

-- a key begins with a byte of a name
pub key_starts : (key : List ℕ) (source : Option (List ℕ)) (name : List ℕ) → IsKey key source name → (b : ℕ) × (rest : List ℕ) × (key ≡ b ∷ rest) × (is_name_byte b ≡ true)
key_starts key None name h = let (b, rest, is, test) = word_starts name h.0 in (b, rest, h.1 ∙ is, test)
key_starts key (Some source) name h = let (b, rest, is, test) = word_starts source h.0 in (b, rest ++ 58 ∷ [] ++ name, h.2 ∙ ap (λ (t : List ℕ). t ++ 58 ∷ [] ++ name) is, test)

word_some : (name : List ℕ) → 0 < length name → (length name == 0) ≡ false
word_some name h = grind (arith, nat_tests)

plain_read : (name rest : List ℕ) → IsWord name → Stops is_name_byte rest → plain_key (name ++ rest) ≡ Some (record { source = None; name = name })
unfolding plain_key
plain_read name rest h stop = rw (front_is is_name_byte name rest h.0 stop, word_some name h.1) refl

source_read : (source name more rest : List ℕ) → IsWord source → IsWord name → Stops is_name_byte more → Stops is_name_byte rest
    → source_key (source ++ more) (name ++ rest) ≡ Some (record { source = Some source; name = name })
unfolding source_key
source_read source name more rest h k stop end = rw (front_is is_name_byte source more h.0 stop, word_some source h.1, plain_read name rest k end) refl

key_plain : (text rest : List ℕ) (key : Key) → Stops is_colon rest → plain_key text ≡ Some key → key_with text rest ≡ Some (key, skip rest)
unfolding key_with
key_plain text [] key stop h = rw h refl
key_plain text (b ∷ rest) key stop h = rw (stop, h) refl

key_source : (text rest : List ℕ) (key : Key) → source_key text rest ≡ Some key → key_with text (58 ∷ rest) ≡ Some (key, skip (name_rest rest))
unfolding key_with
key_source text rest key h = rw h refl

key_read : (key : List ℕ) (source : Option (List ℕ)) (name rest : List ℕ) → IsKey key source name → Ends rest
    → key_with (key ++ rest) (name_rest (key ++ rest)) ≡ Some (record { source = source; name = name }, skip rest)
key_read key None name rest h end =
    let text = ap (λ (t : List ℕ). t ++ rest) h.1 in
    let behind = ap name_rest text ∙ back_is is_name_byte name rest h.0.0 end.0 in
    ap (λ (t : List ℕ). key_with t (name_rest (key ++ rest))) text ∙ ap (key_with (name ++ rest)) behind
    ∙ key_plain (name ++ rest) rest (record { source = None; name = name }) end.1 (plain_read name rest h.0 end.0)
key_read key (Some source) name rest h end =
    let tail = 58 ∷ (name ++ rest) in
    let text : key ++ rest ≡ source ++ tail = ap (λ (t : List ℕ). t ++ rest) h.2 ∙ ap (λ (t : List ℕ). t ++ rest) (append_assoc source (58 ∷ []) name) ∙ append_assoc source (58 ∷ name) rest in
    let behind = ap name_rest text ∙ back_is is_name_byte source tail h.0.0 refl in
    let past : skip (name_rest (name ++ rest)) ≡ skip rest = ap skip (back_is is_name_byte name rest h.1.0 end.0) in
    let found = source_read source name tail rest h.0 h.1 refl end.0 in
    ap (λ (t : List ℕ). key_with t (name_rest (key ++ rest))) text ∙ ap (key_with (source ++ tail)) behind
    ∙ key_source (source ++ tail) (name ++ rest) (record { source = Some source; name = name }) found
    ∙ ap (λ (t : List ℕ). Some (record { source = Some source; name = name }, t)) past

-- ---- what is read as a key spells it

pub record KeyFront (text : List ℕ) (key : Key) (left : List ℕ) : Type 0 where
  pub spelled : List ℕ
  pub rest : List ℕ
  pub split : text ≡ spelled ++ rest
  pub is : IsKey spelled key.source key.name
  pub stops : Stops is_name_byte rest
  pub left_is : left ≡ skip rest

some_word : (name : List ℕ) → (length name == 0) ≡ false → IsName name → IsWord name
some_word name h k = (k, grind (arith, nat_tests))

plain_is : (text : List ℕ) (key : Key) → plain_key text ≡ Some key → IsWord (name_front text) × (◌≡◌ {A = Key} (record { source = None; name = name_front text }) key)
unfolding plain_key
plain_is text key h =
    let (test, is) = cond_none _ _ _ h in
    (some_word (name_front text) test (front_each is_name_byte text), cc)

plain_sound : (text : List ℕ) (key : Key) → plain_key text ≡ Some key → IsKey (name_front text) key.source key.name
plain_sound text key h = let (word, is) = plain_is text key h in subst (λ (k : Key). IsKey (name_front text) k.source k.name) is (word, refl)

source_sound : (text more : List ℕ) (key : Key) → source_key text more ≡ Some key → IsKey (name_front text ++ codes ":" ++ name_front more) key.source key.name
unfolding source_key
source_sound text more key h =
    let (test, mapped) = cond_none _ _ _ h in
    let source = some_word (name_front text) test (front_each is_name_byte text) in
    map_some _ (plain_key more) key mapped λ plain read is.
    let (word, plain_key_is) = plain_is more plain read in
    let name : name_front more ≡ plain.name = ap (λ (k : Key). k.name) plain_key_is in
    let own : ◌≡◌ {A = Key} (record { source = Some (name_front text); name = name_front more }) key = ap (λ (n : List ℕ). record { source = Some (name_front text); name = n }) name ∙ is in
    subst (λ (k : Key). IsKey (name_front text ++ codes ":" ++ name_front more) k.source k.name) own (source, word, refl)

-- the place behind a key is the rest of its text
key_with_sound : (text rest : List ℕ) (key : Key) (left : List ℕ) → text ≡ name_front text ++ rest → Stops is_name_byte rest → key_with text rest ≡ Some (key, left) → KeyFront text key left
unfolding key_with
key_with_sound text [] key left split stop h =
    map_some _ (plain_key text) (key, left) h λ plain read is.
    let own : plain_key text ≡ Some key = read ∙ ap (λ (r : Key × List ℕ). Some r.0) is in
    record { spelled = name_front text; rest = []; split = split; is = plain_sound text key own; stops = tt; left_is = ap (λ (r : Key × List ℕ). r.1) (sym is) }
key_with_sound text (b ∷ rest) key left split stop h = elim (cases_Bool (b == 58)) [
  | inl colon ↦
      map_some _ (source_key text rest) (key, left) (rw colon at h) λ found read is.
      let own : source_key text rest ≡ Some key = read ∙ ap (λ (r : Key × List ℕ). Some r.0) is in
      let byte : b ≡ 58 = eqb-true b 58 colon in
      let more = ap (λ (t : List ℕ). name_front text ++ 58 ∷ t) (name_split rest) in
      let grouped : name_front text ++ 58 ∷ (name_front rest ++ name_rest rest) ≡ (name_front text ++ codes ":" ++ name_front rest) ++ name_rest rest = simp append_assoc in
      record {
        spelled = name_front text ++ codes ":" ++ name_front rest;
        rest = name_rest rest;
        split = split ∙ ap (λ (x : ℕ). name_front text ++ x ∷ rest) byte ∙ more ∙ grouped;
        is = source_sound text rest key own;
        stops = back_stops is_name_byte rest;
        left_is = ap (λ (r : Key × List ℕ). r.1) (sym is);
      }
  | inr other ↦
      map_some _ (plain_key text) (key, left) (rw other at h) λ plain read is.
      let own : plain_key text ≡ Some key = read ∙ ap (λ (r : Key × List ℕ). Some r.0) is in
      record { spelled = name_front text; rest = b ∷ rest; split = split; is = plain_sound text key own; stops = stop; left_is = ap (λ (r : Key × List ℕ). r.1) (sym is) }
]

pub key_sound : (text : List ℕ) (key : Key) (left : List ℕ) → key_at text ≡ Some (key, left) → KeyFront (skip text) key left
key_sound text key left h = key_with_sound (skip text) (name_rest (skip text)) key left (name_split (skip text)) (back_stops is_name_byte (skip text)) h

-- spaces, a key and what ends it are read as the key
pub key_complete : (gap key : List ℕ) (source : Option (List ℕ)) (name rest : List ℕ) → AreSpaces gap → IsKey key source name → Ends rest
    → (skip (gap ++ (key ++ rest)) ≡ key ++ rest) × (key_at (gap ++ (key ++ rest)) ≡ Some (record { source = source; name = name }, skip rest))
key_complete gap key source name rest spaces h end =
    let (b, more, is, test) = key_starts key source name h in
    let begins = ap (λ (t : List ℕ). t ++ rest) is in
    let stay : skip (key ++ rest) ≡ key ++ rest = ap skip begins ∙ skip_stop (b ∷ more ++ rest) (name_no_space b test) ∙ sym begins in
    let there = skip_gap gap (key ++ rest) spaces ∙ stay in
    (there, ap (λ (t : List ℕ). key_with t (name_rest t)) there ∙ key_read key source name rest h end)
