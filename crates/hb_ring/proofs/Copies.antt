-- Copying a record word by word, into its slot and out of it.
use Rattle.std.proofs.Common.{◌≡◌, ℕ, ◌+◌, ◌-◌, ◌*◌, ◌<◌, ◌≤◌, List, [], ◌∷◌, ◌++◌, length, take, drop, min, get_or, inl, inr, refl, sym, ap, ◌∙◌, subst, arith, append_assoc}
use Rattle.std.specs.Int.{w64, to_le_bytes, from_le_bytes}
use Rattle.std.proofs.Math.Seq.{take-add, take-append-add}
use Rattle.std.proofs.lemmas.List.{append-nil, length-append, length-take, take_all, get_or-take, ext_get_or}
use Rattle.std.proofs.lemmas.Bool.{cases_lt}
use Rattle.std.proofs.lemmas.Nat.{le_bytes_8}
use Rattle.hb_ring_rule.specs.Layout.{longest_of}
use Rattle.hb_ring_rule.specs.Records.{words_for, record_of, bytes_of}
use Rattle.hb_ring_rule.specs.Steps.{stores, reads}
use Rattle.hb_ring_rule.specs.Views.{Busy, WriterView, ReaderView, Seated, Laid}
use Rattle.hb_ring.specs.Passes.{HasStored, HasRead}

pub length_bytes_of : (words : List ℕ) → length (bytes_of words) ≡ 8 * length words
length_bytes_of [] = refl
length_bytes_of (word ∷ words) =
    let rest = length_bytes_of words in
    let both : length (to_le_bytes w64 word ++ bytes_of words) ≡ 8 + length (bytes_of words) = length-append (to_le_bytes w64 word) (bytes_of words) in
    omega (arith, rest, both)

pub bytes_of_push : (words : List ℕ) (word : ℕ) → bytes_of (words ++ word ∷ []) ≡ bytes_of words ++ to_le_bytes w64 word
bytes_of_push [] word = append-nil (to_le_bytes w64 word)
bytes_of_push (w ∷ words) word =
    ap (λ (bytes : List ℕ). to_le_bytes w64 w ++ bytes) (bytes_of_push words word) ∙ sym (append_assoc (to_le_bytes w64 w) (bytes_of words) (to_le_bytes w64 word))

-- so many bytes of the words, of which each but the last is whole
pub take_push : (words : List ℕ) (word n : ℕ) → 8 * length words ≤ n → take n (bytes_of (words ++ word ∷ [])) ≡ take n (bytes_of words) ++ take (n - 8 * length words) (to_le_bytes w64 word)
take_push words word n within =
    let long = length_bytes_of words in
    let split : n ≡ length (bytes_of words) + (n - 8 * length words) = omega (arith, long, within) in
    ap (take n) (bytes_of_push words word) ∙ ap (λ (m : ℕ). take m (bytes_of words ++ to_le_bytes w64 word)) split
    ∙ take-append-add (bytes_of words) (to_le_bytes w64 word) (n - 8 * length words)
    ∙ ap (λ (bytes : List ℕ). bytes ++ take (n - 8 * length words) (to_le_bytes w64 word)) (sym (take_all n (bytes_of words) (omega (arith, long, within))))

-- the words spell the first bytes, eight a word
abbrev pub IsCopied : List ℕ → List ℕ → Type 0
IsCopied words bytes = take (length bytes) (bytes_of words) ≡ take (8 * length words) bytes

pub copied_next : (words bytes : List ℕ) (word : ℕ) → 8 * length words ≤ length bytes → IsCopied words bytes
    → take (length bytes - 8 * length words) (to_le_bytes w64 word) ≡ take 8 (drop (8 * length words) bytes) → IsCopied (words ++ word ∷ []) bytes
copied_next words bytes word within copied is =
    let longer = length-append words (word ∷ []) in
    let more : 8 * length words + 8 ≡ 8 * length (words ++ word ∷ []) = omega (arith, longer) in
    take_push words word (length bytes) within ∙ ap (λ (front : List ℕ). front ++ take (length bytes - 8 * length words) (to_le_bytes w64 word)) copied
    ∙ ap (λ (back : List ℕ). take (8 * length words) bytes ++ back) is ∙ sym (take-add (8 * length words) 8 bytes) ∙ ap (λ (n : ℕ). take n bytes) more

pub copied_all : (words bytes : List ℕ) → length words ≡ words_for (length bytes) → IsCopied words bytes → record_of (length bytes ∷ words) ≡ bytes
copied_all words bytes all copied = copied ∙ take_all (8 * length words) bytes (omega (arith, all))

-- a word that was put together of the bytes that are left, with zeros behind them
pub word_spells : (rest word : List ℕ) (result : ℕ) → length word ≡ 8 → ((i : ℕ) → get_or rest i 0 < 256) → ((i : ℕ) → i < min 8 (length rest) → get_or word i 0 ≡ get_or rest i 0)
    → ((i : ℕ) → min 8 (length rest) ≤ i → get_or word i 0 ≡ 0) → result ≡ from_le_bytes w64 word → take (length rest) (to_le_bytes w64 result) ≡ take 8 rest
word_spells rest word result long bounded front behind is =
    let small : (i : ℕ) → get_or word i 0 < 256 = λ i. elim (cases_lt i (min 8 (length rest))) [
      | inl below ↦ let same = front i below in let least = bounded i in omega (arith, same, least)
      | inr above ↦ let none = behind i above in omega (arith, none)
    ] in
    let cut = length-take (length rest) word in
    let kept = length-take 8 rest in
    ap (take (length rest)) (le_bytes_8 word result long small is) ∙ ext_get_or 0 (take (length rest) word) (take 8 rest) (omega (arith, cut, kept, long))
    (λ i inside. get_or-take (length rest) word i 0 (omega (arith, inside, cut)) ∙ front i (omega (arith, inside, cut, long)) ∙ sym (get_or-take 8 rest i 0 (omega (arith, inside, cut, long))))

-- ---- into its slot

-- so many payload words are stored
pub record IsStoring (old now : Seated WriterView) (bytes : List ℕ) (k : ℕ) : Type 0 where
  pub words : List ℕ
  pub stored : now ≡ record old { view = record old.view { stage = Busy (length old.view.log) (length bytes ∷ words) } }
  pub count : length words ≡ k
  pub copied : IsCopied words bytes

pub storing_next : (old now new : Seated WriterView) (bytes : List ℕ) (k word : ℕ) → IsStoring old now bytes k → 8 * k ≤ length bytes
    → take (length bytes - 8 * k) (to_le_bytes w64 word) ≡ take 8 (drop (8 * k) bytes) → new ≡ record now { view = stores word now.view } → IsStoring old new bytes (k + 1)
storing_next old now new bytes k word storing within spells is =
    let words : List ℕ = storing.words in
    let count : length words ≡ k = storing.count in
    let longer = length-append words (word ∷ []) in record {
      words = words ++ word ∷ [];
      stored = is ∙ ap (λ (n : Seated WriterView). record n { view = stores word n.view }) storing.stored;
      count = omega (arith, longer, count);
      copied = copied_next words bytes word (omega (arith, count, within)) storing.copied
          (subst (λ (n : ℕ). take (length bytes - 8 * n) (to_le_bytes w64 word) ≡ take 8 (drop (8 * n) bytes)) (sym count) spells);
    }

pub has_stored : (ring : Laid) (old now : Seated WriterView) (bytes : List ℕ) (k : ℕ) → IsStoring old now bytes k → k ≡ words_for (length bytes) → length bytes ≤ longest_of ring.shape
    → HasStored ring old now bytes
has_stored ring old now bytes k storing all fits = record {
  words = length bytes ∷ storing.words;
  stored = storing.stored;
  whole = record { fits = fits; count = let count = storing.count in omega (arith, count, all) };
  spells = copied_all storing.words bytes (storing.count ∙ all) storing.copied;
}

-- ---- out of its slot

-- so many payload words of a record of so many bytes are read
pub record IsReading (old now : Seated ReaderView) (position size : ℕ) (out : List ℕ) (k : ℕ) : Type 0 where
  pub words : List ℕ
  pub read : now ≡ record old { view = record old.view { stage = Busy position (size ∷ words) } }
  pub count : length words ≡ k
  pub spelled : out ≡ bytes_of words

pub reading_next : (old now new : Seated ReaderView) (position size word k : ℕ) (out : List ℕ) → IsReading old now position size out k
    → new ≡ record now { view = reads word now.view } → IsReading old new position size (out ++ to_le_bytes w64 word) (k + 1)
reading_next old now new position size word k out reading is =
    let words : List ℕ = reading.words in
    let count : length words ≡ k = reading.count in
    let longer = length-append words (word ∷ []) in record {
      words = words ++ word ∷ [];
      read = is ∙ ap (λ (n : Seated ReaderView). record n { view = reads word n.view }) reading.read;
      count = omega (arith, longer, count);
      spelled = ap (λ (front : List ℕ). front ++ to_le_bytes w64 word) reading.spelled ∙ sym (bytes_of_push words word);
    }

pub has_read : (old now : Seated ReaderView) (position size k : ℕ) (out : List ℕ) → IsReading old now position size out k → k ≡ words_for size → HasRead old now position (take size out)
has_read old now position size k out reading all = record {
  words = size ∷ reading.words;
  read = reading.read;
  count = let count = reading.count in omega (arith, count, all);
  spells = ap (take size) (sym reading.spelled);
}

-- as many bytes as the words have
pub reading_size : (old now : Seated ReaderView) (position size k : ℕ) (out : List ℕ) → IsReading old now position size out k → length out ≡ 8 * k
reading_size old now position size k out reading =
    let long = length_bytes_of reading.words in
    let same = ap length reading.spelled in
    let count = reading.count in omega (arith, long, same, count)
