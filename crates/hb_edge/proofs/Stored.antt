-- A file that a map keeps is the file that a contract sees.
use Rattle.std.proofs.Common.{◌≡◌, ℕ, true, false, List, [], ◌∷◌, Some, refl, sym, ◌∙◌, cond, ap, ◌≢◌}
use Rattle.std.specs.Prelude.{String, Vec}
use Rattle.std.specs.String.{string_bytes, string_cmp}
use Rattle.std.specs.Option.{option_map}
use Rattle.std.specs.Map.{lookup}
use Rattle.std.specs.Str.{bytes_eq}
use Rattle.std.specs.BTreeMap.{BTreeMap, UpdatesBy, is_at, get_by_text}
use Rattle.std.proofs.lemmas.Map.Text.{text_cmp, is_eq-slice_cmp, btree_map_updates_text}
use Rattle.std.proofs.lemmas.Bool.{false_from_ne_true}
use Rattle.std.proofs.lemmas.Slice.Eq.{bytes_eq-Decides}
use Rattle.hb_edge.specs.MemShelf.{plain, file_of}

pub file_of_plain : {A B : Type 0} (name : List ℕ) (es : List (String A × Vec ℕ B))
    → file_of (plain es) name ≡ option_map (λ f. f.items) (lookup (is_at (text_cmp name)) es)
file_of_plain name [] = refl
file_of_plain name (e ∷ es) =
    rw is_eq-slice_cmp (elim (bytes_eq name (string_bytes e.0))
    as (λ b. cond b (Some e.1.items) (file_of (plain es) name) ≡ option_map (λ f. f.items) (cond b (Some e.1) (lookup (is_at (text_cmp name)) es)))
    [ true ↦ refl | false ↦ file_of_plain name es ])

-- after a file was put, its name has its bytes
pub file_of_plain_put : {A B : Type 0} (name bytes : List ℕ) (key : String A) (file : Vec ℕ B) (old new : BTreeMap (String A) (Vec ℕ B))
    → UpdatesBy string_cmp (string_cmp key) old new (Some file) → string_bytes key ≡ name → file.items ≡ bytes
    → file_of (plain new.entries) name ≡ Some bytes
file_of_plain_put name bytes key file old new updates e f =
    rw (← e, ← f, file_of_plain (string_bytes key) new.entries) (ap (option_map (λ v. v.items)) updates.1)

-- and each other name has what it had
pub file_of_plain_others : {A B : Type 0} (name : List ℕ) (key : String A) (file : Vec ℕ B) (old new : BTreeMap (String A) (Vec ℕ B))
    → UpdatesBy string_cmp (string_cmp key) old new (Some file) → string_bytes key ≡ name → (q : List ℕ) → (q ≢ name)
    → file_of (plain new.entries) q ≡ file_of (plain old.entries) q
file_of_plain_others name key file old new updates e q ne =
    let differs : bytes_eq name q ≡ false = false_from_ne_true (bytes_eq name q) (λ h. ne (sym ((bytes_eq-Decides name q).0 h))) in
    let same : get_by_text new q ≡ get_by_text old q =
    btree_map_updates_text (string_bytes key) old new (Some file) updates q ∙ rw (e, differs) refl in
    rw (file_of_plain q new.entries, file_of_plain q old.entries) (ap (option_map (λ v. v.items)) same)
