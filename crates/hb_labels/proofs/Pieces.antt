-- The pieces of a text between the commas outside parentheses.
use Rattle.std.proofs.Common.{◌≡◌, ℕ, suc, ◌+◌, ◌<◌, Bool, true, false, not, ◌&&◌, ◌==◌, List, [], ◌∷◌, ◌++◌, length, get_or, take, drop, refl, sym, ap, subst, ◌∙◌, inl, inr, append_assoc, append-nil, add-one, drop-cons, ◌≤◌, Option, Some, None}
use Rattle.std.proofs.lemmas.Bool.{cases_Bool}
use Rattle.std.proofs.Math.Seq.{take-suc}
use Rattle.std.proofs.lemmas.List.{drop_all, take_all}
use Rattle.std.specs.List.{onto_first}
use Rattle.std.specs.Option.{option_map}
use Rattle.hb_labels.specs.declared.fault.SelectorFault.{SelectorFault}
use Rattle.hb_labels.specs.declared.fault.SelectorFault.TheVariants as faults
use Rattle.hb_labels.specs.Reading.{pieces, inside_after, each, Fails}

-- the pieces with this text before the first
abbrev pub onto_front : List ℕ → List (List ℕ) → List (List ℕ)
onto_front front [] = front ∷ []
onto_front front (piece ∷ more) = (front ++ piece) ∷ more

pub pieces_nil : (inside : Bool) → pieces inside [] ≡ [] ∷ []
unfolding pieces
pieces_nil inside = refl

pub pieces_comma : (inside : Bool) (b : ℕ) (text : List ℕ) → (b == 44 && not inside) ≡ true → pieces inside (b ∷ text) ≡ [] ∷ pieces false text
unfolding pieces
pieces_comma inside b text h = rw h refl

pub pieces_other : (inside : Bool) (b : ℕ) (text : List ℕ) → (b == 44 && not inside) ≡ false → pieces inside (b ∷ text) ≡ onto_first b (pieces (inside_after inside b) text)
unfolding pieces
pieces_other inside b text h = rw h refl

pub onto_front_first : (front : List ℕ) (b : ℕ) (ps : List (List ℕ)) → onto_front front (onto_first b ps) ≡ onto_front (front ++ b ∷ []) ps
onto_front_first front b [] = refl
onto_front_first front b (p ∷ ps) = ap (λ (t : List ℕ). t ∷ ps) (sym (append_assoc front (b ∷ []) p))

pub pieces_some : (inside : Bool) (text : List ℕ) → (p : List ℕ) × (ps : List (List ℕ)) × (pieces inside text ≡ p ∷ ps)
pieces_some inside [] = ([], [], pieces_nil inside)
pieces_some inside (b ∷ text) = elim (cases_Bool (b == 44 && not inside)) [
  | inl comma ↦ ([], pieces false text, pieces_comma inside b text comma)
  | inr other ↦
      let (p, ps, e) = pieces_some (inside_after inside b) text in
      (b ∷ p, ps, pieces_other inside b text other ∙ ap (onto_first b) e)
]

-- ---- the search for the first comma outside parentheses

pub search_starts : (inside : Bool) (text : List ℕ) → pieces inside text ≡ onto_front [] (pieces inside text)
search_starts inside text = let (p, ps, e) = pieces_some inside text in e ∙ sym (ap (onto_front []) e)

pub search_finds : (inside : Bool) (text : List ℕ) (i : ℕ) (whole : List (List ℕ)) → i < length text → get_or text i 0 ≡ 44 → inside ≡ false
    → whole ≡ onto_front (take i text) (pieces inside (drop i text)) → whole ≡ take i text ∷ pieces false (drop (i + 1) text)
search_finds inside text i whole below comma out kept =
    let cons : drop i text ≡ get_or text i 0 ∷ drop (suc i) text = drop-cons text i 0 below in
    let test : (get_or text i 0 == 44 && not inside) ≡ true = rw (comma, out) refl in
    let cut = ap (pieces inside) cons ∙ pieces_comma inside (get_or text i 0) (drop (suc i) text) test in
    rw add-one (kept ∙ ap (onto_front (take i text)) cut ∙ ap (λ (t : List ℕ). t ∷ pieces false (drop (suc i) text)) (append-nil (take i text)))

pub search_goes : (inside : Bool) (text : List ℕ) (i : ℕ) (whole : List (List ℕ)) → i < length text → (get_or text i 0 == 44 && not inside) ≡ false
    → whole ≡ onto_front (take i text) (pieces inside (drop i text)) → whole ≡ onto_front (take (i + 1) text) (pieces (inside_after inside (get_or text i 0)) (drop (i + 1) text))
search_goes inside text i whole below other kept =
    let b = get_or text i 0 in
    let cons : drop i text ≡ get_or text i 0 ∷ drop (suc i) text = drop-cons text i 0 below in
    let rest = pieces (inside_after inside b) (drop (suc i) text) in
    let cut = ap (pieces inside) cons ∙ pieces_other inside b (drop (suc i) text) other in
    let longer : take (suc i) text ≡ take i text ++ get_or text i 0 ∷ [] = take-suc text i 0 below in
    rw add-one (kept ∙ ap (onto_front (take i text)) cut ∙ onto_front_first (take i text) b rest ∙ ap (λ (t : List ℕ). onto_front t rest) (sym longer))

pub search_ends : (inside : Bool) (text : List ℕ) (i : ℕ) (whole : List (List ℕ)) → length text ≤ i
    → whole ≡ onto_front (take i text) (pieces inside (drop i text)) → whole ≡ text ∷ []
search_ends inside text i whole all kept =
    kept ∙ ap (λ (t : List ℕ). onto_front (take i text) (pieces inside t)) (drop_all i text all) ∙ ap (onto_front (take i text)) (pieces_nil inside)
    ∙ ap (λ (t : List ℕ). t ∷ []) (append-nil (take i text) ∙ take_all i text all)

-- ---- what a loop over the pieces keeps

pub each_step : {A : Type 0} (one : List ℕ → Option A) (piece : List ℕ) (ps : List (List ℕ)) (x : A) → one piece ≡ Some x → each one (piece ∷ ps) ≡ option_map (λ xs. x ∷ xs) (each one ps)
unfolding each
each_step one piece ps x h = rw h refl

pub each_stop : {A : Type 0} (one : List ℕ → Option A) (piece : List ℕ) (ps : List (List ℕ)) → one piece ≡ None → each one (piece ∷ ps) ≡ None
unfolding each
each_stop one piece ps h = rw h refl

pub each_nil : {A : Type 0} (one : List ℕ → Option A) → each one [] ≡ Some []
unfolding each
each_nil one = refl

map_twice : {A : Type 0} (old : List A) (x : A) (o : Option (List A)) → option_map (λ (xs : List A). old ++ xs) (option_map (λ xs. x ∷ xs) o) ≡ option_map (λ (xs : List A). (old ++ x ∷ []) ++ xs) o
map_twice old x None = refl
map_twice old x (Some xs) = ap Some (sym (append_assoc old (x ∷ []) xs))

put_some : {A : Type 0} (old new : List A) (o : Option A) → option_map (λ item. old ++ item ∷ []) o ≡ Some new → (x : A) × (o ≡ Some x) × (old ++ x ∷ [] ≡ new)
put_some old new None h = absurd cc
put_some old new (Some x) h = (x, refl, cc)

-- a piece more was read
pub one_more : {A : Type 0} (one : List ℕ → Option A) (rest piece more : List ℕ) (old new : List A) (whole : Option (List A)) → pieces false rest ≡ piece ∷ pieces false more
    → option_map (λ item. old ++ item ∷ []) (one piece) ≡ Some new → option_map (λ (xs : List A). old ++ xs) (each one (pieces false rest)) ≡ whole
    → option_map (λ (xs : List A). new ++ xs) (each one (pieces false more)) ≡ whole
one_more {A} one rest piece more old new whole cut put kept =
    let (x, read, is) = put_some old new (one piece) put in
    let step = ap (λ ps. option_map (λ (xs : List A). old ++ xs) (each one ps)) cut ∙ ap (λ o. option_map (λ (xs : List A). old ++ xs) o) (each_step one piece (pieces false more) x read) ∙ map_twice old x (each one (pieces false more)) in
    subst (λ (front : List A). option_map (λ (xs : List A). front ++ xs) (each one (pieces false more)) ≡ whole) is (sym step ∙ kept)

-- the last piece was read
pub the_last : {A : Type 0} (one : List ℕ → Option A) (rest : List ℕ) (old new : List A) (whole : Option (List A)) → pieces false rest ≡ rest ∷ []
    → option_map (λ item. old ++ item ∷ []) (one rest) ≡ Some new → option_map (λ (xs : List A). old ++ xs) (each one (pieces false rest)) ≡ whole → whole ≡ Some new
the_last {A} one rest old new whole cut put kept =
    let (x, read, is) = put_some old new (one rest) put in
    let step = ap (λ ps. option_map (λ (xs : List A). old ++ xs) (each one ps)) cut ∙ ap (λ o. option_map (λ (xs : List A). old ++ xs) o) (each_step one rest [] x read ∙ ap (λ o. option_map (λ xs. x ∷ xs) o) (each_nil one)) in
    sym kept ∙ step ∙ ap Some is

-- a piece was not read
pub none_more : {A : Type 0} (one : List ℕ → Option A) (rest piece : List ℕ) (ps : List (List ℕ)) (old : List A) (whole : Option (List A)) → pieces false rest ≡ piece ∷ ps
    → one piece ≡ None → option_map (λ (xs : List A). old ++ xs) (each one (pieces false rest)) ≡ whole → whole ≡ None
none_more {A} one rest piece ps old whole cut none kept =
    sym kept ∙ ap (λ qs. option_map (λ (xs : List A). old ++ xs) (each one qs)) cut ∙ ap (λ o. option_map (λ (xs : List A). old ++ xs) o) (each_stop one piece ps none)

pub fails_more : {A : Type 0} (one : List ℕ → Option A) (fault : SelectorFault) (rest piece : List ℕ) (ps : List (List ℕ)) (old : List A) (whole : Option (List A)) → pieces false rest ≡ piece ∷ ps
    → Fails fault (one piece) → option_map (λ (xs : List A). old ++ xs) (each one (pieces false rest)) ≡ whole → Fails fault whole
fails_more one faults.BadSelector rest piece ps old whole cut none kept = none_more one rest piece ps old whole cut none kept
fails_more one faults.NoMemory rest piece ps old whole cut none kept = tt
