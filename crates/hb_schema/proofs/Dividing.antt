-- The rest of any bytes behind their parts.
use Rattle.std.proofs.Common.{◌≡◌, ℕ, zero, suc, ◌≤◌, List, [], ◌∷◌, ◌++◌, length, take, drop, None, refl, sym, ap, ◌∙◌, append_assoc, arith}
use Rattle.std.specs.List.{flat_map}
use Rattle.std.proofs.lemmas.List.{length-drop, take-append-drop}
use Rattle.hb_wire.specs.Field.{Piece}
use Rattle.hb_wire.specs.Reading.{field_at}
use Rattle.hb_wire.proofs.FieldLemmas.{field_front, field_reads}
use Rattle.hb_schema.specs.Fields.{Part, StartsNoField, parts_of, parts}
use Rattle.hb_schema.proofs.Joining.{Found, Nothing, read_as}
use Rattle.hb_schema.proofs.Loop.{field_at_nil}

-- bytes at whose front no field is read start none
starts_none : (bytes : List ℕ) → field_at bytes ≡ None → StartsNoField bytes
starts_none bytes none piece size spells =
    let read = field_reads (take size bytes) (drop size bytes) piece spells in
    let same : field_at (take size bytes ++ drop size bytes) ≡ None = ap field_at (take-append-drop size bytes) ∙ none in
    absurd cc

-- bytes that are those of the parts and then some that start no field
abbrev pub UpToRest : List ℕ → List Part → Type 0
UpToRest bytes ps = (rest : List ℕ) × StartsNoField rest × (bytes ≡ flat_map (λ p. p.raw) ps ++ rest)

-- a field at the front, before bytes of which that is so
one_more : (bytes : List ℕ) (p : Piece) (n : ℕ) (ps : List Part) → UpToRest (drop n bytes) ps → UpToRest bytes (record { raw = take n bytes; field = p } ∷ ps)
one_more bytes p n ps behind =
    let raws : List ℕ = flat_map (λ (q : Part). q.raw) ps in
    (behind.0, behind.1, sym (take-append-drop n bytes) ∙ ap (λ (x : List ℕ). take n bytes ++ x) behind.2 ∙ sym (append_assoc (take n bytes) raws behind.0))

rest_from : (most : ℕ) (bytes : List ℕ) → length bytes ≤ most → UpToRest bytes (parts_of most bytes)
unfolding parts_of
rest_from zero [] room = ([], starts_none [] field_at_nil, refl)
rest_from zero (b ∷ bytes) room = absurd (omega arith)
rest_from (suc most) bytes room =
    elim (read_as bytes _ refl) [
      | Found p n e ↦
          let found = field_front bytes p n e in
          let some = found.some in
          let within = found.within in
          let less = length-drop n bytes in
          rw e (one_more bytes p n (parts_of most (drop n bytes)) (rest_from most (drop n bytes) (omega arith)))
      | Nothing e ↦ rw e (bytes, starts_none bytes e, refl)
    ]

pub up_to_rest : (bytes : List ℕ) → UpToRest bytes (parts bytes)
up_to_rest bytes = rest_from (length bytes) bytes (omega arith)
