-- What is read from a place of the bytes on.
use Rattle.std.proofs.Common.{◌≡◌, ℕ, ◌+◌, ◌-◌, ◌<◌, ◌≤◌, List, ◌++◌, length, take, drop, slice_range, Some, None, sym, ap, ◌∙◌, arith}
use Rattle.std.proofs.lemmas.List.{take_rest, take-append-drop, length-drop}
use Rattle.hb_wire.specs.Varint.{IsVarint, AreBytes}
use Rattle.hb_wire.specs.Field.{Piece, SpellsField, IsNumber, LiesAt}
use Rattle.hb_wire.specs.Reading.{varint_at, field_at}
use Rattle.hb_wire.proofs.VarintLemmas.{varint_reads, varint_front, varint_found}
use Rattle.hb_wire.proofs.FieldLemmas.{AreBytes_drop, lies_after, field_reads, field_front}

pub varint_place : (bytes : List ℕ) (at value size : ℕ) → AreBytes bytes → at < length bytes → Some (value, size) ≡ varint_at (take (length bytes - at) (drop at bytes))
    → (at < at + size) × (at + size ≤ length bytes) × IsVarint (slice_range bytes at (at + size)) value
varint_place bytes at value size are lt e =
    let e' : varint_at (drop at bytes) ≡ Some (value, size) = sym (e ∙ ap varint_at (take_rest bytes at)) in
    let found = varint_front (drop at bytes) value size e' in
    let some = found.some in
    let within = found.within in
    let much : at + size - at ≡ size = omega arith in
    (omega arith, omega (arith, length-drop at bytes), rw much (varint_found (drop at bytes) value size (AreBytes_drop at bytes are) e'))

pub no_varint : (bytes : List ℕ) (at : ℕ) → None ≡ varint_at (take (length bytes - at) (drop at bytes)) → (n end : ℕ) → IsVarint (slice_range bytes at end) n → ⊥
no_varint bytes at e n end is =
    let read = varint_reads (take (end - at) (drop at bytes)) (drop (end - at) (drop at bytes)) n is in
    let none : varint_at (take (end - at) (drop at bytes) ++ drop (end - at) (drop at bytes)) ≡ None = ap varint_at (take-append-drop (end - at) (drop at bytes)) ∙ sym (e ∙ ap varint_at (take_rest bytes at)) in
    absurd cc

-- a field that was read at a place
pub record FieldPlace (bytes : List ℕ) (at : ℕ) (piece : Piece) (size : ℕ) : Type 0 where
  pub found : (at < at + size) × (at + size ≤ length bytes) × SpellsField (slice_range bytes at (at + size)) piece
  pub number : IsNumber piece.number
  pub lies : LiesAt bytes (at + size) piece.content

pub field_place : (bytes : List ℕ) (at : ℕ) (piece : Piece) (size : ℕ) → AreBytes bytes → at < length bytes → Some (piece, size) ≡ field_at (take (length bytes - at) (drop at bytes))
    → FieldPlace bytes at piece size
field_place bytes at piece size are lt e =
    let e' : field_at (drop at bytes) ≡ Some (piece, size) = sym (e ∙ ap field_at (take_rest bytes at)) in
    let found = field_front (drop at bytes) piece size e' in
    let some = found.some in
    let within = found.within in
    let much : at + size - at ≡ size = omega arith in
    record {
      found = (omega arith, omega (arith, length-drop at bytes), rw much (found.spells (AreBytes_drop at bytes are)));
      number = found.number;
      lies = lies_after at bytes size piece.content found.lies;
    }

pub no_field : (bytes : List ℕ) (at : ℕ) → None ≡ field_at (take (length bytes - at) (drop at bytes)) → (piece : Piece) (end : ℕ) → SpellsField (slice_range bytes at end) piece → ⊥
no_field bytes at e piece end is =
    let read = field_reads (take (end - at) (drop at bytes)) (drop (end - at) (drop at bytes)) piece is in
    let none : field_at (take (end - at) (drop at bytes) ++ drop (end - at) (drop at bytes)) ≡ None = ap field_at (take-append-drop (end - at) (drop at bytes)) ∙ sym (e ∙ ap field_at (take_rest bytes at)) in
    absurd cc
