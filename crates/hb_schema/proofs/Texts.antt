-- A text is a body that is UTF-8.
use Rattle.std.proofs.Common.{◌≡◌, ℕ, List, Bool, true, false, Some, None, refl}
use Rattle.std.specs.Str.{IsUtf8, is_utf8}
use Rattle.std.proofs.lemmas.Str.{IsUtf8-from_is_utf8, is_utf8-from_IsUtf8}
use Rattle.hb_schema.specs.Faults.{text_fault}
use Rattle.hb_schema.specs.declared.fault.DecodeFault.TheVariants.{BadUtf8}

pub no_text_fault : (place : ℕ) (text : List ℕ) → IsUtf8 text → text_fault place text ≡ None
no_text_fault place text h = rw (is_utf8-from_IsUtf8 text h) refl

not_text : (text : List ℕ) → (IsUtf8 text → ⊥) → (b : Bool) → is_utf8 text ≡ b → b ≡ false
not_text text h true e = absurd (h (IsUtf8-from_is_utf8 text e))
not_text text h false e = refl

pub is_text_fault : (place : ℕ) (text : List ℕ) → (IsUtf8 text → ⊥) → text_fault place text ≡ Some (BadUtf8 place)
is_text_fault place text h = rw (not_text text h (is_utf8 text) refl) refl
