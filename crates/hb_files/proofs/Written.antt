-- Writing bytes piece by piece: what was written is a front of the bytes.
use Rattle.std.proofs.Common.{◌≡◌, ℕ, ◌+◌, ◌-◌, List, ◌++◌, length, take, drop, append_assoc, sym, ap, ◌∙◌}
use Rattle.std.proofs.Math.Seq.{take-add}
use Rattle.std.proofs.lemmas.List.{take_rest}

pub written_more : (held bytes : List ℕ) (at n : ℕ) → (held ++ take at bytes) ++ take n (take (length bytes - at) (drop at bytes)) ≡ held ++ take (at + n) bytes
written_more held bytes at n = rw take_rest (append_assoc held (take at bytes) (take n (drop at bytes)) ∙ ap (λ (front : List ℕ). held ++ front) (sym (take-add at n bytes)))
