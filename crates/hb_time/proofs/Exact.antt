-- Answers that are exact.
use Rattle.std.proofs.Common.{◌≡◌, ℕ, Option, Some, ◌↔◌, sym, ap}

-- one answer, where its condition holds
pub exact_some : (P : Type 0) (m n : ℕ) → P → (◌≡◌ {A = Option ℕ} (Some m) (Some n)) ↔ (P × (n ≡ m))
exact_some P m n h = (λ e. let same : n ≡ m = cc in (h, same), λ k. ap Some (sym k.1))

-- two answers of two parts
pub parts_of : {A B : Type 0} (a c : A) (b d : B) → ◌≡◌ {A = Option (A × B)} (Some (a, b)) (Some (c, d)) → (a ≡ c) × (b ≡ d)
parts_of {A} {B} a c b d e =
    let same : ◌≡◌ {A = A × B} (a, b) (c, d) = cc in
    (ap (λ (p : A × B). p.0) same, ap (λ (p : A × B). p.1) same)

pub of_parts : {A B : Type 0} (a c : A) (b d : B) → a ≡ c → b ≡ d → ◌≡◌ {A = Option (A × B)} (Some (a, b)) (Some (c, d))
of_parts a c b d e h = λ i. Some (e i, h i)
