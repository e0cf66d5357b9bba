-- A look that was made is a reader's next, and goes on from those before it.
use Rattle.std.proofs.Common.{◌≡◌, ◌≢◌, ℕ, List, Option, Some, None, refl}
use Rattle.std.specs.Prelude.{IfSome}
use Rattle.hb_look.specs.declared.look.Looked.{Looked}
use Rattle.hb_look.specs.declared.look.Looked.TheVariants as answers
use Rattle.hb_look.specs.Looks.{Found}
use Rattle.hb_look.specs.Reader.{Reader}
use Rattle.hb_look.specs.Answers.{found_by}
use Rattle.hb_look.specs.Progress.{HasLooked}
use Rattle.hb_look.proofs.Progress.{looked_one}
use Rattle.hb_ring.specs.Passes.{HasMade}

some_found : (result : Looked) (bytes : List ℕ) → result ≢ answers.NoMemory → found_by result bytes ≢ None
some_found answers.Got bytes some none = absurd (cc)
some_found (answers.Gone next) bytes some none = absurd (cc)
some_found answers.NotYet bytes some none = absurd (cc)
some_found answers.NoMemory bytes some none = some refl

made_looked : {A Fixed : Type 0} (reader : A → Reader) (fixed : A → Fixed) (old new : A) (position moment : ℕ) (found : Option Found) → found ≢ None
    → IfSome found (HasMade (reader old) (reader new) position moment) → fixed new ≡ fixed old → HasLooked reader (λ _ _. ⊥) fixed old new
made_looked reader fixed old new position moment None some made stays = absurd (some refl)
made_looked reader fixed old new position moment (Some found) some made stays =
    looked_one reader (λ _ _. ⊥) fixed old new position moment found made.listed made.later made.cause (λ log told. absurd told) (λ log told. absurd told) (λ log told. absurd told) stays

-- at a reader that tells nothing
pub has_looked : {A Fixed : Type 0} (reader : A → Reader) (fixed : A → Fixed) (old new : A) (position moment : ℕ) (result : Looked) (bytes : List ℕ) → result ≢ answers.NoMemory
    → IfSome (found_by result bytes) (HasMade (reader old) (reader new) position moment) → fixed new ≡ fixed old → HasLooked reader (λ _ _. ⊥) fixed old new
has_looked reader fixed old new position moment result bytes some made stays =
    made_looked reader fixed old new position moment (found_by result bytes) (some_found result bytes some) made stays
