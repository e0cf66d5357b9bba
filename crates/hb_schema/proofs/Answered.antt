-- What a reader answered, in other words.
use Rattle.std.proofs.Common.{◌≡◌, Option, None, Result, Ok, Err, refl, sym, ◌∙◌}
use Rattle.std.specs.Prelude.{IfOk}
use Rattle.hb_schema.specs.Faults.{Answers}
use Rattle.hb_schema.specs.declared.fault.DecodeFault.{DecodeFault}
use Rattle.hb_schema.specs.declared.fault.DecodeFault.TheVariants.{Malformed, BadUtf8, NoMemory}

-- the same fault
pub err_same : {X : Type 0} (e : DecodeFault) (f g : Option DecodeFault) (P Q : X → Type 0) → f ≡ g → Answers (Err e) f P → Answers (Err e) g Q
err_same (Malformed at) f g P Q same told = sym same ∙ told
err_same (BadUtf8 at) f g P Q same told = sym same ∙ told
err_same NoMemory f g P Q same told = tt

-- more of the value, where there is no fault
pub answers_more : {X : Type 0} (r : Result X DecodeFault) (f : Option DecodeFault) (P Q : X → Type 0) → ((x : X) → f ≡ None → P x → Q x) → Answers r f P → Answers r f Q
answers_more (Ok x) f P Q more told = (told.0, more x told.0 told.1)
answers_more (Err e) f P Q more told = err_same e f f P Q refl told

-- what holds of the value
pub value_has : {X : Type 0} (r : Result X DecodeFault) (f : Option DecodeFault) (P Q : X → Type 0) → ((x : X) → f ≡ None → P x → Q x) → Answers r f P → IfOk r Q
value_has (Ok x) f P Q more told = more x told.0 told.1
value_has (Err e) f P Q more told = tt
