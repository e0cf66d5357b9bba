-- Which texts spell which selectors.
use Rattle.std.specs.Prelude.{◌≡◌, ℕ, ◌<◌, ◌⊎◌, List, [], ◌∷◌, ◌++◌, length, Option, Some, None, codes}
use Rattle.hb_labels.specs.declared.operator.Operator.{Operator}
use Rattle.hb_labels.specs.declared.operator.Operator.TheVariants.{Exists, DoesNotExist, In, NotIn}
use Rattle.hb_labels.specs.declared.operator.Requirement.{Requirement}
use Rattle.hb_labels.specs.Texts.{IsName, Spaced, Joined}

-- the text is a name that is not empty
abbrev pub IsWord : List ℕ → Type 0
IsWord text = IsName text × (0 < length text)

-- the text is the key: its name, behind its source and `:` where it has one
abbrev pub IsKey : List ℕ → Option (List ℕ) → List ℕ → Type 0
IsKey text None name = IsWord name × (text ≡ name)
IsKey text (Some source) name = IsWord source × IsWord name × (text ≡ source ++ codes ":" ++ name)

-- the text is this value, which may be empty
abbrev pub SpellsValue : List ℕ → List ℕ → Type 0
SpellsValue text value = IsName value × Spaced text (value ∷ [])

-- the text is a key, this sign and one value
abbrev pub SpellsOne : List ℕ → List ℕ → List ℕ → List (List ℕ) → Type 0
SpellsOne text key sign values = (value : List ℕ) × IsName value × (values ≡ value ∷ [])
    × Spaced text (key ∷ sign ∷ value ∷ [])

-- the text is a key, this word behind a space, and values in parentheses
abbrev pub SpellsList : List ℕ → List ℕ → List ℕ → List (List ℕ) → Type 0
SpellsList text key word values = (inner : List ℕ) × Joined SpellsValue inner values
    × Spaced text (key ∷ (codes " " ++ word) ∷ (codes "(" ++ inner ++ codes ")") ∷ [])

-- the text is a key and what is asked of it
abbrev pub SpellsOperator : List ℕ → List ℕ → Operator → Type 0
SpellsOperator text key Exists = Spaced text (key ∷ [])
SpellsOperator text key DoesNotExist = Spaced text (codes "!" ∷ key ∷ [])
SpellsOperator text key (In values) =
    SpellsOne text key (codes "=") values
    ⊎ (SpellsOne text key (codes "==") values ⊎ SpellsList text key (codes "in") values)
SpellsOperator text key (NotIn values) =
    SpellsOne text key (codes "!=") values ⊎ SpellsList text key (codes "notin") values

-- the text spells the requirement
abbrev pub SpellsRequirement : List ℕ → Requirement → Type 0
SpellsRequirement text r = (key : List ℕ) × IsKey key r.key.source r.key.name
    × SpellsOperator text key r.operator

-- the text spells the selector: its requirements, with commas between them
abbrev pub SpellsSelector : List ℕ → List Requirement → Type 0
SpellsSelector text requirements = Joined SpellsRequirement text requirements
