-- What a selector means over labels.
use Rattle.std.specs.Prelude.{◌≡◌, ℕ, Bool, ◌==◌, List, [], length, nat_lt, Option, Some, None, option_map, if◌then◌else◌, IfSome}
use Rattle.std.specs.Option.{unwrap_or, option_map_or}
use Rattle.std.specs.List.{All, Any, Contains, position_or_len, before_first, after_first}
use Rattle.hb_labels.specs.declared.key.Key.{Key}
use Rattle.hb_labels.specs.declared.operator.Operator.{Operator}
use Rattle.hb_labels.specs.declared.operator.Operator.TheVariants.{Exists, DoesNotExist, In, NotIn}
use Rattle.hb_labels.specs.declared.operator.Requirement.{Requirement}

-- `=`
abbrev pub is_equal : ℕ → Bool
is_equal b = b == 61

-- `:`
abbrev pub is_colon : ℕ → Bool
is_colon b = b == 58

-- what stands before and behind the first byte that passes the test, where there is one
abbrev pub divided : (ℕ → Bool) → List ℕ → Option (List ℕ × List ℕ)
divided test text = if nat_lt (position_or_len test text) (length text)
    then Some (before_first test text, after_first test text) else None

-- a label's key part and its value, which is empty where the label has no `=`
abbrev pub label_parts : List ℕ → List ℕ × List ℕ
label_parts label = unwrap_or (divided is_equal label) (label, [])

-- a key part's source, where it has one, and its name
abbrev pub part_source : List ℕ → Option (List ℕ)
part_source part = option_map (λ both. both.0) (divided is_colon part)

abbrev pub part_name : List ℕ → List ℕ
part_name part = option_map_or (λ both. both.1) (divided is_colon part) part

-- the key part is the key's: its name, and its source where the key has one
abbrev pub IsPartOf : Key → List ℕ → Type 0
IsPartOf key part = (part_name part ≡ key.name)
    × IfSome key.source (λ source. part_source part ≡ Some source)

-- the label has the key
abbrev pub HasKey : Key → List ℕ → Type 0
HasKey key label = IsPartOf key (label_parts label).0

-- the label has the key and one of the values
abbrev pub HasOneOf : Key → List (List ℕ) → List ℕ → Type 0
HasOneOf key values label = HasKey key label × Contains values (label_parts label).1

-- the labels meet what is asked of the key
abbrev pub Meets : Key → Operator → List (List ℕ) → Type 0
Meets key Exists labels = Any (HasKey key) labels
Meets key DoesNotExist labels = Any (HasKey key) labels → ⊥
Meets key (In values) labels = Any (HasOneOf key values) labels
Meets key (NotIn values) labels = Any (HasOneOf key values) labels → ⊥

-- the labels meet each requirement
abbrev pub Holds : List Requirement → List (List ℕ) → Type 0
Holds requirements labels = All (λ r. Meets r.key r.operator labels) requirements
