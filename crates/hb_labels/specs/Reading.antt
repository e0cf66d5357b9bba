-- Reading a selector from left to right, as functions that compute.
use Rattle.std.specs.Prelude.{◌≡◌, ℕ, Bool, true, false, not, ◌&&◌, ◌==◌, List, [], ◌∷◌, ◌++◌, length, take, drop, Option, Some, None, option_map, option_and_then, bytes_eq, codes, Result, Ok, Err, if◌then◌else◌}
use Rattle.std.specs.List.{prefix_len, onto_first}
use Rattle.hb_labels.specs.declared.fault.SelectorFault.{SelectorFault}
use Rattle.hb_labels.specs.declared.fault.SelectorFault.TheVariants as faults
use Rattle.hb_labels.specs.declared.key.Key.{Key}
use Rattle.hb_labels.specs.declared.operator.Operator.{Operator}
use Rattle.hb_labels.specs.declared.operator.Operator.TheVariants.{Exists, DoesNotExist, In, NotIn}
use Rattle.hb_labels.specs.declared.operator.Requirement.{Requirement}
use Rattle.hb_labels.specs.Texts.{is_name_byte, is_space}

-- a fault of the text where nothing is read; want of memory at any time
abbrev pub Fails : {Y : Type 0} → SelectorFault → Option Y → Type 0
Fails faults.BadSelector read = read ≡ None
Fails faults.NoMemory read = Unit {0}

-- what a call answered, seen by `view`, is what is read, unless memory ran out
abbrev pub Gives : {X Y : Type 0} → (X → Y) → Result X SelectorFault → Option Y → Type 0
Gives view (Ok x) read = read ≡ Some (view x)
Gives view (Err fault) read = Fails fault read

-- the same of an item that a call puts behind those that there were
abbrev pub Puts : {U X : Type 0} → List X → List X → Result U SelectorFault → Option X → Type 0
Puts old new (Ok x) read = option_map (λ item. old ++ item ∷ []) read ≡ Some new
Puts old new (Err fault) read = Fails fault read

-- what stands behind the spaces at the front
abbrev pub skip : List ℕ → List ℕ
skip text = drop (prefix_len is_space text) text

-- the name at the front, and what stands behind it
abbrev pub name_front : List ℕ → List ℕ
name_front text = take (prefix_len is_name_byte text) text

abbrev pub name_rest : List ℕ → List ℕ
name_rest text = drop (prefix_len is_name_byte text) text

-- what stands before the first `)`, and what from it on
abbrev pub before_close : List ℕ → List ℕ
before_close text = take (prefix_len (λ b. not (b == 41)) text) text

abbrev pub from_close : List ℕ → List ℕ
from_close text = drop (prefix_len (λ b. not (b == 41)) text) text

-- whether the place behind this byte is inside parentheses
abbrev pub inside_after : Bool → ℕ → Bool
inside_after inside b = if b == 40 then true else if b == 41 then false else inside

-- the pieces between the commas outside parentheses, from a place that is inside or not
unfoldable pub pieces : Bool → List ℕ → List (List ℕ)
pieces inside [] = [] ∷ []
pieces inside (b ∷ text) = if b == 44 && not inside then [] ∷ pieces false text
    else onto_first b (pieces (inside_after inside b) text)

-- what is read of each piece, where each can be read
unfoldable pub each : {A : Type 0} → (List ℕ → Option A) → List (List ℕ) → Option (List A)
each one [] = Some []
each one (piece ∷ more) =
    option_and_then (λ x. option_map (λ xs. x ∷ xs) (each one more)) (one piece)

-- the value that is the whole text but for spaces around it
unfoldable pub value_of : List ℕ → Option (List ℕ)
value_of text = if length (skip (name_rest (skip text))) == 0
    then Some (name_front (skip text)) else None

-- the key without source at the front
unfoldable pub plain_key : List ℕ → Option Key
plain_key text = if length (name_front text) == 0 then None
    else Some (record { source = None; name = name_front text })

-- the key whose source is at the front of the first text, and its name at the front of the second
unfoldable pub source_key : List ℕ → List ℕ → Option Key
source_key source text = if length (name_front source) == 0 then None
    else option_map (λ key. record { source = Some (name_front source); name = key.name })
    (plain_key text)

-- the key at the front, given what stands behind its first name, and what stands behind it and
-- spaces
unfoldable pub key_with : List ℕ → List ℕ → Option (Key × List ℕ)
key_with text [] = option_map (λ key. (key, [])) (plain_key text)
key_with text (b ∷ rest) =
    if b == 58 then option_map (λ key. (key, skip (name_rest rest))) (source_key text rest)
    else option_map (λ key. (key, skip (b ∷ rest))) (plain_key text)

abbrev pub key_at : List ℕ → Option (Key × List ℕ)
key_at text = key_with (skip text) (name_rest (skip text))

-- values with commas between them, and one alone
abbrev pub values_of : List ℕ → Option (List (List ℕ))
values_of text = each value_of (pieces false text)

unfoldable pub one_value : List ℕ → Option (List (List ℕ))
one_value text = option_map (λ value. value ∷ []) (value_of text)

-- values, and `)` and spaces behind them
unfoldable pub list_within : List ℕ → List ℕ → Option (List (List ℕ))
list_within inner [] = None
list_within inner (close ∷ end) = if length (skip end) == 0 then values_of inner else None

-- values in parentheses
unfoldable pub list_of : List ℕ → Option (List (List ℕ))
list_of [] = None
list_of (b ∷ text) = if b == 40 then list_within (before_close text) (from_close text) else None

-- `in` or `notin`, and values in parentheses
unfoldable pub list_operator : List ℕ → Option Operator
list_operator text =
    if bytes_eq (name_front text) (codes "in") then option_map In (list_of (skip (name_rest text)))
    else if bytes_eq (name_front text) (codes "notin")
    then option_map NotIn (list_of (skip (name_rest text)))
    else None

-- a text without `=` at its front
abbrev pub after_equal : List ℕ → List ℕ
after_equal [] = []
after_equal (b ∷ text) = if b == 61 then text else b ∷ text

-- `=` and a value, behind `!`
unfoldable pub not_equal : List ℕ → Option Operator
not_equal [] = None
not_equal (b ∷ text) = if b == 61 then option_map NotIn (one_value text) else None

-- what is asked, behind a key
unfoldable pub operator_of : List ℕ → Option Operator
operator_of [] = Some Exists
operator_of (b ∷ text) = if b == 61 then option_map In (one_value (after_equal text))
    else if b == 33 then not_equal text
    else list_operator (b ∷ text)

-- a key alone, behind `!`
unfoldable pub missing : List ℕ → Option Requirement
missing text = option_and_then (λ k. if length k.1 == 0
    then Some (record { key = k.0; operator = DoesNotExist }) else None) (key_at text)

-- a key, and what is asked of it
unfoldable pub keyed : List ℕ → Option Requirement
keyed text = option_and_then (λ k. option_map (λ o. record { key = k.0; operator = o })
    (operator_of k.1)) (key_at text)

-- a requirement that no space stands before
unfoldable pub requirement_from : List ℕ → Option Requirement
requirement_from [] = keyed []
requirement_from (b ∷ text) = if b == 33 then missing text else keyed (b ∷ text)

-- a requirement
abbrev pub requirement_of : List ℕ → Option Requirement
requirement_of text = requirement_from (skip text)

-- a selector
abbrev pub selector_of : List ℕ → Option (List Requirement)
selector_of text = each requirement_of (pieces false text)
