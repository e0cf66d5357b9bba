-- The limits of a job.
use Rattle.std.proofs.Common.{◌≡◌, ℕ, ◌≤◌, ◌+◌, ◌%◌, List, [], ◌∷◌, length, Option, Some, None, Bool, true, false, ◌&&◌, ◌==◌, arith, refl, sym, codes, subst}
use Rattle.std.specs.Prelude.{if◌then◌else◌, nat_le, nat_lt, count_ones, option_and_then, option_map, bytes_eq}
use Rattle.std.specs.List.{list_all}
use Rattle.std.proofs.lemmas.Bool.Decides.{Decides-eqb, nat_tests}
use Rattle.hb_api.specs.declared.request.GetFlowsRequest.{GetFlowsRequest}
use Rattle.hb_api.specs.Limits.{longest_name}
use Rattle.hb_look.specs.Limits.{IsCapacity, IsSlot, largest_capacity, longest_record}
use Rattle.hb_words.specs.declared.job.Job.TheVariants as means
use Rattle.hb_words.specs.declared.job.Observe.{Observe}
use Rattle.hb_words.specs.Limits.{IsWithin, ring_size, largest_ring, default_capacity, default_slot, default_node}
use Rattle.hb_words.specs.Options.{are_options, value}
use Rattle.hb_words.specs.Values.{number, number_that, flows, is_capacity, is_slot, is_name, is_name_letter, capacity, slot, node, request, is_frames}
use Rattle.hb_words.specs.Words.{observe_of, observe_with, observe, job}
use Rattle.hb_words.proofs.Numbers.{capacity_from_ones}

kept : {A : Type 0} (b : Bool) (x y : A) → (if b then Some x else None) ≡ Some y → (b ≡ true) × (x ≡ y)
kept true x y e = (refl, cc)
kept false x y e = absurd (cc)

given : {A : Type 0} (b : Bool) (o : Option A) (x : A) → (if b then o else None) ≡ Some x → o ≡ Some x
given true o x e = e
given false o x e = absurd (cc)

all_three : (a b c : Bool) → (a && b && c) ≡ true → (a ≡ true) × (b ≡ true) × (c ≡ true)
all_three true true c e = (refl, refl, e)
all_three true false c e = absurd (cc)
all_three false b c e = absurd (cc)

le_from : (a b : ℕ) → nat_le a b ≡ true → a ≤ b
le_from a b e = grind (arith, nat_tests)

number_kept : (test : ℕ → Bool) (n : Option ℕ) (m : ℕ) → option_and_then (λ k. if test k then Some k else None) n ≡ Some m → test m ≡ true
number_kept test None m e = absurd (cc)
number_kept test (Some k) m e = let p = kept (test k) k m e in subst (λ x. test x ≡ true) p.1 p.0

is_capacity_of : (n : ℕ) → is_capacity n ≡ true → IsCapacity n
is_capacity_of n e =
    let p = all_three (nat_le 1 n) (nat_le n largest_capacity) (count_ones (n + 1) == 1) e in
    capacity_from_ones n (le_from 1 n p.0) (le_from n largest_capacity p.1) (sym p.2)

capacity_within : (text : Option (List ℕ)) (n : ℕ) → capacity text ≡ Some n → IsCapacity n
capacity_within None n e = let same : default_capacity ≡ n = cc in subst IsCapacity same (12, omega arith, omega arith, refl)
capacity_within (Some text) n e = is_capacity_of n (number_kept is_capacity (number text) n e)

is_slot_of : (n : ℕ) → is_slot n ≡ true → IsSlot n
is_slot_of n e =
    let p = all_three (n % 8 == 0) (nat_le 64 n) (nat_le n longest_record) e in
    ((Decides-eqb (n % 8) 0).0 p.0, le_from 64 n p.1, le_from n longest_record p.2)

slot_within : (text : Option (List ℕ)) (n : ℕ) → slot text ≡ Some n → IsSlot n
slot_within None n e = let same : default_slot ≡ n = cc in subst IsSlot same (refl, omega arith, omega arith)
slot_within (Some text) n e = is_slot_of n (number_kept is_slot (number text) n e)

node_within : (text : Option (List ℕ)) (name : List ℕ) → node text ≡ Some name → length name ≤ longest_name
node_within None name e = let same : default_node ≡ name = cc in subst (λ (n : List ℕ). length n ≤ longest_name) same (omega arith)
node_within (Some text) name e =
    let p = kept (is_name text) text name e in
    let q = all_three (nat_le 1 (length text)) (nat_le (length text) longest_name) (list_all is_name_letter text) p.0 in
    subst (λ (n : List ℕ). length n ≤ longest_name) p.1 (le_from (length text) longest_name q.1)

-- no request follows
asks_alone : (first : Bool) (n : Option ℕ) (r : GetFlowsRequest) → option_map (flows first) n ≡ Some r → r.follow ≡ false
asks_alone first None r e = absurd (cc)
asks_alone first (Some n) r e = let same : flows first n ≡ r = cc in subst (λ (x : GetFlowsRequest). x.follow ≡ false) same refl

request_alone : (last first : Option (List ℕ)) (r : GetFlowsRequest) → request last first ≡ Some r → r.follow ≡ false
request_alone None None r e = let same : flows false 0 ≡ r = cc in subst (λ (x : GetFlowsRequest). x.follow ≡ false) same refl
request_alone (Some last) None r e = asks_alone false (number_that (nat_lt 0) last) r e
request_alone None (Some first) r e = asks_alone true (number_that (nat_lt 0) first) r e
request_alone (Some last) (Some first) r e = absurd (cc)

of_within : (file : List ℕ) (c s : Option ℕ) (n : Option (List ℕ)) (r : Option GetFlowsRequest) (o : Observe) → observe_of file c s n r ≡ Some o
    → ((m : ℕ) → c ≡ Some m → IsCapacity m) → ((m : ℕ) → s ≡ Some m → IsSlot m) → ((m : List ℕ) → n ≡ Some m → length m ≤ longest_name)
    → ((m : GetFlowsRequest) → r ≡ Some m → m.follow ≡ false) → IsWithin o
of_within file None s n r o e = absurd (cc)
of_within file (Some c) None n r o e = absurd (cc)
of_within file (Some c) (Some s) None r o e = absurd (cc)
of_within file (Some c) (Some s) (Some n) None o e = absurd (cc)
of_within file (Some c) (Some s) (Some n) (Some r) o e = λ is_c is_s is_n is_r.
    let p = kept (nat_le (ring_size c s) largest_ring) (record { file = file; capacity = c; slot = s; node = n; request = r }) o e in
    subst IsWithin p.1 (record { capacity = is_c c refl; slot = is_s s refl; ring = le_from (ring_size c s) largest_ring p.0; node = is_n n refl; alone = is_r r refl })

observe_within : (words : List (List ℕ)) (o : Observe) → observe words ≡ Some o → IsWithin o
observe_within [] o e = absurd (cc)
observe_within (file ∷ options) o e =
    of_within file (capacity (value (codes "--capacity") options)) (slot (value (codes "--slot") options)) (node (value (codes "--node") options))
    (request (value (codes "--last") options) (value (codes "--first") options)) o
    (given (are_options options && is_frames (value (codes "--output") options)) (observe_with file options) o e)
    (capacity_within (value (codes "--capacity") options)) (slot_within (value (codes "--slot") options)) (node_within (value (codes "--node") options))
    (request_alone (value (codes "--last") options) (value (codes "--first") options))

meant : (x : Option Observe) (o : Observe) → option_map means.Observe x ≡ Some (means.Observe o) → x ≡ Some o
meant None o e = absurd (cc)
meant (Some x) o e = cc

-- each job is within the limits
pub job_within : (words : List (List ℕ)) (o : Observe) → job words ≡ Some (means.Observe o) → IsWithin o
job_within [] o e = absurd (cc)
job_within (command ∷ words) o e =
    observe_within words o (meant (observe words) o (given (bytes_eq command (codes "observe")) (option_map means.Observe (observe words)) (means.Observe o) e))
