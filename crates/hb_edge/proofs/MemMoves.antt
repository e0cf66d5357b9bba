-- A read of a link in memory: what it gives, what the link holds then, and what it is.
use Rattle.std.proofs.Common.{◌≡◌, ℕ, ◌-◌, Bool, false, cond, List, [], ◌∷◌, ◌++◌, length, take, drop, min, Some, refl, sym, ap, subst, ◌∙◌, arith}
use Rattle.std.specs.Option.{ForSome}
use Rattle.std.proofs.lemmas.List.{append-nil, take-append-drop, take_all, length-drop}
use Rattle.hb_edge.specs.declared.link.Moved.{Moved}
use Rattle.hb_edge.specs.declared.link.Moved.TheVariants.{Took, NotYet, End, Failed}
use Rattle.hb_edge.specs.Link.{Read, Held, IsLeft, moved_of}
use Rattle.hb_edge.specs.MemLink.{LinkState, ReadsFront, front_answer, left, read_answer, faults_after, waits_after, after}
use Rattle.hb_edge.specs.Plan.{one_more, is_planned}

-- what a read gave of the bytes that waited stood in front of those that still wait
front_moved : (unread : List ℕ) (ended : Bool) (answer : Moved) (buffer : List ℕ) → ReadsFront unread ended answer buffer → unread ≡ moved_of buffer answer ++ left unread answer
front_moved unread ended (Took n) buffer reads = sym (take-append-drop n unread) ∙ ap (λ (x : List ℕ). x ++ drop n unread) (sym reads.1)
front_moved unread ended NotYet buffer reads = refl
front_moved unread ended End buffer reads = refl
front_moved unread ended Failed buffer reads = refl

-- all bytes from a place on
rest_of : (place : ℕ) (seen items : List ℕ) → seen ≡ items → take (length seen - place) (drop place seen) ≡ drop place items
rest_of place seen items e = take_all (length seen - place) (drop place seen) (omega (arith, length-drop place seen)) ∙ ap (drop place) e

-- a read of the bytes from a place on, where these are the bytes that wait, is one of the link
pub read_told : (s : LinkState) (room most place : ℕ) (seen items : List ℕ) (ended : Bool) (answer : Moved) (buffer : List ℕ)
    → seen ≡ items → drop place items ≡ s.unread → ended ≡ s.ended → most ≡ s.most → is_planned s.fails (one_more s.calls) ≡ false
    → answer ≡ front_answer (take (length seen - place) (drop place seen)) ended (min room most) → ReadsFront (take (length seen - place) (drop place seen)) ended answer buffer
    → (answer ≡ read_answer s room) × ReadsFront s.unread s.ended answer buffer
read_told s room most place seen items ended answer buffer same waits at_end piece planned is reads =
    let front : List ℕ = take (length seen - place) (drop place seen) in
    let unread : front ≡ s.unread = rest_of place seen items same ∙ waits in (
      is ∙ ap (λ (u : List ℕ). front_answer u ended (min room most)) unread ∙ ap (λ (e : Bool). front_answer s.unread e (min room most)) at_end
          ∙ ap (λ (m : ℕ). front_answer s.unread s.ended (min room m)) piece ∙ ap (λ (p : Bool). cond p Failed (front_answer s.unread s.ended (min room s.most))) (sym planned),
      subst (λ (u : List ℕ). ReadsFront u s.ended answer buffer) unread (subst (λ (e : Bool). ReadsFront front e answer buffer) at_end reads),
    )

-- what a link holds after a read
pub read_holds : (s : LinkState) (new : Held) (answer : Moved) (buffer : List ℕ) → ReadsFront s.unread s.ended answer buffer → new.taken ≡ s.taken → new.unread ≡ left s.unread answer → new.ended ≡ s.ended
    → ForSome {T = Held} (Some (record { taken = s.taken; unread = s.unread; ended = s.ended })) (λ h. (unread : List ℕ) × (h.unread ≡ moved_of buffer answer ++ unread)
    × (Some new ≡ Some (record h { taken = h.taken ++ []; unread = unread })))
read_holds s new answer buffer reads taken unread ended h is =
    let old : Held = record { taken = s.taken; unread = s.unread; ended = s.ended } in
    let same : old ≡ h = cc in
    subst (λ (x : Held). (rest : List ℕ) × (x.unread ≡ moved_of buffer answer ++ rest) × (Some new ≡ Some (record x { taken = x.taken ++ []; unread = rest }))) same (
      left s.unread answer,
      front_moved s.unread s.ended answer buffer reads,
      ap (λ (t : List ℕ). Some (record new { taken = t })) (taken ∙ sym (append-nil s.taken))
          ∙ ap (λ (u : List ℕ). Some (record new { taken = s.taken ++ []; unread = u })) unread
          ∙ ap (λ (e : Bool). Some (record { taken = s.taken ++ []; unread = left s.unread answer; ended = e })) ended,
    )

-- and it is as that read leaves it
pub read_left : (s new : LinkState) (room : ℕ) (answer : Moved) → answer ≡ read_answer s room
    → new ≡ record s { unread = left s.unread answer; calls = one_more s.calls; faults = faults_after answer s.faults; read_waits = waits_after answer s.read_waits }
    → IsLeft after s new
read_left s new room answer is e =
    (Read room ∷ [], e ∙ ap (λ (a : Moved). record s { unread = left s.unread a; calls = one_more s.calls; faults = faults_after a s.faults; read_waits = waits_after a s.read_waits }) is)
