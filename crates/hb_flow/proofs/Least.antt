-- The fault that is told is one that the bytes have, and no other has a lesser place.
use Rattle.std.proofs.Common.{◌≡◌, ◌⊎◌, inl, inr, ℕ, zero, suc, ◌+◌, ◌-◌, ◌≤◌, Bool, true, false, eqb, List, [], ◌∷◌, length, take, drop, Option, Some, None, refl, sym, ap, subst, arith}
use Rattle.std.specs.Option.{option_or}
use Rattle.std.specs.Str.{is_utf8}
use Rattle.std.proofs.lemmas.Bool.{cases_eq, eq-eqb, ne_eqb}
use Rattle.std.proofs.lemmas.List.{length-take, length-drop}
use Rattle.std.proofs.lemmas.Str.{IsUtf8-from_is_utf8, is_utf8-from_IsUtf8}
use Rattle.hb_wire.specs.Field.{Content, Varint, Fixed64, Body, Fixed32, LiesAt}
use Rattle.hb_wire.proofs.FieldLemmas.{field_front}
use Rattle.hb_flow.specs.Fields.{parts_of}
use Rattle.hb_flow.specs.Faults.{Check, content_fault, first_fault, message_fault, text_fault, stamp_check, flow_check, int32_value_check, lost_event_check, lost_event_fault, response_check, response_fault}
use Rattle.hb_flow.specs.AllFaults.{Inside, InContent, InParts, InMessage, InText, InStamp, InFlow, InInt32Value, InLostEvent, InResponse, HasFault, HasLostEventFault, place_of}
use Rattle.hb_schema.specs.declared.fault.DecodeFault.{DecodeFault}
use Rattle.hb_schema.specs.declared.fault.DecodeFault.TheVariants.{Malformed, BadUtf8}
use Rattle.hb_flow.proofs.Loop.{field_at_nil}
use Rattle.hb_flow.proofs.Joining.{Found, Nothing, read_as}

-- what is told of `size` bytes at a place is the least of their faults
pub record Least (told : Option DecodeFault) (Has : DecodeFault → Type 0) (place size : ℕ) : Type 0 where
  pub none : told ≡ None → (g : DecodeFault) → Has g → ⊥
  pub some : (f : DecodeFault) → told ≡ Some f → Has f
  pub least : (f g : DecodeFault) → told ≡ Some f → Has g → place_of f ≤ place_of g
  pub from : (g : DecodeFault) → Has g → place ≤ place_of g
  pub to : (f : DecodeFault) → told ≡ Some f → place_of f ≤ place + size

-- no fault
pub nothing : (Has : DecodeFault → Type 0) (place size : ℕ) → ((g : DecodeFault) → Has g → ⊥) → Least None Has place size
nothing Has place size not = record {
  none = λ _ g has. not g has;
  some = λ f e. absurd cc;
  least = λ f g e has. absurd (not g has);
  from = λ g has. absurd (not g has);
  to = λ f e. absurd cc;
}

-- one fault
one_place : (f g : DecodeFault) → Some f ≡ Some g → place_of g ≤ place_of f
one_place f g e = let same : f ≡ g = cc in omega (arith, ap place_of same)

-- the same faults in other words
pub same_faults : (told : Option DecodeFault) (Has Had : DecodeFault → Type 0) (place size : ℕ) → ((g : DecodeFault) → Has g → Had g) → ((g : DecodeFault) → Had g → Has g)
    → Least told Has place size → Least told Had place size
same_faults told Has Had place size to back is = record {
  none = λ e g had. is.none e g (back g had);
  some = λ f e. to f (is.some f e);
  least = λ f g e had. is.least f g e (back g had);
  from = λ g had. is.from g (back g had);
  to = is.to;
}

-- in a part of n bytes, and in what comes after it
module _ (Here Later : DecodeFault → Type 0) (place n size : ℕ) (within : n ≤ size) where
  either : (first rest : Option DecodeFault) → Least first Here place n → Least rest Later (place + n) (size - n) → Least (option_or first rest) (λ g. Here g ⊎ Later g) place size
  either None rest p q = record {
    none = λ e g. none_of e g;
    some = λ f e. inr (q.some f e);
    least = λ f g e. least_of f g e;
    from = λ g. from_of g;
    to = λ f e. omega (arith, q.to f e, within);
  }
    where
      none_of : rest ≡ None → (g : DecodeFault) → Here g ⊎ Later g → ⊥
      none_of e g (inl here) = p.none refl g here
      none_of e g (inr later) = q.none e g later

      least_of : (f g : DecodeFault) → rest ≡ Some f → Here g ⊎ Later g → place_of f ≤ place_of g
      least_of f g e (inl here) = absurd (p.none refl g here)
      least_of f g e (inr later) = q.least f g e later

      from_of : (g : DecodeFault) → Here g ⊎ Later g → place ≤ place_of g
      from_of g (inl here) = p.from g here
      from_of g (inr later) = omega (arith, q.from g later)
  either (Some f) rest p q = record {
    none = λ e g _. absurd cc;
    some = λ g e. inl (p.some g e);
    least = λ g h e. least_of g h e;
    from = λ g. from_of g;
    to = λ g e. omega (arith, p.to g e, within);
  }
    where
      least_of : (g h : DecodeFault) → Some f ≡ Some g → Here h ⊎ Later h → place_of g ≤ place_of h
      least_of g h e (inl here) = p.least g h e here
      least_of g h e (inr later) = omega (arith, p.to g e, q.from h later)

      from_of : (g : DecodeFault) → Here g ⊎ Later g → place ≤ place_of g
      from_of g (inl here) = p.from g here
      from_of g (inr later) = omega (arith, q.from g later)

-- a check tells the least of the faults in each body
abbrev pub Agrees : Check → Inside → Type 0
Agrees check inside = (number place : ℕ) (body : List ℕ) → Least (check number place body) (inside number place body) place (length body)

module _ (check : Check) (inside : Inside) (agree : Agrees check inside) where
  content_least : (place n number : ℕ) (content : Content) (bytes : List ℕ) → LiesAt bytes n content
      → Least (content_fault check (place + n) (record { number = number; content = content })) (InContent inside (place + n) (record { number = number; content = content })) place n
  content_least place n number (Varint value) bytes lies = nothing _ place n (λ g has. has)
  content_least place n number (Fixed64 value) bytes lies = nothing _ place n (λ g has. has)
  content_least place n number (Fixed32 value) bytes lies = nothing _ place n (λ g has. has)
  content_least place n number (Body body) bytes lies =
      let is = agree number (place + n - length body) body in record {
        none = is.none;
        some = is.some;
        least = is.least;
        from = λ g has. omega (arith, is.from g has, lies.0);
        to = λ f e. omega (arith, is.to f e, lies.0);
      }

  parts_least : (most place : ℕ) (bytes : List ℕ) → length bytes ≤ most → Least (first_fault check most place bytes) (InParts inside place (length bytes) (parts_of most bytes)) place (length bytes)
  unfolding first_fault parts_of
  parts_least zero place [] fits = nothing _ place 0 (λ g has. omega (arith, has.0))
  parts_least zero place (b ∷ bytes) fits = absurd (omega arith)
  parts_least (suc most) place [] fits = rw field_at_nil (nothing _ place 0 (λ g has. omega (arith, has.0)))
  parts_least (suc most) place (b ∷ bytes) fits =
      elim (read_as (b ∷ bytes) _ refl) [
        | Found p n e ↦
            let found = field_front (b ∷ bytes) p n e in
            let some = found.some in
            let within = found.within in
            let less = length-drop n (b ∷ bytes) in
            let size : length (take n (b ∷ bytes)) ≡ n = omega (arith, length-take n (b ∷ bytes)) in
            let rest = parts_least most (place + n) (drop n (b ∷ bytes)) (omega arith) in
            let here = content_fault check (place + n) p in
            let later = first_fault check most (place + n) (drop n (b ∷ bytes)) in
            let ps = parts_of most (drop n (b ∷ bytes)) in
            let both = either (InContent inside (place + n) p) (InParts inside (place + n) (length (b ∷ bytes) - n) ps) place n (length (b ∷ bytes)) within here later
            (content_least place n p.number p.content (b ∷ bytes) found.lies) (rw less at rest) in
            rw e (subst (λ (k : ℕ). Least (option_or here later) (λ g. InContent inside (place + k) p g ⊎ InParts inside (place + k) (length (b ∷ bytes) - k) ps g) place (length (b ∷ bytes))) (sym size) both)
        | Nothing e ↦ rw e (record {
          none = λ told g has. absurd cc;
          some = λ f told. (omega arith, let same : Malformed place ≡ f = cc in sym same);
          least = λ f g told has. omega (arith, one_place (Malformed place) f told, ap place_of has.1);
          from = λ g has. omega (arith, ap place_of has.1);
          to = λ f told. omega (arith, one_place (Malformed place) f told);
        })
      ]

  pub message_least : (place : ℕ) (bytes : List ℕ) → Least (message_fault check place bytes) (InMessage inside place bytes) place (length bytes)
  message_least place bytes = parts_least (length bytes) place bytes (omega arith)

-- of a text
text_with : (place : ℕ) (text : List ℕ) (b : Bool) → is_utf8 text ≡ b → Least (text_fault place text) (InText place text) place (length text)
text_with place text true e = rw e (nothing (InText place text) place (length text) (λ g has. has.0 (IsUtf8-from_is_utf8 text e)))
text_with place text false e = rw e (record {
  none = λ told g has. absurd cc;
  some = λ f told. ((λ utf8. let both = is_utf8-from_IsUtf8 text utf8 in cc), let same : BadUtf8 place ≡ f = cc in sym same);
  least = λ f g told has. omega (arith, one_place (BadUtf8 place) f told, ap place_of has.1);
  from = λ g has. omega (arith, ap place_of has.1);
  to = λ f told. omega (arith, one_place (BadUtf8 place) f told);
})

text_least : (place : ℕ) (text : List ℕ) → Least (text_fault place text) (InText place text) place (length text)
text_least place text = text_with place text (is_utf8 text) refl

pub stamp_agrees : Agrees stamp_check InStamp
stamp_agrees number place body = nothing (InStamp number place body) place (length body) (λ g has. has)

-- ---- where a field is one of several

pub neither : {P Q A B : Type 0} → (P → ⊥) → (Q → ⊥) → (P × A) ⊎ (Q × B) → ⊥
neither p q (inl a) = p a.0
neither p q (inr b) = q b.0

pub first_only : {P Q A B : Type 0} → (Q → ⊥) → (P × A) ⊎ (Q × B) → A
first_only not (inl a) = a.1
first_only not (inr b) = absurd (not b.0)

pub second_only : {P Q A B : Type 0} → (P → ⊥) → (P × A) ⊎ (Q × B) → B
second_only not (inl a) = absurd (not a.0)
second_only not (inr b) = b.1

flow_agrees : Agrees flow_check InFlow
unfolding flow_check
flow_agrees number place body =
    elim (cases_eq number 1) [
      | inl e ↦ let t : eqb number 1 ≡ true = eq-eqb number 1 e in
          rw t (same_faults (message_fault stamp_check place body) (InMessage InStamp place body) (InFlow number place body) place (length body) (λ g has. inl (e, has))
          (λ g has. first_only (λ at. omega (arith, e, at)) has) (message_least stamp_check InStamp stamp_agrees place body))
      | inr ne ↦
          let not_1 : eqb number 1 ≡ false = ne_eqb number 1 ne in
          elim (cases_eq number 34) [
            | inl e ↦ let t : eqb number 34 ≡ true = eq-eqb number 34 e in
                rw (not_1, t) (same_faults (text_fault place body) (InText place body) (InFlow number place body) place (length body) (λ g has. inr (e, has))
                (λ g has. second_only ne has) (text_least place body))
            | inr ne' ↦ let not_34 : eqb number 34 ≡ false = ne_eqb number 34 ne' in
                rw (not_1, not_34) (nothing (InFlow number place body) place (length body) (λ g has. neither ne ne' has))
          ]
    ]

value_agrees : Agrees int32_value_check InInt32Value
value_agrees number place body = nothing (InInt32Value number place body) place (length body) (λ g has. has)

lost_event_agrees : Agrees lost_event_check InLostEvent
unfolding lost_event_check
lost_event_agrees number place body =
    elim (cases_eq number 3) [
      | inl e ↦ let t : eqb number 3 ≡ true = eq-eqb number 3 e in
          rw t (same_faults (message_fault int32_value_check place body) (InMessage InInt32Value place body) (InLostEvent number place body) place (length body) (λ g has. (e, has))
          (λ g has. has.1) (message_least int32_value_check InInt32Value value_agrees place body))
      | inr ne ↦ let not_3 : eqb number 3 ≡ false = ne_eqb number 3 ne in rw not_3 (nothing (InLostEvent number place body) place (length body) (λ g has. ne has.0))
    ]

-- one of the others
others : {P R A : Type 0} → (P → ⊥) → (P × A) ⊎ R → R
others p (inl a) = absurd (p a.0)
others p (inr b) = b

-- the first
first_of : {P R A : Type 0} → (R → ⊥) → (P × A) ⊎ R → A
first_of r (inl a) = a.1
first_of r (inr b) = absurd (r b)

response_agrees : Agrees response_check InResponse
unfolding response_check
response_agrees number place body =
    elim (cases_eq number 1) [
      | inl e ↦ let t : eqb number 1 ≡ true = eq-eqb number 1 e in
          rw t (same_faults (message_fault flow_check place body) (InMessage InFlow place body) (InResponse number place body) place (length body) (λ g has. inl (e, has))
          (λ g has. first_of (λ more. neither (λ at. omega (arith, e, at)) (λ at. omega (arith, e, at)) (others (λ at. omega (arith, e, at)) more)) has)
          (message_least flow_check InFlow flow_agrees place body))
      | inr ne ↦
          let not_1 : eqb number 1 ≡ false = ne_eqb number 1 ne in
          elim (cases_eq number 3) [
            | inl e ↦ let t : eqb number 3 ≡ true = eq-eqb number 3 e in
                rw (not_1, t) (same_faults (message_fault lost_event_check place body) (InMessage InLostEvent place body) (InResponse number place body) place (length body) (λ g has. inr (inl (e, has)))
                (λ g has. first_of (λ more. neither (λ at. omega (arith, e, at)) (λ at. omega (arith, e, at)) more) (others ne has))
                (message_least lost_event_check InLostEvent lost_event_agrees place body))
            | inr ne₃ ↦
                let not_3 : eqb number 3 ≡ false = ne_eqb number 3 ne₃ in
                elim (cases_eq number 1000) [
                  | inl e ↦ let t : eqb number 1000 ≡ true = eq-eqb number 1000 e in
                      rw (not_1, not_3, t) (same_faults (text_fault place body) (InText place body) (InResponse number place body) place (length body) (λ g has. inr (inr (inl (e, has))))
                      (λ g has. first_only (λ at. omega (arith, e, at)) (others ne₃ (others ne has))) (text_least place body))
                  | inr ne' ↦
                      let not_1000 : eqb number 1000 ≡ false = ne_eqb number 1000 ne' in
                      elim (cases_eq number 1001) [
                        | inl e ↦ let t : eqb number 1001 ≡ true = eq-eqb number 1001 e in
                            rw (not_1, not_3, not_1000, t) (same_faults (message_fault stamp_check place body) (InMessage InStamp place body) (InResponse number place body) place (length body)
                            (λ g has. inr (inr (inr (e, has)))) (λ g has. second_only ne' (others ne₃ (others ne has))) (message_least stamp_check InStamp stamp_agrees place body))
                        | inr ne'' ↦ let not_1001 : eqb number 1001 ≡ false = ne_eqb number 1001 ne'' in
                            rw (not_1, not_3, not_1000, not_1001) (nothing (InResponse number place body) place (length body) (λ g has. neither ne' ne'' (others ne₃ (others ne has))))
                      ]
                ]
          ]
    ]

pub response_least : (bytes : List ℕ) → Least (response_fault bytes) (HasFault bytes) 0 (length bytes)
response_least bytes = message_least response_check InResponse response_agrees 0 bytes

pub lost_event_least : (bytes : List ℕ) → Least (lost_event_fault bytes) (HasLostEventFault bytes) 0 (length bytes)
lost_event_least bytes = message_least lost_event_check InLostEvent lost_event_agrees 0 bytes
