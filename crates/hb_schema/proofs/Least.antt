-- The fault that is told is one that the bytes have, and no other has a lesser place.
use Rattle.std.proofs.Common.{◌≡◌, ◌⊎◌, inl, inr, ℕ, zero, suc, ◌+◌, ◌-◌, ◌<◌, ◌≤◌, Bool, true, false, cond, eqb, List, [], ◌∷◌, length, take, drop, Option, Some, None, refl, sym, ap, subst, arith}
use Rattle.std.specs.Option.{option_or}
use Rattle.std.specs.Str.{IsUtf8, is_utf8}
use Rattle.std.proofs.lemmas.Bool.{cases_eq, eq-eqb, ne_eqb}
use Rattle.std.proofs.lemmas.List.{length-take, length-drop}
use Rattle.std.proofs.lemmas.Str.{IsUtf8-from_is_utf8, is_utf8-from_IsUtf8}
use Rattle.hb_wire.specs.Field.{Content, Varint, Fixed64, Body, Fixed32, LiesAt}
use Rattle.hb_wire.specs.Reading.{varint_at}
use Rattle.hb_wire.proofs.FieldLemmas.{field_front}
use Rattle.hb_wire.proofs.VarintLemmas.{varint_front}
use Rattle.hb_schema.specs.Fields.{parts_of, varints_of}
use Rattle.hb_schema.specs.Rows.{Row, Done, Number, Numbers, Text, Texts, Message, Messages, Raw, Ascends}
use Rattle.hb_schema.specs.Faults.{Check, content_fault, first_fault, message_fault, text_fault, first_varint_fault, packed_fault, fault_in, row_fault}
use Rattle.hb_schema.specs.AllFaults.{Inside, InContent, InParts, InMessage, InText, InVarints, InPacked, InField, HasFault, place_of}
use Rattle.hb_schema.specs.declared.fault.DecodeFault.{DecodeFault}
use Rattle.hb_schema.specs.declared.fault.DecodeFault.TheVariants.{Malformed, BadUtf8}
use Rattle.hb_schema.proofs.Packing.{varint_at_nil}
use Rattle.hb_schema.proofs.Loop.{field_at_nil}
use Rattle.hb_schema.proofs.Joining.{Found, Nothing, read_as}

-- what is told of `size` bytes at a place is the least of their faults
pub record Least (told : Option DecodeFault) (Has : DecodeFault → Type 0) (place size : ℕ) : Type 0 where
  pub none : told ≡ None → (g : DecodeFault) → Has g → ⊥
  pub some : (f : DecodeFault) → told ≡ Some f → Has f
  pub least : (f g : DecodeFault) → told ≡ Some f → Has g → place_of f ≤ place_of g
  pub from : (g : DecodeFault) → Has g → place ≤ place_of g
  pub to : (f : DecodeFault) → told ≡ Some f → place_of f ≤ place + size

-- no fault
nothing : (Has : DecodeFault → Type 0) (place size : ℕ) → ((g : DecodeFault) → Has g → ⊥) → Least None Has place size
nothing Has place size not = record {
  none = λ _ g has. not g has;
  some = λ f e. absurd cc;
  least = λ f g e has. absurd (not g has);
  from = λ g has. absurd (not g has);
  to = λ f e. absurd cc;
}

-- one fault
one_place : (f g : DecodeFault) → Some f ≡ Some g → place_of g ≤ place_of f
one_place f g e = let same : f ≡ g = cc in omega (arith, ap place_of same)

-- one fault alone, where P holds
alone : (f : DecodeFault) (place size : ℕ) (P : Type 0) → P → place ≤ place_of f → place_of f ≤ place + size → Least (Some f) (λ g. P × (g ≡ f)) place size
alone f place size P p from to = record {
  none = λ told g has. absurd cc;
  some = λ g told. (p, let same : f ≡ g = cc in sym same);
  least = λ g h told has. omega (arith, one_place f g told, ap place_of has.1);
  from = λ g has. omega (arith, ap place_of has.1);
  to = λ g told. omega (arith, one_place f g told);
}

-- the same faults in other words
same_faults : (told : Option DecodeFault) (Has Had : DecodeFault → Type 0) (place size : ℕ) → ((g : DecodeFault) → Has g → Had g) → ((g : DecodeFault) → Had g → Has g)
    → Least told Has place size → Least told Had place size
same_faults told Has Had place size to back is = record {
  none = λ e g had. is.none e g (back g had);
  some = λ f e. to f (is.some f e);
  least = λ f g e had. is.least f g e (back g had);
  from = λ g had. is.from g (back g had);
  to = is.to;
}

-- in a part of n bytes, and in what comes after it
module _ (Here Later : DecodeFault → Type 0) (place n size : ℕ) (within : n ≤ size) where
  either : (first rest : Option DecodeFault) → Least first Here place n → Least rest Later (place + n) (size - n) → Least (option_or first rest) (λ g. Here g ⊎ Later g) place size
  either None rest p q = record {
    none = λ e g. none_of e g;
    some = λ f e. inr (q.some f e);
    least = λ f g e. least_of f g e;
    from = λ g. from_of g;
    to = λ f e. omega (arith, q.to f e, within);
  }
    where
      none_of : rest ≡ None → (g : DecodeFault) → Here g ⊎ Later g → ⊥
      none_of e g (inl here) = p.none refl g here
      none_of e g (inr later) = q.none e g later

      least_of : (f g : DecodeFault) → rest ≡ Some f → Here g ⊎ Later g → place_of f ≤ place_of g
      least_of f g e (inl here) = absurd (p.none refl g here)
      least_of f g e (inr later) = q.least f g e later

      from_of : (g : DecodeFault) → Here g ⊎ Later g → place ≤ place_of g
      from_of g (inl here) = p.from g here
      from_of g (inr later) = omega (arith, q.from g later)
  either (Some f) rest p q = record {
    none = λ e g _. absurd cc;
    some = λ g e. inl (p.some g e);
    least = λ g h e. least_of g h e;
    from = λ g. from_of g;
    to = λ g e. omega (arith, p.to g e, within);
  }
    where
      least_of : (g h : DecodeFault) → Some f ≡ Some g → Here h ⊎ Later h → place_of g ≤ place_of h
      least_of g h e (inl here) = p.least g h e here
      least_of g h e (inr later) = omega (arith, p.to g e, q.from h later)

      from_of : (g : DecodeFault) → Here g ⊎ Later g → place ≤ place_of g
      from_of g (inl here) = p.from g here
      from_of g (inr later) = omega (arith, q.from g later)

-- a check tells the least of the faults in each body
abbrev Agrees : Check → Inside → Type 0
Agrees check inside = (number place : ℕ) (body : List ℕ) → Least (check number place body) (inside number place body) place (length body)

module _ (check : Check) (inside : Inside) (agree : Agrees check inside) where
  content_least : (place n number : ℕ) (content : Content) (bytes : List ℕ) → LiesAt bytes n content
      → Least (content_fault check (place + n) (record { number = number; content = content })) (InContent inside (place + n) (record { number = number; content = content })) place n
  content_least place n number (Varint value) bytes lies = nothing _ place n (λ g has. has)
  content_least place n number (Fixed64 value) bytes lies = nothing _ place n (λ g has. has)
  content_least place n number (Fixed32 value) bytes lies = nothing _ place n (λ g has. has)
  content_least place n number (Body body) bytes lies =
      let is = agree number (place + n - length body) body in record {
        none = is.none;
        some = is.some;
        least = is.least;
        from = λ g has. omega (arith, is.from g has, lies.0);
        to = λ f e. omega (arith, is.to f e, lies.0);
      }

  parts_least : (most place : ℕ) (bytes : List ℕ) → length bytes ≤ most → Least (first_fault check most place bytes) (InParts inside place (length bytes) (parts_of most bytes)) place (length bytes)
  unfolding first_fault parts_of
  parts_least zero place [] fits = nothing _ place 0 (λ g has. omega (arith, has.0))
  parts_least zero place (b ∷ bytes) fits = absurd (omega arith)
  parts_least (suc most) place [] fits = rw field_at_nil (nothing _ place 0 (λ g has. omega (arith, has.0)))
  parts_least (suc most) place (b ∷ bytes) fits =
      elim (read_as (b ∷ bytes) _ refl) [
        | Found p n e ↦
            let found = field_front (b ∷ bytes) p n e in
            let some = found.some in
            let within = found.within in
            let less = length-drop n (b ∷ bytes) in
            let size : length (take n (b ∷ bytes)) ≡ n = omega (arith, length-take n (b ∷ bytes)) in
            let rest = parts_least most (place + n) (drop n (b ∷ bytes)) (omega arith) in
            let here = content_fault check (place + n) p in
            let later = first_fault check most (place + n) (drop n (b ∷ bytes)) in
            let ps = parts_of most (drop n (b ∷ bytes)) in
            let both = either (InContent inside (place + n) p) (InParts inside (place + n) (length (b ∷ bytes) - n) ps) place n (length (b ∷ bytes)) within here later
            (content_least place n p.number p.content (b ∷ bytes) found.lies) (rw less at rest) in
            rw e (subst (λ (k : ℕ). Least (option_or here later) (λ g. InContent inside (place + k) p g ⊎ InParts inside (place + k) (length (b ∷ bytes) - k) ps g) place (length (b ∷ bytes))) (sym size) both)
        | Nothing e ↦ rw e (alone (Malformed place) place (length (b ∷ bytes)) (0 < length (b ∷ bytes)) (omega arith) (omega arith) (omega arith))
      ]

  message_least : (place : ℕ) (bytes : List ℕ) → Least (message_fault check place bytes) (InMessage inside place bytes) place (length bytes)
  message_least place bytes = parts_least (length bytes) place bytes (omega arith)

-- of a text
text_with : (place : ℕ) (text : List ℕ) (b : Bool) → is_utf8 text ≡ b → Least (text_fault place text) (InText place text) place (length text)
text_with place text true e = rw e (nothing (InText place text) place (length text) (λ g has. has.0 (IsUtf8-from_is_utf8 text e)))
text_with place text false e = rw e (alone (BadUtf8 place) place (length text) (IsUtf8 text → ⊥) (λ utf8. let both = is_utf8-from_IsUtf8 text utf8 in cc) (omega arith) (omega arith))

text_least : (place : ℕ) (text : List ℕ) → Least (text_fault place text) (InText place text) place (length text)
text_least place text = text_with place text (is_utf8 text) refl

-- ---- packed lists

-- what reading finds at the front: a varint or none
pub data VarintRead (bytes : List ℕ) : Type 0 where
  VarintFound : (n size : ℕ) → varint_at bytes ≡ Some (n, size) → VarintRead bytes
  VarintNothing : varint_at bytes ≡ None → VarintRead bytes

pub varint_read : (bytes : List ℕ) (o : Option (ℕ × ℕ)) → varint_at bytes ≡ o → VarintRead bytes
varint_read bytes None e = VarintNothing e
varint_read bytes (Some v) e = VarintFound v.0 v.1 e

varints_least : (most place : ℕ) (bytes : List ℕ) → length bytes ≤ most → Least (first_varint_fault most place bytes) (InVarints place (length bytes) (varints_of most bytes)) place (length bytes)
unfolding first_varint_fault varints_of
varints_least zero place [] fits = nothing _ place 0 (λ g has. omega (arith, has.0))
varints_least zero place (b ∷ bytes) fits = absurd (omega arith)
varints_least (suc most) place [] fits = rw varint_at_nil (nothing _ place 0 (λ g has. omega (arith, has.0)))
varints_least (suc most) place (b ∷ bytes) fits =
    elim (varint_read (b ∷ bytes) _ refl) [
      | VarintFound n size e ↦
          let found = varint_front (b ∷ bytes) n size e in
          let some = found.some in
          let within = found.within in
          let less = length-drop size (b ∷ bytes) in
          let rest = rw less at (varints_least most (place + size) (drop size (b ∷ bytes)) (omega arith)) in
          rw e (record {
            none = rest.none;
            some = rest.some;
            least = rest.least;
            from = λ g has. omega (arith, rest.from g has);
            to = λ f told. omega (arith, rest.to f told);
          })
      | VarintNothing e ↦ rw e (alone (Malformed place) place (length (b ∷ bytes)) (0 < length (b ∷ bytes)) (omega arith) (omega arith) (omega arith))
    ]

packed_least : (place : ℕ) (bytes : List ℕ) → Least (packed_fault place bytes) (InPacked place bytes) place (length bytes)
packed_least place bytes = varints_least (length bytes) place bytes (omega arith)

-- ---- a row

-- of a field and the ones after it, where one of them has no fault
others : {P R A : Type 0} → (P → ⊥) → (P × A) ⊎ R → R
others p (inl a) = absurd (p a.0)
others p (inr b) = b

first_of : {P R A : Type 0} → (R → ⊥) → (P × A) ⊎ R → A
first_of r (inl a) = a.1
first_of r (inr b) = absurd (r b)

above_either : {A B : Type 0} (low at number : ℕ) → low < at → ((number ≡ at) × A) ⊎ B → (B → at < number) → low < number
above_either low at number lt (inl here) above = omega (arith, here.0)
above_either low at number lt (inr later) above = omega (arith, above later)

-- a body that has a fault is of a field of the row, so its number is above those before the row
in_above : (row : Row) (low number place : ℕ) (body : List ℕ) (g : DecodeFault) → Ascends low row → InField row number place body g → low < number
unfolding InField
in_above (Done keeps) low number place body g up has = absurd has
in_above (Number at kind rest) low number place body g up has = omega (arith, up.0, in_above rest at number place body g up.2 has)
in_above (Numbers at kind rest) low number place body g up has = above_either low at number up.0 has (in_above rest at number place body g up.2)
in_above (Text at rest) low number place body g up has = above_either low at number up.0 has (in_above rest at number place body g up.2)
in_above (Texts at rest) low number place body g up has = above_either low at number up.0 has (in_above rest at number place body g up.2)
in_above (Message at others row rest) low number place body g up has = above_either low at number up.0 has (in_above rest at number place body g up.3)
in_above (Messages at row rest) low number place body g up has = above_either low at number up.0 has (in_above rest at number place body g up.3)
in_above (Raw at others rest) low number place body g up has = omega (arith, up.0, in_above rest at number place body g up.2 has)

-- where one field is checked, and others after it
checked : (at number place size : ℕ) (here later : Option DecodeFault) (Here Later : DecodeFault → Type 0) → ((g : DecodeFault) → Later g → at < number)
    → Least here Here place size → Least later Later place size → Least (cond (eqb number at) here later) (λ g. ((number ≡ at) × Here g) ⊎ Later g) place size
checked at number place size here later Here Later above p q =
    elim (cases_eq number at) [
      | inl e ↦ let t : eqb number at ≡ true = eq-eqb number at e in
          rw t (same_faults here Here (λ g. ((number ≡ at) × Here g) ⊎ Later g) place size (λ g has. inl (e, has)) (λ g has. first_of (λ later. omega (arith, e, above g later)) has) p)
      | inr ne ↦ let f : eqb number at ≡ false = ne_eqb number at ne in
          rw f (same_faults later Later (λ g. ((number ≡ at) × Here g) ⊎ Later g) place size (λ g has. inr has) (λ g has. others ne has) q)
    ]

row_agrees : (row : Row) (low : ℕ) → Ascends low row → Agrees (fault_in row) (InField row)
unfolding fault_in InField
row_agrees (Done keeps) low up number place body = nothing (λ _. ⊥) place (length body) (λ g has. has)
row_agrees (Number at kind rest) low up number place body = row_agrees rest at up.2 number place body
row_agrees (Numbers at kind rest) low up number place body =
    checked at number place (length body) (packed_fault place body) (fault_in rest number place body) (InPacked place body) (InField rest number place body)
    (λ g has. in_above rest at number place body g up.2 has) (packed_least place body) (row_agrees rest at up.2 number place body)
row_agrees (Text at rest) low up number place body =
    checked at number place (length body) (text_fault place body) (fault_in rest number place body) (InText place body) (InField rest number place body)
    (λ g has. in_above rest at number place body g up.2 has) (text_least place body) (row_agrees rest at up.2 number place body)
row_agrees (Texts at rest) low up number place body =
    checked at number place (length body) (text_fault place body) (fault_in rest number place body) (InText place body) (InField rest number place body)
    (λ g has. in_above rest at number place body g up.2 has) (text_least place body) (row_agrees rest at up.2 number place body)
row_agrees (Message at others row rest) low up number place body =
    checked at number place (length body) (message_fault (fault_in row) place body) (fault_in rest number place body) (InMessage (InField row) place body) (InField rest number place body)
    (λ g has. in_above rest at number place body g up.3 has) (message_least (fault_in row) (InField row) (row_agrees row 0 up.2) place body) (row_agrees rest at up.3 number place body)
row_agrees (Messages at row rest) low up number place body =
    checked at number place (length body) (message_fault (fault_in row) place body) (fault_in rest number place body) (InMessage (InField row) place body) (InField rest number place body)
    (λ g has. in_above rest at number place body g up.3 has) (message_least (fault_in row) (InField row) (row_agrees row 0 up.2) place body) (row_agrees rest at up.3 number place body)
row_agrees (Raw at others rest) low up number place body = row_agrees rest at up.2 number place body

pub row_least : (row : Row) → Ascends 0 row → (place : ℕ) (bytes : List ℕ) → Least (row_fault row place bytes) (HasFault row place bytes) place (length bytes)
unfolding row_fault
row_least row up place bytes = message_least (fault_in row) (InField row) (row_agrees row 0 up) place bytes
