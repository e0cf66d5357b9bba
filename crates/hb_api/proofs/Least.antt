-- The fault that is told is one that the bytes of a request have, and no other has a lesser place.
use Rattle.std.proofs.Common.{◌≡◌, inl, inr, ℕ, true, false, eqb, List, length, arith}
use Rattle.std.proofs.lemmas.Bool.{cases_eq, eq-eqb, ne_eqb}
use Rattle.hb_flow.specs.Faults.{message_fault, stamp_check}
use Rattle.hb_flow.specs.AllFaults.{InMessage, InStamp}
use Rattle.hb_flow.proofs.Least.{Least, Agrees, nothing, same_faults, message_least, stamp_agrees, neither, first_only, second_only}
use Rattle.hb_api.specs.Faults.{request_check, request_fault, InRequest, HasFault}

request_agrees : Agrees request_check InRequest
unfolding request_check
request_agrees number place body =
    let moment = message_least stamp_check InStamp stamp_agrees place body in
    elim (cases_eq number 7) [
      | inl e ↦ let t : eqb number 7 ≡ true = eq-eqb number 7 e in
          rw t (same_faults (message_fault stamp_check place body) (InMessage InStamp place body) (InRequest number place body) place (length body) (λ g has. inl (e, has))
          (λ g has. first_only (λ at. omega (arith, e, at)) has) moment)
      | inr ne ↦
          let not_7 : eqb number 7 ≡ false = ne_eqb number 7 ne in
          elim (cases_eq number 8) [
            | inl e ↦ let t : eqb number 8 ≡ true = eq-eqb number 8 e in
                rw (not_7, t) (same_faults (message_fault stamp_check place body) (InMessage InStamp place body) (InRequest number place body) place (length body)
                (λ g has. inr (e, has)) (λ g has. second_only ne has) moment)
            | inr ne' ↦ let not_8 : eqb number 8 ≡ false = ne_eqb number 8 ne' in
                rw (not_7, not_8) (nothing (InRequest number place body) place (length body) (λ g has. neither ne ne' has))
          ]
    ]

pub request_least : (bytes : List ℕ) → Least (request_fault bytes) (HasFault bytes) 0 (length bytes)
request_least bytes = message_least request_check InRequest request_agrees 0 bytes
