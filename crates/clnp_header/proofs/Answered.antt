-- The contract of the reader, from what it reads: by cases on its answer.
use Rattle.std.proofs.Common.{◌≡◌, ℕ, ◌<◌, List, [], ◌++◌, None, Result, Ok, Err, refl, sym, ap, ◌∙◌, length, arith, inl, inr, ◌⊎◌, take}
use Rattle.std.proofs.lemmas.List.{append_cancel_left, get_or_past}
use Rattle.std.proofs.lemmas.Bool.{cases_lt}
use Rattle.std.specs.Prelude.{IfOk, IfErr, IsOkAnd, All}
use Rattle.clnp_options.specs.declared.reason.Fault.{Fault}
use Rattle.clnp_header.specs.declared.pdu.Pdu.{Pdu}
use Rattle.clnp_header.specs.declared.pdu.PduRef.{PduRef}
use Rattle.clnp_header.specs.Grammar.{IsPdu}
use Rattle.pdu_parts.specs.Front.{Apart, BeginsWith, FrontOrFault, OneFront, OneValue}
use Rattle.clnp_header.specs.Writing.{header_length}
use Rattle.clnp_header.specs.Values.{value_of}
use Rattle.clnp_header.specs.Faults.{IsPduFault, first_fault}
use Rattle.pdu_parts.proofs.Readings.{Gives}
use Rattle.clnp_header.specs.steps.Reading.{pdu_read}
use Rattle.clnp_header.proofs.Again.{pdu_again}
use Rattle.clnp_header.proofs.Agreeing.{fault_of, pdu_agrees}
use Rattle.clnp_header.proofs.Found.{found}
use Rattle.clnp_header.proofs.Parts.{AreOctets}

abbrev pub seen : PduRef → List ℕ × Pdu
seen pdu = (pdu.header.now, value_of pdu)

abbrev read : List ℕ × Pdu → Result (List ℕ × Pdu) Fault
read x = Ok x

same_read : (x y : List ℕ × Pdu) → read x ≡ read y → x.1 ≡ y.1
same_read x y e = cc

pub reads_ok : (octets : List ℕ) (r : Result PduRef Fault) → AreOctets octets → Gives seen r (pdu_read octets)
    → IfOk r (λ pdu. (rest : List ℕ) × BeginsWith IsPdu octets (value_of pdu) rest)
reads_ok octets (Ok pdu) fits given = let h = found octets pdu.header.now (value_of pdu) fits given in (h.rest, h.begins)
reads_ok octets (Err fault) fits given = tt

pub reads_header : (octets : List ℕ) (r : Result PduRef Fault) → AreOctets octets → Gives seen r (pdu_read octets)
    → IfOk r (λ pdu. pdu.header.now ≡ take (header_length (value_of pdu)) octets)
reads_header octets (Ok pdu) fits given = (found octets pdu.header.now (value_of pdu) fits given).header_is
reads_header octets (Err fault) fits given = tt

-- what stands at the front is read again
front_again : (octets : List ℕ) (pdu : Pdu) (rest : List ℕ) (h : BeginsWith IsPdu octets pdu rest) → pdu_read octets ≡ Ok (h.stands.header, pdu)
front_again octets pdu rest h = ap pdu_read h.whole ∙ pdu_again h.front rest pdu h.stands

pub reads_only : (octets : List ℕ) (r : Result PduRef Fault) → Gives seen r (pdu_read octets) → (pdu : Pdu) (rest : List ℕ) → BeginsWith IsPdu octets pdu rest → IsOkAnd r (λ found. value_of found ≡ pdu)
reads_only octets (Ok pdu) given other rest h =
    let known = front_again octets other rest h in
    same_read (seen pdu) (h.stands.header, other) (sym given ∙ known)
reads_only octets (Err fault) given other rest h =
    let known = front_again octets other rest h in
    absurd cc

pub reads_fault : (octets : List ℕ) (r : Result PduRef Fault) → Gives seen r (pdu_read octets) → IfErr r (λ fault. IsPduFault octets fault)
reads_fault octets (Ok pdu) given = tt
reads_fault octets (Err fault) given = sym (pdu_agrees octets) ∙ ap fault_of given

-- ---- laws

pub one_value : OneValue IsPdu
one_value octets pdu other h k = same_read (h.header, pdu) (k.header, other) (sym (pdu_again octets [] pdu h) ∙ pdu_again octets [] other k)

same_both : (x y : List ℕ × Pdu) → read x ≡ read y → x ≡ y
same_both x y e = cc

pub one_front : OneFront IsPdu
one_front octets pdu other rest more h k =
    let same : (h.stands.header, pdu) ≡ (k.stands.header, other) =
    same_both (h.stands.header, pdu) (k.stands.header, other) (sym (front_again octets pdu rest h) ∙ front_again octets other more k) in
    let fronts : h.front ≡ k.front = h.stands.whole ∙ ap (λ (x : List ℕ × Pdu). x.0 ++ x.1.body) same ∙ sym k.stands.whole in
    let rests : k.front ++ rest ≡ k.front ++ more = ap (λ (xs : List ℕ). xs ++ rest) (sym fronts) ∙ sym h.whole ∙ k.whole in
    (ap (λ (x : List ℕ × Pdu). x.1) same, append_cancel_left k.front rest more rests)

pub apart : Apart IsPdu IsPduFault
apart octets rest pdu fault h failed =
    let known = front_again octets pdu rest h in
    let none : None ≡ first_fault octets = sym (ap fault_of known) ∙ pdu_agrees octets in
    absurd cc

front_or : (octets : List ℕ) (r : Result (List ℕ × Pdu) Fault) → AreOctets octets → pdu_read octets ≡ r
    → ((pdu : Pdu) × (rest : List ℕ) × BeginsWith IsPdu octets pdu rest) ⊎ ((fault : Fault) × IsPduFault octets fault)
front_or octets (Ok x) fits e = let h = found octets x.0 x.1 fits e in inl (x.1, h.rest, h.begins)
front_or octets (Err fault) fits e = inr (fault, sym (pdu_agrees octets) ∙ ap fault_of e)

are_octets : (octets : List ℕ) → All (λ octet. octet < 256) octets → AreOctets octets
are_octets octets fits i =
    elim (cases_lt i (length octets)) [
      | inl lt ↦ fits i 0 lt
      | inr le ↦ rw (get_or_past octets i 0 le) (omega arith)
    ]

pub front_or_fault : FrontOrFault IsPdu IsPduFault
front_or_fault octets fits = front_or octets (pdu_read octets) (are_octets octets fits) refl
