-- Laws of fronts and bundles, from the reading of octets: it gives what stands at the front, and a fault else.
use Rattle.std.proofs.Common.{◌≡◌, ◌⊎◌, ℕ, List, [], ◌∷◌, ◌++◌, Result, Ok, Err, refl, sym, ap, subst, ◌∙◌, inl, inr}
use Rattle.std.specs.Prelude.{IsTrue}
use Rattle.tpdu.specs.declared.fault.TpduFault.{TpduFault}
use Rattle.tpdu.specs.declared.tpdu.Tpdu.{Tpdu}
use Rattle.tpdu.specs.Faults.{IsTpduFault}
use Rattle.tpdu.specs.Grammar.{IsListedTpdu, BeginsWithTpdu, IsBundle}
use Rattle.tpdu.specs.Values.{TpduAndSum, reaches_end}
use Rattle.tpdu.specs.steps.Reading.{head_at, Found, read_at}
use Rattle.tpdu.proofs.Heads.{ok_is}
use Rattle.tpdu.proofs.ReadLaws.{read_sound, read_complete}
use Rattle.tpdu.proofs.FaultOrder.{fault_of, fault-read}

pub spelling_first : (extended front rest : List ℕ) (tpdu : TpduAndSum) → IsListedTpdu extended front tpdu → (IsTrue (reaches_end tpdu.0) → rest ≡ [])
    → BeginsWithTpdu extended (front ++ rest) tpdu rest
spelling_first extended front rest tpdu spelling end = record { begins = record { front = front; whole = refl; stands = spelling }; end = end }

pub same_front : (extended octets : List ℕ) (tpdu other : TpduAndSum) (rest more : List ℕ)
    → BeginsWithTpdu extended octets tpdu rest → BeginsWithTpdu extended octets other more → (tpdu ≡ other) × (rest ≡ more)
same_front extended octets tpdu other rest more f g =
    let one : Found = (tpdu, rest) in
    let is = ok_is one (other, more) (sym (read_complete extended octets tpdu rest f) ∙ read_complete extended octets other more g) in
    (ap (λ (x : Found). x.0) is, ap (λ (x : Found). x.1) is)

pub apart : (extended octets rest : List ℕ) (tpdu : TpduAndSum) (fault : TpduFault) → BeginsWithTpdu extended octets tpdu rest → IsTpduFault extended octets fault → ⊥
apart extended octets rest tpdu fault f fails =
    let none = ap fault_of (sym (read_complete extended octets tpdu rest f)) ∙ fault-read extended octets ∙ fails in cc

either_by : (extended octets : List ℕ) (r : Result Found TpduFault) → read_at extended octets ≡ r
    → ((tpdu : TpduAndSum) × (rest : List ℕ) × BeginsWithTpdu extended octets tpdu rest) ⊎ ((fault : TpduFault) × IsTpduFault extended octets fault)
either_by extended octets (Ok x) e = inl (x.0, x.1, read_sound extended octets x.0 x.1 e)
either_by extended octets (Err f) e = inr (f, sym (fault-read extended octets) ∙ ap fault_of e)

pub front_or : (extended octets : List ℕ)
    → ((tpdu : TpduAndSum) × (rest : List ℕ) × BeginsWithTpdu extended octets tpdu rest) ⊎ ((fault : TpduFault) × IsTpduFault extended octets fault)
front_or extended octets = either_by extended octets (read_at extended octets) refl

-- no octets have no TPDU at their front
none_first : (extended octets : List ℕ) (tpdu : TpduAndSum) (rest : List ℕ) → octets ≡ [] → BeginsWithTpdu extended octets tpdu rest → ⊥
unfolding read_at head_at
none_first extended octets tpdu rest nil f =
    let r : read_at extended [] ≡ Ok (tpdu, rest) = sym (ap (read_at extended) nil) ∙ read_complete extended octets tpdu rest f in
    cc

pub same_bundle : (extended octets : List ℕ) (one other : List Tpdu) → IsBundle extended octets one → IsBundle extended octets other → one ≡ other
same_bundle extended octets [] [] f g = refl
same_bundle extended octets [] (b ∷ bs) f g = absurd (none_first extended octets (b, g.0) g.1 f g.2)
same_bundle extended octets (a ∷ rest) [] f g = absurd (none_first extended octets (a, f.0) f.1 g f.2)
same_bundle extended octets (a ∷ rest) (b ∷ others) f g =
    let same = same_front extended octets (a, f.0) (b, g.0) f.1 g.1 f.2 g.2 in
    let later = same_bundle extended g.1 rest others (subst (λ (t : List ℕ). IsBundle extended t rest) same.1 f.3) g.3 in
    let first : a ≡ b = ap (λ (x : TpduAndSum). x.0) same.0 in
    λ i. first i ∷ later i
