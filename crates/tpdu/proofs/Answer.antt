-- What a reader that gives the reading of its octets owes its callers: the grammar both ways, and the first fault.
use Rattle.std.proofs.Common.{◌≡◌, ℕ, List, Result, Ok, Err, sym, ap, ◌∙◌}
use Rattle.std.specs.Prelude.{IfOk, IfErr, IsOkAnd}
use Rattle.pdu_parts.proofs.Readings.{Gives}
use Rattle.tpdu.specs.declared.fault.TpduFault.{TpduFault}
use Rattle.tpdu.specs.Faults.{IsTpduFault}
use Rattle.tpdu.specs.Grammar.{BeginsWithTpdu}
use Rattle.tpdu.specs.Values.{TpduAndSum}
use Rattle.tpdu.specs.steps.Reading.{Found, read_at}
use Rattle.tpdu.proofs.Heads.{ok_is}
use Rattle.tpdu.proofs.ReadLaws.{read_sound, read_complete}
use Rattle.tpdu.proofs.FaultOrder.{fault_of, fault-read}

module _ {X : Type 0} (tpdu_of : X → TpduAndSum) (rest_of : X → List ℕ) (extended octets : List ℕ) where
  pub ok_first : (r : Result X TpduFault) → Gives {Y = Found} (λ x. (tpdu_of x, rest_of x)) r (read_at extended octets) → IfOk r (λ x. BeginsWithTpdu extended octets (tpdu_of x) (rest_of x))
  ok_first (Ok x) e = read_sound extended octets (tpdu_of x) (rest_of x) e
  ok_first (Err f) e = tt

  pub only_first : (r : Result X TpduFault) → Gives {Y = Found} (λ x. (tpdu_of x, rest_of x)) r (read_at extended octets)
      → (tpdu : TpduAndSum) (rest : List ℕ) → BeginsWithTpdu extended octets tpdu rest → IsOkAnd r (λ x. (tpdu_of x ≡ tpdu) × (rest_of x ≡ rest))
  only_first (Ok x) e tpdu rest f =
      let made : Found = (tpdu_of x, rest_of x) in
      let is = ok_is made (tpdu, rest) (sym e ∙ read_complete extended octets tpdu rest f) in
      (ap (λ (y : Found). y.0) is, ap (λ (y : Found). y.1) is)
  only_first (Err d) e tpdu rest f = absurd (let h = read_complete extended octets tpdu rest f in cc)

pub fault_first : {X : Type 0} (view : X → Found) (extended octets : List ℕ) (r : Result X TpduFault) → Gives view r (read_at extended octets) → IfErr r (IsTpduFault extended octets)
fault_first view extended octets (Ok x) e = tt
fault_first view extended octets (Err f) e = sym (fault-read extended octets) ∙ ap fault_of e
