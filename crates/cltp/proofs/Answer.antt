-- What a reader that gives the reading of its octets owes its callers: the grammar both ways, and the first fault; and the laws of both.
use Rattle.std.proofs.Common.{◌≡◌, ◌⊎◌, ℕ, List, Result, Ok, Err, refl, sym, ap, ◌∙◌, inl, inr}
use Rattle.std.specs.Prelude.{IfOk, IfErr, IsOkAnd}
use Rattle.pdu_parts.proofs.Readings.{Gives}
use Rattle.cltp.specs.declared.fault.UdFault.{UdFault}
use Rattle.cltp.specs.Faults.{IsUdFault}
use Rattle.cltp.specs.Ud.{Ud, IsUd}
use Rattle.cltp.specs.steps.Reading.{read_at}
use Rattle.tpdu.proofs.FaultOrder.{fault_of}
use Rattle.tpdu.proofs.Heads.{ok_is}
use Rattle.cltp.proofs.FaultOrder.{fault-read}
use Rattle.cltp.proofs.ReadLaws.{read_sound, read_complete}

module _ {X : Type 0} (view : X → Ud) (octets : List ℕ) where
  pub ok_read : (r : Result X UdFault) → Gives view r (read_at octets) → IfOk r (λ x. IsUd octets (view x))
  ok_read (Ok x) e = read_sound octets (view x) e
  ok_read (Err f) e = tt

  pub only_read : (r : Result X UdFault) → Gives view r (read_at octets) → (ud : Ud) → IsUd octets ud → IsOkAnd r (λ x. view x ≡ ud)
  only_read (Ok x) e ud is = ok_is (view x) ud (sym e ∙ read_complete octets ud is)
  only_read (Err f) e ud is = absurd (let h = read_complete octets ud is in cc)

  pub fault_read : (r : Result X UdFault) → Gives view r (read_at octets) → IfErr r (IsUdFault octets)
  fault_read (Ok x) e = tt
  fault_read (Err f) e = sym (fault-read octets) ∙ ap fault_of e

  pub each_read : (r : Result X UdFault) → Gives view r (read_at octets) → (fault : UdFault) → IsUdFault octets fault → r ≡ Err fault
  each_read (Ok x) e fault is = absurd (let h = sym (ap fault_of e) ∙ fault-read octets ∙ is in cc)
  each_read (Err f) e fault is = let h = sym (ap fault_of e) ∙ fault-read octets ∙ is in cc

pub same_value : (octets : List ℕ) (ud other : Ud) → IsUd octets ud → IsUd octets other → ud ≡ other
same_value octets ud other is also = ok_is ud other (sym (read_complete octets ud is) ∙ read_complete octets other also)

pub same_fault : (octets : List ℕ) (fault other : UdFault) → IsUdFault octets fault → IsUdFault octets other → fault ≡ other
same_fault octets fault other is also = let h = sym is ∙ also in cc

pub apart : (octets : List ℕ) (ud : Ud) (fault : UdFault) → IsUd octets ud → IsUdFault octets fault → ⊥
apart octets ud fault is fails = let none = ap fault_of (sym (read_complete octets ud is)) ∙ fault-read octets ∙ fails in cc

either_by : (octets : List ℕ) (r : Result Ud UdFault) → read_at octets ≡ r → ((ud : Ud) × IsUd octets ud) ⊎ ((fault : UdFault) × IsUdFault octets fault)
either_by octets (Ok ud) e = inl (ud, read_sound octets ud e)
either_by octets (Err f) e = inr (f, sym (fault-read octets) ∙ ap fault_of e)

pub either : (octets : List ℕ) → ((ud : Ud) × IsUd octets ud) ⊎ ((fault : UdFault) × IsUdFault octets fault)
either octets = either_by octets (read_at octets) refl
