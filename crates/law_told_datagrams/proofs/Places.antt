-- The place of a fault of a UD lies in its header.
use Rattle.std.proofs.Common.{◌≡◌, ◌≤◌, ◌<◌, ℕ, ◌+◌, Bool, true, false, List, [], ◌∷◌, ◌++◌, length, drop, Option, Some, None, ap, arith, subst, length-append}
use Rattle.std.specs.Prelude.{◌==◌, IfSome, unwrap_or, option_map}
use Rattle.std.specs.List.{AllByRecursion}
use Rattle.std.proofs.lemmas.List.{length-drop, length-take}
use Rattle.pdu_parts.specs.FirstFault.{first_failing, must}
use Rattle.pdu_parts.specs.Parameter.{Parameter, left_in, parameters_in, spelled}
use Rattle.law_carrier_answers.specs.Answers.{AreOctets}
use Rattle.script_journal.specs.declared.cause.UdCause.{UdCause}
use Rattle.script_journal.specs.declared.cause.UdCause.TheVariants as causes
use Rattle.tpdu.specs.Faults.{header, indicator}
use Rattle.tpdu.specs.Parameters.{sum_place}
use Rattle.tpdu.proofs.Splits.{spelled-parameters}
use Rattle.cltp.specs.declared.fault.UdFault.{UdFault}
use Rattle.cltp.specs.Faults.{IsUdFault, fault_at, first_fault, parameter_steps, parameters_steps, steps}
use Rattle.cltp.specs.Parameters.{trouble}
use Rattle.law_tp4_proper.proofs.Octets.{octet_at}
use Rattle.law_told.proofs.FaultPlaces.{low_sum, or_nought, spelled_more}

abbrev Low : Option UdFault → Type 0
Low step = IfSome step (λ found. found.place < 1024)

first_low : (all : List (Option UdFault)) → AllByRecursion Low all → Low (first_failing all)
first_low [] h = tt
first_low (None ∷ all) h = first_low all h.1
first_low (Some found ∷ all) h = h.0

low_must : (holds : Bool) (found : UdFault) → found.place < 1024 → Low (must holds found)
low_must true found h = tt
low_must false found h = h

low_trouble : (place : ℕ) (why : Option UdCause) → place < 1024 → Low (option_map (λ (cause : UdCause). fault_at cause place) why)
low_trouble place None h = tt
low_trouble place (Some cause) h = h

low_parameters : (place : ℕ) (ps : List Parameter) (left : List ℕ) → place + length (spelled ps) < 1024 → AllByRecursion Low (parameter_steps place ps left)
low_parameters place [] left h = (low_must (length left == 0) (fault_at causes.Param place) (omega (arith, h)), tt)
low_parameters place (p ∷ ps) left h =
    let more = spelled_more p ps in (
      low_trouble place (trouble p) (omega (arith, h)),
      low_parameters (place + (2 + length p.value)) ps left (omega (arith, h, more)),
    )

low_parts : (octets fields : List ℕ) → length fields < 256 → AllByRecursion Low (parameters_steps octets (parameters_in fields) (left_in fields))
low_parts octets fields short =
    let ps = parameters_in fields in
    let left = left_in fields in
    let whole : length (spelled ps ++ left) ≡ length fields = ap length (spelled-parameters fields) in
    let both = length-append (spelled ps) left in
    let within : 3 + length (spelled ps) < 1024 = omega (arith, whole, both, short) in (
      first_low _ (low_parameters 3 ps left within),
      (low_must _ (fault_at causes.Missing 0) (omega arith), (low_must _ (fault_at causes.Checksum (unwrap_or (sum_place 3 ps) 0)) (or_nought _ (low_sum 3 ps within)), tt)),
    )

low_steps : (octets : List ℕ) → indicator octets < 256 → AllByRecursion Low (steps octets)
low_steps octets low =
    let behind = length-drop 2 (header octets) in
    let front = length-take (indicator octets + 1) octets in (
      low_must _ (fault_at causes.Short 0) (omega arith),
      (
        low_must _ (fault_at causes.Length 1) (omega arith),
        (low_must _ (fault_at causes.Code 2) (omega arith), low_parts octets (drop 2 (header octets)) (omega (arith, behind, front, low))),
      ),
    )

pub fault_low : (octets : List ℕ) (fault : UdFault) → AreOctets octets → IsUdFault octets fault → fault.place < 65536
unfolding first_fault
fault_low octets fault h is =
    let first = octet_at octets 0 h in
    let all : Low (first_failing (steps octets)) = first_low (steps octets) (low_steps octets first) in
    let here : Low (Some fault) = subst Low is all in
    omega (arith, here)
