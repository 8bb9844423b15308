-- The place of a fault lies in the header of the TPDU, or behind it.
use Rattle.std.proofs.Common.{◌≡◌, ◌≤◌, ◌<◌, ℕ, ◌+◌, Bool, true, false, List, [], ◌∷◌, ◌++◌, length, drop, Option, Some, None, ap, arith, subst, if◌then◌else◌, length-append}
use Rattle.std.specs.Prelude.{◌==◌, IfSome, slice_index, unwrap_or, option_map}
use Rattle.std.specs.List.{AllByRecursion}
use Rattle.std.specs.Option.{option_or}
use Rattle.std.proofs.lemmas.List.{length-drop, length-take}
use Rattle.pdu_parts.specs.FirstFault.{first_failing, must}
use Rattle.pdu_parts.specs.Parameter.{Parameter, left_in, parameters_in, spelled}
use Rattle.law_carrier_answers.specs.Answers.{AreOctets}
use Rattle.tpdu.specs.declared.fault.TpduCause.{TpduCause}
use Rattle.tpdu.specs.declared.fault.TpduCause.TheVariants as causes
use Rattle.tpdu.specs.declared.fault.TpduFault.{TpduFault}
use Rattle.tpdu.specs.declared.kind.Kind.{Kind}
use Rattle.tpdu.specs.declared.kind.Kind.TheVariants as kinds
use Rattle.tpdu.specs.declared.tpdu.Format.{Format}
use Rattle.tpdu.specs.declared.tpdu.Format.TheVariants as formats
use Rattle.tpdu.specs.Faults.{IsTpduFault, fault_at, first_fault, format_at, header, indicator, kind_steps, parameter_steps, steps, steps_of}
use Rattle.tpdu.specs.Kinds.{fixed_count, kind_of}
use Rattle.tpdu.specs.Parameters.{sum_place, trouble}
use Rattle.tpdu.proofs.Splits.{spelled-parameters}
use Rattle.law_tp4_proper.proofs.Octets.{octet_at}

abbrev Low : Option TpduFault → Type 0
Low step = IfSome step (λ found. found.place < 1024)

first_low : (all : List (Option TpduFault)) → AllByRecursion Low all → Low (first_failing all)
first_low [] h = tt
first_low (None ∷ all) h = first_low all h.1
first_low (Some found ∷ all) h = h.0

low_must : (holds : Bool) (found : TpduFault) → found.place < 1024 → Low (must holds found)
low_must true found h = tt
low_must false found h = h

low_trouble : (place : ℕ) (why : Option TpduCause) → place < 1024 → Low (option_map (λ (cause : TpduCause). fault_at cause place) why)
low_trouble place None h = tt
low_trouble place (Some cause) h = h

pub spelled_more : (p : Parameter) (ps : List Parameter) → length (spelled (p ∷ ps)) ≡ 2 + length p.value + length (spelled ps)
spelled_more p ps = let both = length-append p.value (spelled ps) in omega (arith, both)

low_parameters : (kind : Kind) (place : ℕ) (ps : List Parameter) (left : List ℕ) → place + length (spelled ps) < 1024 → AllByRecursion Low (parameter_steps kind place ps left)
low_parameters kind place [] left h = (low_must (length left == 0) (fault_at causes.Param place) (omega (arith, h)), tt)
low_parameters kind place (p ∷ ps) left h =
    let more = spelled_more p ps in (
      low_trouble place (trouble kind p) (omega (arith, h)),
      low_parameters kind (place + (2 + length p.value)) ps left (omega (arith, h, more)),
    )

either_low : (one other : Option ℕ) → IfSome one (λ place. place < 1024) → IfSome other (λ place. place < 1024) → IfSome (option_or one other) (λ place. place < 1024)
either_low None other h k = k
either_low (Some place) other h k = h

if_low : (test : Bool) (place : ℕ) → place < 1024 → IfSome (if test then Some place else None) (λ place. place < 1024)
if_low true place h = h
if_low false place h = tt

pub low_sum : (place : ℕ) (ps : List Parameter) → place + length (spelled ps) < 1024 → IfSome (sum_place place ps) (λ place. place < 1024)
low_sum place [] h = tt
low_sum place (p ∷ ps) h =
    let more = spelled_more p ps in
    either_low (sum_place (place + (2 + length p.value)) ps) (if p.code == 0xC3 then Some (place + 2) else None)
    (low_sum (place + (2 + length p.value)) ps (omega (arith, h, more))) (if_low (p.code == 0xC3) (place + 2) (omega (arith, h, more)))

pub or_nought : (found : Option ℕ) → IfSome found (λ place. place < 1024) → unwrap_or found 0 < 1024
or_nought None h = omega arith
or_nought (Some place) h = h

few_fixed : (kind : Kind) (width : Format) → fixed_count kind width ≤ 8
few_fixed kinds.Cr width = omega arith
few_fixed kinds.Dt formats.Normal = omega arith
few_fixed kinds.Dt formats.Extended = omega arith
few_fixed kinds.Ed formats.Normal = omega arith
few_fixed kinds.Ed formats.Extended = omega arith
few_fixed kinds.Ak formats.Normal = omega arith
few_fixed kinds.Ak formats.Extended = omega arith
few_fixed kinds.Ea formats.Normal = omega arith
few_fixed kinds.Ea formats.Extended = omega arith
few_fixed other width = omega arith

low_kind : (kind : Kind) (octets fields : List ℕ) (count : ℕ) → indicator octets < 256 → length fields < 256 → count ≤ 8 → AllByRecursion Low (kind_steps kind octets fields count)
low_kind kind octets fields count low short few =
    let ps = parameters_in (drop count fields) in
    let left = left_in (drop count fields) in
    let whole : length (spelled ps ++ left) ≡ length (drop count fields) = ap length (spelled-parameters (drop count fields)) in
    let both = length-append (spelled ps) left in
    let behind = length-drop count fields in
    let within : 3 + count + length (spelled ps) < 1024 = omega (arith, whole, both, behind, short, few) in
    let sum = low_sum (3 + count) ps within in (
      low_must _ (fault_at causes.Fixed 1) (omega arith),
      (
        low_must _ (fault_at causes.Class 7) (omega arith),
        (
          first_low _ (low_parameters kind (3 + count) ps left within),
          (low_must _ (fault_at causes.Checksum (unwrap_or (sum_place (3 + count) ps) 0)) (or_nought _ sum), (low_must _ (fault_at causes.Checksum 0) (omega arith), (low_must _ (fault_at causes.Body (indicator octets + 2)) (omega (arith, low)), tt))),
        ),
      ),
    )

low_of : (extended octets : List ℕ) (kind : Option Kind) → indicator octets < 256 → AllByRecursion Low (steps_of extended octets kind)
low_of extended octets None low = (low_must false (fault_at causes.Code 2) (omega arith), tt)
low_of extended octets (Some kind) low =
    let fields = drop 2 (header octets) in
    let behind = length-drop 2 (header octets) in
    let front = length-take (indicator octets + 1) octets in
    low_kind kind octets fields (fixed_count kind (format_at extended kind fields)) low (omega (arith, behind, front, low)) (few_fixed kind (format_at extended kind fields))

pub fault_low : (extended octets : List ℕ) (fault : TpduFault) → AreOctets octets → IsTpduFault extended octets fault → fault.place < 65536
unfolding first_fault
fault_low extended octets fault h is =
    let first = octet_at octets 0 h in
    let all : Low (first_failing (steps extended octets)) = first_low (steps extended octets) (low_must _ (fault_at causes.Short 0) (omega arith), (low_must _ (fault_at causes.Length 1) (omega arith), low_of extended octets (kind_of (slice_index octets 1)) first)) in
    let here : Low (Some fault) = subst Low is all in
    omega (arith, here)
