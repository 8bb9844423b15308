-- A pass over the parameters, one step at a time: what it found so far, followed by what it finds in the octets that are left, is what
-- it finds in all of them.
use Rattle.std.proofs.Common.{◌≡◌, ℕ, ◌+◌, ◌<◌, List, [], ◌∷◌, length, Option, Some, None, Result, Ok, Err, refl, ap, subst, arith}
use Rattle.pdu_parts.specs.FirstFault.{first_failing}
use Rattle.pdu_parts.specs.Parameter.{Parameter, front_parameter, parameters_in, left_in}
use Rattle.pdu_parts.proofs.Readings.{unless}
use Rattle.tpdu.proofs.Checks.{option_or-assoc, option_or-none}
use Rattle.tpdu.proofs.Parts.{some_left}
use Rattle.tpdu.proofs.Splits.{parameters-front, parameters-none}
use Rattle.script_journal.specs.declared.cause.UdCause.{UdCause}
use Rattle.cltp.specs.declared.fault.UdFault.{UdFault}
use Rattle.cltp.specs.Faults.{parameter_steps}
use Rattle.cltp.specs.Parameters.{trouble}
use Rattle.cltp.specs.steps.Reading.{Values, values_of, or_before, value_at, with_parameter, judged, parameter_by, parameter_at, checked}

before-assoc : (a b c : Values) → or_before (or_before a b) c ≡ or_before a (or_before b c)
before-assoc a b c = λ i. record {
  source = option_or-assoc a.source b.source c.source i;
  destination = option_or-assoc a.destination b.destination c.destination i;
  sum = option_or-assoc a.sum b.sum c.sum i;
}

before-none : (a : Values) → or_before a (record { source = None; destination = None; sum = None }) ≡ a
before-none a = λ i. record { source = option_or-none a.source i; destination = option_or-none a.destination i; sum = option_or-none a.sum i }

abbrev pub goes_on : Values → ℕ → List ℕ → Result Values UdFault
goes_on values place left =
    unless (first_failing (parameter_steps place (parameters_in left) (left_in left))) (or_before (values_of place (parameters_in left)) values)

judged_ok : (place : ℕ) (found x : Parameter × List ℕ) (t : Option UdCause) → judged place found t ≡ Ok x → (t ≡ None) × (found ≡ x)
judged_ok place found x None e = (refl, cc)
judged_ok place found x (Some cause) e = absurd cc

parameter_by-ok : (place : ℕ) (o : Option (Parameter × List ℕ)) (x : Parameter × List ℕ) → parameter_by place o ≡ Ok x → (o ≡ Some x) × (trouble x.0 ≡ None)
parameter_by-ok place None x e = absurd cc
parameter_by-ok place (Some found) x e =
    let j = judged_ok place found x (trouble found.0) e in
    (ap Some j.1, subst (λ (y : Parameter × List ℕ). trouble y.0 ≡ None) j.1 j.0)

parameter_at-ok : (place : ℕ) (left : List ℕ) (x : Parameter × List ℕ) → parameter_at place left ≡ Ok x → (front_parameter left ≡ Some x) × (trouble x.0 ≡ None)
unfolding parameter_at
parameter_at-ok place left x e = parameter_by-ok place (front_parameter left) x e

pub goes_on-front : (values : Values) (place : ℕ) (left : List ℕ) (x : Parameter × List ℕ) → parameter_at place left ≡ Ok x
    → goes_on values place left ≡ goes_on (with_parameter place x.0 values) (place + (2 + length x.0.value)) x.1
goes_on-front values place left x e =
    let ok = parameter_at-ok place left x e in
    let later = place + (2 + length x.0.value) in
    let front = parameters-front left x ok.0 in
    rw (front.0, front.1, ok.1)
    (ap (unless (first_failing (parameter_steps later (parameters_in x.1) (left_in x.1)))) (before-assoc (values_of later (parameters_in x.1)) (value_at place x.0) values))

pub goes_on-fault : (values : Values) (place : ℕ) (left : List ℕ) (f : UdFault) → 0 < length left → parameter_at place left ≡ Err f → goes_on values place left ≡ Err f
unfolding parameter_at
goes_on-fault values place [] f some e = absurd (omega arith)
goes_on-fault values place (octet ∷ octets) f some e = by (front_parameter (octet ∷ octets)) refl e
  where
    by_trouble : (x : Parameter × List ℕ) → front_parameter (octet ∷ octets) ≡ Some x → (t : Option UdCause) → trouble x.0 ≡ t → judged place x t ≡ Err f → goes_on values place (octet ∷ octets) ≡ Err f
    by_trouble x o None t e = absurd cc
    by_trouble x o (Some cause) t e = let front = parameters-front (octet ∷ octets) x o in rw (front.0, front.1, t) cc

    by : (o : Option (Parameter × List ℕ)) → front_parameter (octet ∷ octets) ≡ o → parameter_by place o ≡ Err f → goes_on values place (octet ∷ octets) ≡ Err f
    by None o e = let none = parameters-none (octet ∷ octets) o in rw (none.0, none.1, some_left octet octets) cc
    by (Some x) o e = by_trouble x o (trouble x.0) refl e

pub goes_on-end : (values : Values) (place : ℕ) (left : List ℕ) → length left ≡ 0 → goes_on values place left ≡ Ok values
goes_on-end values place [] e = let none = parameters-none [] refl in rw (none.0, none.1) refl
goes_on-end values place (octet ∷ octets) e = absurd (omega arith)

pub goes_on-start : (place : ℕ) (octets : List ℕ) → goes_on (record { source = None; destination = None; sum = None }) place octets ≡ checked place octets
unfolding checked
goes_on-start place octets = ap (unless (first_failing (parameter_steps place (parameters_in octets) (left_in octets)))) (before-none _)
