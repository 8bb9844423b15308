-- A pass over the parameters, one step at a time: what it found so far, followed by what it finds in
-- the octets that are left, is what it finds in all of them.
use Rattle.std.proofs.Common.{◌≡◌, ℕ, ◌+◌, ◌<◌, cond, nat_eq, List, [], ◌∷◌, length, Option, Some, None, Result, Ok, Err, refl, sym, ap, subst, arith}
use Rattle.std.specs.Option.{option_or, option_map}
use Rattle.tpdu.specs.declared.fault.TpduCause.{TpduCause}
use Rattle.tpdu.specs.declared.fault.TpduFault.{TpduFault}
use Rattle.tpdu.specs.declared.kind.Kind.{Kind}
use Rattle.pdu_parts.specs.FirstFault.{first_failing}
use Rattle.pdu_parts.specs.Parameter.{Parameter, front_parameter, parameters_in, left_in}
use Rattle.pdu_parts.proofs.Readings.{GivesSome, unless}
use Rattle.tpdu.specs.Parameters.{trouble, sum_place, last_value}
use Rattle.tpdu.specs.Faults.{parameter_steps}
use Rattle.tpdu.specs.steps.Reading.{judged, parameter_by, parameter_at, checked}
use Rattle.tpdu.proofs.Parts.{some_left}
use Rattle.tpdu.proofs.Splits.{parameters-front, parameters-none}

-- the first that is there
pub option_or-assoc : {T : Type 0} (a b c : Option T) → option_or (option_or a b) c ≡ option_or a (option_or b c)
option_or-assoc None b c = refl
option_or-assoc (Some x) b c = refl

pub option_or-none : {T : Type 0} (a : Option T) → option_or a None ≡ a
option_or-none None = refl
option_or-none (Some x) = refl

-- what was found, seen by a view, or else what was found before
pub option_map-or : {X Y : Type 0} (view : X → Y) (found before : Option X) (seen : Option Y) → GivesSome view found seen → option_map view (option_or found before) ≡ option_or seen (option_map view before)
option_map-or view (Some x) before seen e = rw e refl
option_map-or view None before seen e = rw e refl

pub gives-option_map : {X Y : Type 0} (view : X → Y) (found : Option X) (seen : Option Y) → option_map view found ≡ seen → GivesSome view found seen
gives-option_map view (Some x) seen e = sym e
gives-option_map view None seen e = sym e

-- ---- the value of the last parameter with a code

abbrev pub last_on : ℕ → List ℕ → Option (List ℕ) → Option (List ℕ)
last_on code left found = option_or (last_value code (parameters_in left)) found

pub last_on-front : (code : ℕ) (left : List ℕ) (found : Option (List ℕ)) (x : Parameter × List ℕ) → front_parameter left ≡ Some x
    → last_on code left found ≡ last_on code x.1 (option_or (cond (nat_eq x.0.code code) (Some x.0.value) None) found)
last_on-front code left found x e =
    rw (parameters-front left x e).0 (option_or-assoc (last_value code (parameters_in x.1)) (cond (nat_eq x.0.code code) (Some x.0.value) None) found)

pub last_on-end : (code : ℕ) (left : List ℕ) (found : Option (List ℕ)) → front_parameter left ≡ None → last_on code left found ≡ found
last_on-end code left found e = rw (parameters-none left e).0 refl

-- ---- faults, and the place of the last checksum

abbrev pub goes_on : Kind → Option ℕ → ℕ → List ℕ → Result (Option ℕ) TpduFault
goes_on kind sum place left =
    unless (first_failing (parameter_steps kind place (parameters_in left) (left_in left))) (option_or (sum_place place (parameters_in left)) sum)

judged_ok : (place : ℕ) (found x : Parameter × List ℕ) (t : Option TpduCause) → judged place found t ≡ Ok x → (t ≡ None) × (found ≡ x)
judged_ok place found x None e = (refl, cc)
judged_ok place found x (Some cause) e = absurd cc

parameter_by-ok : (kind : Kind) (place : ℕ) (o : Option (Parameter × List ℕ)) (x : Parameter × List ℕ) → parameter_by kind place o ≡ Ok x → (o ≡ Some x) × (trouble kind x.0 ≡ None)
parameter_by-ok kind place None x e = absurd cc
parameter_by-ok kind place (Some found) x e =
    let j = judged_ok place found x (trouble kind found.0) e in
    (ap Some j.1, subst (λ (y : Parameter × List ℕ). trouble kind y.0 ≡ None) j.1 j.0)

pub parameter_at-ok : (kind : Kind) (place : ℕ) (left : List ℕ) (x : Parameter × List ℕ) → parameter_at kind place left ≡ Ok x → (front_parameter left ≡ Some x) × (trouble kind x.0 ≡ None)
unfolding parameter_at
parameter_at-ok kind place left x e = parameter_by-ok kind place (front_parameter left) x e

pub goes_on-front : (kind : Kind) (sum : Option ℕ) (place : ℕ) (left : List ℕ) (x : Parameter × List ℕ) → parameter_at kind place left ≡ Ok x
    → goes_on kind sum place left ≡ goes_on kind (option_or (cond (nat_eq x.0.code 0xC3) (Some (place + 2)) None) sum) (place + (2 + length x.0.value)) x.1
goes_on-front kind sum place left x e =
    let ok = parameter_at-ok kind place left x e in
    let later = place + (2 + length x.0.value) in
    let front = parameters-front left x ok.0 in
    rw (front.0, front.1, ok.1)
    (ap (unless (first_failing (parameter_steps kind later (parameters_in x.1) (left_in x.1))))
    (option_or-assoc (sum_place later (parameters_in x.1)) (cond (nat_eq x.0.code 0xC3) (Some (place + 2)) None) sum))

pub goes_on-fault : (kind : Kind) (sum : Option ℕ) (place : ℕ) (left : List ℕ) (f : TpduFault) → 0 < length left → parameter_at kind place left ≡ Err f → goes_on kind sum place left ≡ Err f
unfolding parameter_at
goes_on-fault kind sum place [] f some e = absurd (omega arith)
goes_on-fault kind sum place (octet ∷ octets) f some e = by (front_parameter (octet ∷ octets)) refl e
  where
    by_trouble : (x : Parameter × List ℕ) → front_parameter (octet ∷ octets) ≡ Some x → (t : Option TpduCause) → trouble kind x.0 ≡ t → judged place x t ≡ Err f → goes_on kind sum place (octet ∷ octets) ≡ Err f
    by_trouble x o None t e = absurd cc
    by_trouble x o (Some cause) t e = let front = parameters-front (octet ∷ octets) x o in rw (front.0, front.1, t) cc

    by : (o : Option (Parameter × List ℕ)) → front_parameter (octet ∷ octets) ≡ o → parameter_by kind place o ≡ Err f → goes_on kind sum place (octet ∷ octets) ≡ Err f
    by None o e = let none = parameters-none (octet ∷ octets) o in rw (none.0, none.1, some_left octet octets) cc
    by (Some x) o e = by_trouble x o (trouble kind x.0) refl e

pub goes_on-end : (kind : Kind) (sum : Option ℕ) (place : ℕ) (left : List ℕ) → length left ≡ 0 → goes_on kind sum place left ≡ Ok sum
goes_on-end kind sum place [] e = let none = parameters-none [] refl in rw (none.0, none.1) refl
goes_on-end kind sum place (octet ∷ octets) e = absurd (omega arith)

pub goes_on-start : (kind : Kind) (place : ℕ) (octets : List ℕ) → goes_on kind None place octets ≡ checked kind place octets
unfolding checked
goes_on-start kind place octets = ap (unless (first_failing (parameter_steps kind place (parameters_in octets) (left_in octets)))) (option_or-none _)
