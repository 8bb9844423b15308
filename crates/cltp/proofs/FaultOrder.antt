-- The fault of a reading is the first of the steps that fails: a step that passes leaves the later ones.
use Rattle.std.proofs.Common.{◌≡◌, ℕ, Bool, true, false, cond, not, ◌&&◌, ◌||◌, leb, ltb, nat_eq, List, [], ◌∷◌, length, drop, Option, Some, None, Ok, Err, refl}
use Rattle.std.specs.Prelude.{is_some, is_none, slice_index, unwrap_or, ⊤}
use Rattle.osi_base.specs.Fletcher.{is_sealed}
use Rattle.pdu_parts.specs.FirstFault.{must, first_failing}
use Rattle.pdu_parts.specs.Parameter.{parameters_in, left_in}
use Rattle.pdu_parts.proofs.Readings.{◌>>=◌}
use Rattle.tpdu.specs.Faults.{indicator, header, behind}
use Rattle.tpdu.specs.Parameters.{last_value, sum_place}
use Rattle.tpdu.proofs.FaultOrder.{at_least, fault_of, guard_fault, is_length, unless_fault}
use Rattle.script_journal.specs.declared.cause.UdCause.TheVariants.{Short, Length, Code, Missing, Checksum}
use Rattle.cltp.specs.declared.fault.UdFault.{UdFault}
use Rattle.cltp.specs.Faults.{fault_at, parameter_steps, parameters_steps, first_fault}
use Rattle.cltp.specs.Ud.{Ud}
use Rattle.cltp.specs.steps.Reading.{values_of, checked, head_at, Selectors, both, close_at, read_at}

not_not : (b : Bool) → b ≡ not (not b)
not_not true = refl
not_not false = refl

-- the steps behind the parameters
abbrev last_steps : Bool → Bool → Bool → Option ℕ → List (Option UdFault)
last_steps sealed source destination sum =
    must (source && destination) (fault_at Missing 0) ∷ must (is_none sum || sealed) (fault_at Checksum (unwrap_or sum 0)) ∷ []

sealed_fault : (sealed : Bool) (place : ℕ) (ud : Ud)
    → fault_of (cond sealed (Ok tt) (Err (fault_at Checksum place)) >>= (λ (done : ⊤). Ok ud)) ≡ first_failing (last_steps sealed true true (Some place))
sealed_fault true place ud = refl
sealed_fault false place ud = refl

close_fault : (from to : Option (List ℕ)) (sum : Option ℕ) (octets : List ℕ) (ud : Selectors → Ud)
    → fault_of (both from to >>= λ selectors. close_at sum octets >>= λ (done : ⊤). Ok (ud selectors)) ≡ first_failing (last_steps (is_sealed octets) (is_some from) (is_some to) sum)
unfolding close_at
close_fault (Some from) (Some to) (Some place) octets ud = sealed_fault (is_sealed octets) place (ud (record { from = from; to = to }))
close_fault from to sum octets ud = refl

-- the parameters and what is behind them
parameters_fault : (inside octets : List ℕ) (ud : Selectors → Ud)
    → fault_of (checked 3 inside >>= λ values. both values.source values.destination >>= λ selectors. close_at values.sum octets >>= λ (done : ⊤). Ok (ud selectors))
    ≡ first_failing (parameters_steps octets (parameters_in inside) (left_in inside))
unfolding checked
parameters_fault inside octets ud =
    let ps = parameters_in inside in
    unless_fault (first_failing (parameter_steps 3 ps (left_in inside))) (values_of 3 ps) _
    (last_steps (is_sealed octets) (is_some (last_value 0xC1 ps)) (is_some (last_value 0xC2 ps)) (sum_place 3 ps))
    (close_fault (last_value 0xC1 ps) (last_value 0xC2 ps) (sum_place 3 ps) octets ud)

pub fault-read : (octets : List ℕ) → fault_of (read_at octets) ≡ first_fault octets
unfolding read_at head_at first_fault
fault-read octets =
    let i = indicator octets in
    let n = length octets in
    let fits = leb 1 i && leb i 254 && ltb i n in
    let code = nat_eq (slice_index octets 1) 0x40 in
    let inside = drop 2 (header octets) in
    let later = parameters_steps octets (parameters_in inside) (left_in inside) in
    guard_fault (ltb n 2) (leb 2 n) (fault_at Short 0) _ _ (must fits (fault_at Length 1) ∷ must code (fault_at Code 2) ∷ later) (at_least 2 n) (λ long.
    guard_fault (nat_eq i 0 || ltb 254 i || leb n i) fits (fault_at Length 1) _ _ (must code (fault_at Code 2) ∷ later) (is_length i n) (λ within.
    guard_fault (not code) code (fault_at Code 2) _ _ later (not_not code) (λ is.
    parameters_fault inside octets (λ selectors. record { from = selectors.from; to = selectors.to; octets = behind octets }))))
