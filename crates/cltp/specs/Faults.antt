-- The faults of a UD in the order in which they are looked for (X.234, treatment of invalid TPDUs).
use Rattle.std.specs.Prelude.{◌≡◌, ◌==◌, ◌&&◌, ◌||◌, ℕ, ◌+◌, nat_lt, nat_le, List, [], ◌∷◌, length, drop, slice_index, Option, Some, is_some, is_none, option_map, unwrap_or}
use Rattle.osi_base.specs.Fletcher.{is_sealed}
use Rattle.pdu_parts.specs.FirstFault.{must, first_failing}
use Rattle.pdu_parts.specs.Parameter.{Parameter, parameters_in, left_in}
use Rattle.tpdu.specs.Faults.{indicator, header}
use Rattle.tpdu.specs.Parameters.{last_value, sum_place}
use Rattle.script_journal.specs.declared.cause.UdCause.{UdCause}
use Rattle.script_journal.specs.declared.cause.UdCause.TheVariants.{Short, Length, Code, Param, Missing, Checksum}
use Rattle.cltp.specs.declared.fault.UdFault.{UdFault}
use Rattle.cltp.specs.Parameters.{trouble}

-- a fault with its place
abbrev pub fault_at : UdCause → ℕ → UdFault
fault_at cause place = record { cause = cause; place = place }

-- a parameter at the place
abbrev pub parameter_step : ℕ → Parameter → Option UdFault
parameter_step place p = option_map (λ cause. fault_at cause place) (trouble p)

-- parameters that begin at the place, one after another, and what is left behind those that stand whole
abbrev pub parameter_steps : ℕ → List Parameter → List ℕ → List (Option UdFault)
parameter_steps place [] left = must (length left == 0) (fault_at Param place) ∷ []
parameter_steps place (p ∷ ps) left = parameter_step place p ∷ parameter_steps (place + (2 + length p.value)) ps left

-- the steps behind the code, with the parameters and what is left behind them
abbrev pub parameters_steps : List ℕ → List Parameter → List ℕ → List (Option UdFault)
parameters_steps octets parameters left =
    first_failing (parameter_steps 3 parameters left)
    ∷ must (is_some (last_value 0xC1 parameters) && is_some (last_value 0xC2 parameters)) (fault_at Missing 0)
    ∷ must (is_none (sum_place 3 parameters) || is_sealed octets) (fault_at Checksum (unwrap_or (sum_place 3 parameters) 0))
    ∷ []

-- what must hold, in the order of the causes
abbrev pub steps : List ℕ → List (Option UdFault)
steps octets =
    must (nat_le 2 (length octets)) (fault_at Short 0)
    ∷ must (nat_le 1 (indicator octets) && nat_le (indicator octets) 254 && nat_lt (indicator octets) (length octets)) (fault_at Length 1)
    ∷ must (slice_index octets 1 == 0x40) (fault_at Code 2)
    ∷ parameters_steps octets (parameters_in (drop 2 (header octets))) (left_in (drop 2 (header octets)))

unfoldable pub first_fault : List ℕ → Option UdFault
first_fault octets = first_failing (steps octets)

-- this is the first fault
abbrev pub IsUdFault : List ℕ → UdFault → Type 0
IsUdFault octets fault = first_fault octets ≡ Some fault
