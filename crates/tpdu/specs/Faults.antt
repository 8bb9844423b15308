-- The faults of a TPDU in the order in which they are looked for (X.224, treatment of invalid TPDUs).
use Rattle.std.specs.Prelude.{◌≡◌, ◌==◌, ◌&&◌, ◌||◌, not, ℕ, ◌+◌, ◌*◌, ◌/◌, false, nat_lt, nat_le, List, [], ◌∷◌, length, take, drop, slice_index, Option, Some, None, is_some, is_none, option_map, unwrap_or, if◌then◌else◌}
use Rattle.osi_base.specs.Fletcher.{is_sealed}
use Rattle.pdu_parts.specs.FirstFault.{must, first_failing}
use Rattle.pdu_parts.specs.Parameter.{Parameter, parameters_in, left_in}
use Rattle.tpdu.specs.declared.fault.TpduCause.{TpduCause}
use Rattle.tpdu.specs.declared.fault.TpduCause.TheVariants.{Short, Length, Code, Fixed, Class, Param, Checksum, Body}
use Rattle.tpdu.specs.declared.fault.TpduFault.{TpduFault}
use Rattle.tpdu.specs.declared.kind.Kind.{Kind}
use Rattle.tpdu.specs.declared.tpdu.Format.{Format}
use Rattle.tpdu.specs.declared.tpdu.Format.TheVariants.{Normal}
use Rattle.tpdu.specs.Kinds.{kind_of, fixed_count, is_request, is_connect, takes_rest, data_suits}
use Rattle.tpdu.specs.Parameters.{trouble, sum_place}
use Rattle.tpdu.specs.Values.{format_for}

-- the length indicator, and the header up to where it says
abbrev pub indicator : List ℕ → ℕ
indicator octets = slice_index octets 0

abbrev pub header : List ℕ → List ℕ
header octets = take (indicator octets + 1) octets

-- the octets behind the header
abbrev pub behind : List ℕ → List ℕ
behind octets = drop (indicator octets + 1) octets

-- the header behind the code, at whose front all but a CR have a destination reference
abbrev pub reference : List ℕ → Option ℕ
reference (high ∷ low ∷ rest) = Some (high * 256 + low)
reference _ = None

abbrev pub format_at : List ℕ → Kind → List ℕ → Format
format_at extended kind fields = if is_request kind then Normal else format_for extended (reference fields)

-- the octets of the TPDU
abbrev pub whole : Kind → List ℕ → List ℕ
whole kind octets = if takes_rest kind then octets else header octets

abbrev pub body_of : Kind → List ℕ → List ℕ
body_of kind octets = if takes_rest kind then behind octets else []

-- a fault with its place
abbrev pub fault_at : TpduCause → ℕ → TpduFault
fault_at cause place = record { cause = cause; place = place }

-- a parameter at the place
abbrev pub parameter_step : Kind → ℕ → Parameter → Option TpduFault
parameter_step kind place p = option_map (λ cause. fault_at cause place) (trouble kind p)

-- parameters that begin at the place, one after another, and what is left behind those that stand whole
abbrev pub parameter_steps : Kind → ℕ → List Parameter → List ℕ → List (Option TpduFault)
parameter_steps kind place [] left = must (length left == 0) (fault_at Param place) ∷ []
parameter_steps kind place (p ∷ ps) left = parameter_step kind place p ∷ parameter_steps kind (place + (2 + length p.value)) ps left

-- the steps where the kind is known, with the header behind the code and the octets of its fixed part
abbrev pub kind_steps : Kind → List ℕ → List ℕ → ℕ → List (Option TpduFault)
kind_steps kind octets fields count =
    let parameters = parameters_in (drop count fields) in
    let sum = sum_place (3 + count) parameters in
    must (nat_le count (length fields)) (fault_at Fixed 1)
    ∷ must (not (is_connect kind) || (slice_index fields 4 / 16 == 4)) (fault_at Class 7)
    ∷ first_failing (parameter_steps kind (3 + count) parameters (left_in (drop count fields)))
    ∷ must (is_none sum || is_sealed (whole kind octets)) (fault_at Checksum (unwrap_or sum 0))
    ∷ must (not (is_request kind) || is_some sum) (fault_at Checksum 0)
    ∷ must (data_suits kind (length (body_of kind octets))) (fault_at Body (indicator octets + 2))
    ∷ []

abbrev pub steps_of : List ℕ → List ℕ → Option Kind → List (Option TpduFault)
steps_of extended octets None = must false (fault_at Code 2) ∷ []
steps_of extended octets (Some kind) =
    let fields = drop 2 (header octets) in kind_steps kind octets fields (fixed_count kind (format_at extended kind fields))

-- what must hold, in the order of the causes
abbrev pub steps : List ℕ → List ℕ → List (Option TpduFault)
steps extended octets =
    must (nat_le 2 (length octets)) (fault_at Short 0)
    ∷ must (nat_le 1 (indicator octets) && nat_le (indicator octets) 254 && nat_lt (indicator octets) (length octets)) (fault_at Length 1)
    ∷ steps_of extended octets (kind_of (slice_index octets 1))

unfoldable pub first_fault : List ℕ → List ℕ → Option TpduFault
first_fault extended octets = first_failing (steps extended octets)

-- this is the first fault
abbrev pub IsTpduFault : List ℕ → List ℕ → TpduFault → Type 0
IsTpduFault extended octets fault = first_fault extended octets ≡ Some fault
