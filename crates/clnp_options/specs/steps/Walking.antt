-- Reading option by option: the fault of what is left, after what was read.
use Rattle.std.specs.Prelude.{◌≡◌, ℕ, ◌+◌, List, [], ◌∷◌, ◌++◌, length, nat_lt, if◌then◌else◌, option_map, Option, Some, None, Result, Ok, Err, MatchResult}
use Rattle.pdu_parts.specs.FirstFault.{or_else}
use Rattle.pdu_parts.specs.Parameter.{Parameter, spelled, parameters_in}
use Rattle.clnp_options.specs.declared.reason.Fault.{Fault}
use Rattle.clnp_options.specs.declared.reason.PduKind.{PduKind}
use Rattle.clnp_options.specs.declared.reason.PduKind.TheVariants.{Dt, Er}
use Rattle.clnp_options.specs.declared.reason.Reason.{Reason}
use Rattle.clnp_options.specs.declared.reason.Reason.TheVariants.{HeaderSyntax, DuplicateOption}
use Rattle.clnp_options.specs.declared.option.OptionsRef.{OptionsRef}
use Rattle.clnp_options.specs.Options.{has}
use Rattle.clnp_options.specs.Faults.{fault_at, is_repeated, value_step}

-- what is wrong with an option that stands after others: its code stood before, or its value
unfoldable pub option_reason : PduKind → List Parameter → Parameter → Option Reason
option_reason kind before option =
    if is_repeated before option.code then Some DuplicateOption
    else value_step kind option

-- the first fault of options that stand after others, the first of them at that place
unfoldable pub each_fault : PduKind → ℕ → List Parameter → List Parameter → Option Fault
each_fault kind place before [] = None
each_fault kind place before (option ∷ options) =
    or_else (option_map (fault_at place) (option_reason kind before option))
    (each_fault kind (place + (length option.value + 2)) (before ++ option ∷ []) options)

-- octets are left after these options: the option there does not fit
abbrev pub cut_fault : ℕ → List ℕ → List Parameter → Option Fault
cut_fault place octets options =
    if nat_lt (length (spelled options)) (length octets) then Some (fault_at (place + length (spelled options)) HeaderSyntax) else None

-- an error report has no reason for discard
abbrev pub missing_fault : PduKind → List Parameter → Option Fault
missing_fault Dt options = None
missing_fault Er options = if has 0xc1 options then None else Some (fault_at 0 HeaderSyntax)

-- the first fault of the octets that stand after other options, the first of them at that place
unfoldable pub fault_after : PduKind → ℕ → List Parameter → List ℕ → Option Fault
fault_after kind place before octets =
    or_else (each_fault kind place before (parameters_in octets))
    (or_else (cut_fault place octets (parameters_in octets)) (missing_fault kind (before ++ parameters_in octets)))

-- the first fault of the whole
abbrev pub walked_fault : PduKind → ℕ → List ℕ → Option Fault
walked_fault kind first octets = fault_after kind first [] octets

-- a position, unless there is a reason against it
abbrev pub position_unless : ℕ → Option Reason → Result ℕ Reason
position_unless position None = Ok position
position_unless position (Some reason) = Err reason

-- the position after the option that was found, or the reason of its fault
abbrev pub position_after : PduKind → ℕ → List Parameter → Option (Parameter × List ℕ) → Result ℕ Reason
position_after kind at before None = Err HeaderSyntax
position_after kind at before (Some found) = position_unless (at + (length found.0.value + 2)) (option_reason kind before found.0)

-- the options over these octets where there is no fault, and else the first
abbrev pub Answers : PduKind → ℕ → List ℕ → Result OptionsRef Fault → Type 0
Answers kind first octets result =
    MatchResult result
    (λ options. (options.octets.now ≡ octets) × (walked_fault kind first octets ≡ None))
    (λ fault. walked_fault kind first octets ≡ Some fault)
