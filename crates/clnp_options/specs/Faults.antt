-- What is wrong with an options part: the first fault in order (X.233, reason for discard).
use Rattle.std.specs.Prelude.{◌≡◌, ℕ, ◌+◌, ◌<◌, ◌==◌, All, List, [], ◌∷◌, ◌++◌, length, Bool, true, false, not, ◌&&◌, nat_lt, nat_le, if◌then◌else◌, option_map, Option, Some, None}
use Rattle.pdu_parts.specs.FirstFault.{must, first_failing}
use Rattle.pdu_parts.specs.Parameter.{Parameter, spelled_one, spelled, parameters_in}
use Rattle.clnp_options.specs.declared.reason.Fault.{Fault}
use Rattle.clnp_options.specs.declared.reason.PduKind.{PduKind}
use Rattle.clnp_options.specs.declared.reason.PduKind.TheVariants.{Dt, Er}
use Rattle.clnp_options.specs.declared.reason.Reason.{Reason}
use Rattle.clnp_options.specs.declared.reason.Reason.TheVariants.{HeaderSyntax, DuplicateOption, SourceRoutingSyntax, UnsupportedOption, UnsupportedSecurity}
use Rattle.clnp_options.specs.Options.{has}
use Rattle.clnp_options.specs.Grammar.{IsKnown, IsOnce}
use Rattle.clnp_options.specs.SourceRoute.{is_source_route}
use Rattle.clnp_options.specs.Recording.{is_recording}

-- a fault at a place. Whether it is reportable is for the header to say
abbrev pub fault_at : ℕ → Reason → Fault
fault_at place reason = record { reason = reason; place = place; reportable = false }

-- what must hold of a reason for discard: only an error report gives one
abbrev pub discard_step : PduKind → List ℕ → Option Reason
discard_step Dt value = Some UnsupportedOption
discard_step Er value = must (length value == 2) HeaderSyntax

-- what must hold of an option by itself, by its code
unfoldable pub value_step : PduKind → Parameter → Option Reason
value_step kind option =
    if option.code == 0xcc then None
    else if option.code == 0xc5 then Some UnsupportedSecurity
    else if option.code == 0xc8 then must (is_source_route option.value) SourceRoutingSyntax
    else if option.code == 0xcb then must (is_recording option.value) HeaderSyntax
    else if option.code == 0xc3 then must (nat_lt 0 (length option.value)) HeaderSyntax
    else if option.code == 0xcd then must (length option.value == 1) HeaderSyntax
    else if option.code == 0xc1 then discard_step kind option.value
    else Some UnsupportedOption

-- the code stood before, padding excepted
abbrev pub is_repeated : List Parameter → ℕ → Bool
is_repeated before code = not (code == 0xcc) && has code before

-- the steps of options that stand after others, the first of them at that place: of each its code, and then its value
unfoldable pub each_steps : PduKind → ℕ → List Parameter → List Parameter → List (Option Fault)
each_steps kind place before [] = []
each_steps kind place before (option ∷ options) =
    must (not (is_repeated before option.code)) (fault_at place DuplicateOption)
    ∷ option_map (fault_at place) (value_step kind option)
    ∷ each_steps kind (place + (length option.value + 2)) (before ++ option ∷ []) options

-- an error report gives its reason
abbrev pub gives_reason : PduKind → List Parameter → Bool
gives_reason Dt options = true
gives_reason Er options = has 0xc1 options

-- The steps of an options part whose first octet has that place in the header: option by option, then that no octet
-- is left behind the options, and then that no option is missing.
abbrev pub steps : PduKind → ℕ → List ℕ → List (Option Fault)
steps kind first octets =
    let options = parameters_in octets in
    each_steps kind first [] options
    ++ must (nat_le (length octets) (length (spelled options))) (fault_at (first + length (spelled options)) HeaderSyntax)
    ∷ must (gives_reason kind options) (fault_at 0 HeaderSyntax)
    ∷ []

-- the fault of the first step that fails
unfoldable pub first_fault : PduKind → ℕ → List ℕ → Option Fault
first_fault kind first octets = first_failing (steps kind first octets)

abbrev pub IsOptionsFault : PduKind → ℕ → List ℕ → Fault → Type 0
IsOptionsFault kind first octets fault = first_fault kind first octets ≡ Some fault

-- What is wrong where options without a fault end: no option fits, its code stood before, its value is not of its form,
-- or the reason of an error report is missing.
pub data IsFaultAfter (kind : PduKind) (place : ℕ) (before : List Parameter) (rest : List ℕ) (fault : Fault) : Type 0 where
  Unfit : 0 < length rest → ((option : Parameter) (after : List ℕ) → rest ≡ spelled_one option ++ after → ⊥)
      → fault ≡ fault_at place HeaderSyntax → IsFaultAfter kind place before rest fault
  Twice : (option : Parameter) (after : List ℕ) → rest ≡ spelled_one option ++ after → has option.code before ≡ true → (option.code ≡ 0xcc → ⊥)
      → fault ≡ fault_at place DuplicateOption → IsFaultAfter kind place before rest fault
  Unknown : (option : Parameter) (after : List ℕ) (reason : Reason) → rest ≡ spelled_one option ++ after → (has option.code before ≡ true → option.code ≡ 0xcc)
      → value_step kind option ≡ Some reason → fault ≡ fault_at place reason → IsFaultAfter kind place before rest fault
  Missing : rest ≡ [] → kind ≡ Er → has 0xc1 before ≡ false → fault ≡ fault_at 0 HeaderSyntax → IsFaultAfter kind place before rest fault

-- The octets begin with options that have no fault, and what stands after them has this one.
pub record IsFirstFault (kind : PduKind) (first : ℕ) (octets : List ℕ) (fault : Fault) : Type 0 where
  pub before : List Parameter
  pub rest : List ℕ
  pub parts : octets ≡ spelled before ++ rest
  pub known : All (IsKnown kind) before
  pub once : IsOnce before
  pub fails : IsFaultAfter kind (first + length (spelled before)) before rest fault
