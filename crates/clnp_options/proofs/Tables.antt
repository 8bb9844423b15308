-- The table of steps and the walk over the options have the same first fault: an option's two steps are its reason, and what is asked at the end is the same.
use Rattle.std.proofs.Common.{◌≡◌, ℕ, ◌+◌, cond, not, Bool, true, false, List, [], ◌∷◌, ◌++◌, length, Option, Some, None, option_map, refl, ap, ◌∙◌, inl, inr}
use Rattle.std.specs.Prelude.{nat_le, nat_lt}
use Rattle.std.proofs.lemmas.Bool.{le-leb, lt-leb, lt-ltb, le-ltb, cases_lt}
use Rattle.pdu_parts.specs.FirstFault.{must, or_else, first_failing}
use Rattle.pdu_parts.specs.Parameter.{Parameter, spelled, parameters_in}
use Rattle.clnp_options.specs.declared.reason.Fault.{Fault}
use Rattle.clnp_options.specs.declared.reason.PduKind.{PduKind}
use Rattle.clnp_options.specs.declared.reason.PduKind.TheVariants.{Dt, Er}
use Rattle.clnp_options.specs.declared.reason.Reason.{Reason}
use Rattle.clnp_options.specs.declared.reason.Reason.TheVariants.{HeaderSyntax, DuplicateOption}
use Rattle.clnp_options.specs.Options.{has}
use Rattle.clnp_options.specs.Faults.{fault_at, is_repeated, value_step, each_steps, gives_reason, first_fault}
use Rattle.clnp_options.specs.steps.Walking.{option_reason, each_fault, cut_fault, missing_fault, fault_after, walked_fault}

option_agrees : (repeated : Bool) (place : ℕ) (value : Option Reason) (rest later all : Option Fault) → all ≡ or_else rest later
    → or_else (must (not repeated) (fault_at place DuplicateOption)) (or_else (option_map (fault_at place) value) all)
    ≡ or_else (or_else (option_map (fault_at place) (cond repeated (Some DuplicateOption) value)) rest) later
option_agrees true place value rest later all same = refl
option_agrees false place None rest later all same = same
option_agrees false place (Some reason) rest later all same = refl

each_agrees : (kind : PduKind) (place : ℕ) (before options : List Parameter) (later : List (Option Fault))
    → first_failing (each_steps kind place before options ++ later) ≡ or_else (each_fault kind place before options) (first_failing later)
unfolding each_steps each_fault option_reason
each_agrees kind place before [] later = refl
each_agrees kind place before (option ∷ options) later =
    let next : ℕ = place + (length option.value + 2) in
    option_agrees (is_repeated before option.code) place (value_step kind option) (each_fault kind next (before ++ option ∷ []) options) (first_failing later) _
    (each_agrees kind next (before ++ option ∷ []) options later)

cut_agrees : (a b : ℕ) (fault : Fault) → must (nat_le a b) fault ≡ cond (nat_lt b a) (Some fault) None
cut_agrees a b fault =
    elim (cases_lt b a) [
      | inl lt ↦ rw (lt-leb a b lt, lt-ltb b a lt) refl
      | inr le ↦ rw (le-leb a b le, le-ltb b a le) refl
    ]

reason_agrees : (there : Bool) (fault : Fault) → or_else (must there fault) None ≡ cond there None (Some fault)
reason_agrees true fault = refl
reason_agrees false fault = refl

missing_agrees : (kind : PduKind) (options : List Parameter) → or_else (must (gives_reason kind options) (fault_at 0 HeaderSyntax)) None ≡ missing_fault kind options
missing_agrees Dt options = refl
missing_agrees Er options = reason_agrees (has 0xc1 options) (fault_at 0 HeaderSyntax)

pub walk_agrees : (kind : PduKind) (first : ℕ) (octets : List ℕ) → first_fault kind first octets ≡ walked_fault kind first octets
unfolding first_fault fault_after
walk_agrees kind first octets =
    let options = parameters_in octets in
    let cut : Fault = fault_at (first + length (spelled options)) HeaderSyntax in
    each_agrees kind first [] options (must (nat_le (length octets) (length (spelled options))) cut ∷ must (gives_reason kind options) (fault_at 0 HeaderSyntax) ∷ [])
    ∙ ap (λ (f : Option Fault). or_else (each_fault kind first [] options) (or_else f (or_else (must (gives_reason kind options) (fault_at 0 HeaderSyntax)) None))) (cut_agrees (length octets) (length (spelled options)) cut)
    ∙ ap (λ (f : Option Fault). or_else (each_fault kind first [] options) (or_else (cut_fault first octets options) f)) (missing_agrees kind options)
