-- Steps that give no fault that is reportable: where the first fault is reportable, each of them holds, and it is that of the steps behind.
use Rattle.std.proofs.Common.{◌≡◌, Bool, true, false, List, [], ◌∷◌, ◌++◌, Option, Some, None, refl, ap}
use Rattle.std.specs.Prelude.{IfSome, IsSome, is_some, not}
use Rattle.std.specs.List.{AllByRecursion}
use Rattle.pdu_parts.specs.FirstFault.{first_failing, must}
use Rattle.clnp_options.specs.declared.reason.Fault.{Fault}

-- a step whose fault is not reportable
pub IsQuiet : Option Fault → Type 0
IsQuiet step = IfSome step (λ fault. fault.reportable ≡ false)

pub quiet_must : (holds : Bool) (fault : Fault) → fault.reportable ≡ false → IsQuiet (must holds fault)
unfolding IsQuiet
quiet_must true fault e = tt
quiet_must false fault e = e

pub first_of_rest : (step : Option Fault) (steps : List (Option Fault)) (fault : Fault) → IsQuiet step → fault.reportable ≡ true → first_failing (step ∷ steps) ≡ Some fault
    → (step ≡ None) × (first_failing steps ≡ Some fault)
unfolding IsQuiet
first_of_rest None steps fault quiet wanted is = (refl, is)
first_of_rest (Some other) steps fault quiet wanted is =
    let same : other ≡ fault = cc in let e : other.reportable ≡ fault.reportable = ap (λ (f : Fault). f.reportable) same in absurd cc

pub quiet_front : (front rest : List (Option Fault)) (fault : Fault) → AllByRecursion IsQuiet front → fault.reportable ≡ true → first_failing (front ++ rest) ≡ Some fault
    → AllByRecursion (λ step. step ≡ None) front
quiet_front [] rest fault quiet wanted is = tt
quiet_front (step ∷ front) rest fault quiet wanted is =
    let here = first_of_rest step (front ++ rest) fault quiet.0 wanted is in (here.0, quiet_front front rest fault quiet.1 wanted here.1)

pub holds : (is : Bool) (fault : Fault) → must is fault ≡ None → is ≡ true
holds true fault e = refl
holds false fault e = absurd cc

pub some_there : {X : Type 0} (option : Option X) → is_some option ≡ true → IsSome option
some_there None e = absurd cc
some_there (Some x) e = refl

pub reportable : (b : Bool) → not b ≡ false → b ≡ true
reportable true e = refl
reportable false e = absurd cc
