-- Tables of what must hold, in the order in which a standard looks at it, and the first entry that fails.
use Rattle.std.specs.Prelude.{Bool, List, [], ◌∷◌, Option, Some, None, if◌then◌else◌}

-- what must hold, and the fault where it does not
abbrev pub must : {F : Type 0} → Bool → F → Option F
must holds fault = if holds then None else Some fault

-- the earlier of two faults
abbrev pub or_else : {F : Type 0} → Option F → Option F → Option F
or_else None later = later
or_else (Some fault) later = Some fault

-- the fault of the first entry that fails
abbrev pub first_failing : {F : Type 0} → List (Option F) → Option F
first_failing [] = None
first_failing (step ∷ steps) = or_else step (first_failing steps)
