-- What is known of a window, so that nothing has to look at each of its DTs.
use Rattle.std.specs.Prelude.{◌≡◌, ℕ, List, Option, Some, None}
use Rattle.tp4_sending.specs.declared.tries.Tries.{Tries}
use Rattle.tp4_sending.specs.Pieces.{least_due}

-- the first tick at which one is due, where it is known
abbrev pub IsKnown : ℕ → List Tries → Option (Option ℕ) → Type 0
IsKnown t1 window None = Unit {0}
IsKnown t1 window (Some due) = due ≡ least_due t1 window
