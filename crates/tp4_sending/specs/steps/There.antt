-- What may be sent again is there.
use Rattle.std.specs.Prelude.{◌≡◌, ℕ, ◌<◌, ◌≤◌, true, List, length, Option, is_some}
use Rattle.tp4_sending.specs.declared.tries.Tries.{Tries}

-- each number that was sent is below the end of the pieces, and an ED that is outstanding has its unit
pub record IsThere (end high : ℕ) (out : Option Tries) (units : List (List ℕ)) : Type 0 where
  pub pieces : high ≤ end
  pub unit : is_some out ≡ true → 0 < length units
