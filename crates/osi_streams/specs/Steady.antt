-- What the contract of a reader or a writer knows of its octets.
use Rattle.std.specs.Prelude.{◌≡◌, ◌⊎◌, ℕ, List, Option, Some, None}

-- the octets of no value are known, or those of every value are
abbrev pub IsSteady : {T : Type 0} → (T → Option (List ℕ)) → Type 0
IsSteady {T} known = ((value : T) → known value ≡ None) ⊎ ((value : T) → (octets : List ℕ) × (known value ≡ Some octets))
