-- What holds of the readers' definitions, for all lists of octets.
use Rattle.std.specs.Prelude.{◌≡◌, ℕ, List, ◌++◌, Some, None}
use Rattle.pdu_parts.specs.Field.{field, IsAddress, address_at}
use Rattle.pdu_parts.specs.Parameter.{Parameter, spelled, front_parameter, parameters_in, left_in}

-- an address is found exactly where it stands behind its length
pub record ReadsAddress : Type 0 where
  pub found : (octets address rest : List ℕ) → address_at octets ≡ Some (address, rest) → IsAddress address × (octets ≡ field address ++ rest)
  pub there : (address rest : List ℕ) → IsAddress address → address_at (field address ++ rest) ≡ Some (address, rest)

-- octets are parameters and a rest at whose front none stands whole, in one way
pub record ReadsParameters : Type 0 where
  pub parts : (octets : List ℕ) → octets ≡ spelled (parameters_in octets) ++ left_in octets
  pub ends : (octets : List ℕ) → front_parameter (left_in octets) ≡ None
  pub again : (parameters : List Parameter) (rest : List ℕ) → front_parameter rest ≡ None
      → (parameters_in (spelled parameters ++ rest) ≡ parameters) × (left_in (spelled parameters ++ rest) ≡ rest)
