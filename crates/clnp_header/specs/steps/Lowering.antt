-- The fourth octet is lowered, and then the checksum of the header written.
use Rattle.std.specs.Prelude.{◌≡◌, ◌==◌, not, ℕ, ◌-◌, List, ◌++◌, take, drop, slice_index, slice_set}
use Rattle.clnp_header.specs.Writing.{SealsIf}

-- the octets with a lower fourth one
abbrev pub lower_fourth : List ℕ → ℕ → List ℕ
lower_fourth octets by = slice_set octets 3 (slice_index octets 3 - by)

-- the fourth octet was lowered, and then the checksum of the header written where it is used
pub record Lowers (old : List ℕ) (by : ℕ) (new : List ℕ) : Type 0 where
  pub header : List ℕ
  pub sealed : SealsIf (not (slice_index old 7 == 0)) (take (slice_index old 1) (lower_fourth old by)) header
  pub parts : new ≡ header ++ drop (slice_index old 1) (lower_fourth old by)
