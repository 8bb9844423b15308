-- Parts behind their length, and addresses (X.233 and ISO 9542, address parts).
use Rattle.std.specs.Prelude.{ℕ, ◌<◌, ◌≤◌, ◌==◌, ◌||◌, nat_lt, nat_le, if◌then◌else◌, List, [], ◌∷◌, length, take, drop, Option, Some, None}

-- a length, and that many octets
abbrev pub field : List ℕ → List ℕ
field octets = length octets ∷ octets

-- an address or a title has 1 to 20 octets
pub record IsAddress (octets : List ℕ) : Type 0 where
  pub some : 0 < length octets
  pub most : length octets ≤ 20

-- the octets behind the length at the front, and those after them; none where they do not stand there whole
abbrev pub field_at : List ℕ → Option (List ℕ × List ℕ)
field_at [] = None
field_at (len ∷ rest) = if nat_le len (length rest) then Some (take len rest, drop len rest) else None

-- what was found, where it is an address
abbrev pub address_or_none : Option (List ℕ × List ℕ) → Option (List ℕ × List ℕ)
address_or_none None = None
address_or_none (Some found) = if (length found.0 == 0) || nat_lt 20 (length found.0) then None else Some (found.0, found.1)

-- the address behind its length at the front, and the octets after it
unfoldable pub address_at : List ℕ → Option (List ℕ × List ℕ)
address_at octets = address_or_none (field_at octets)
