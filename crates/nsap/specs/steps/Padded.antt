-- A list of up to twenty octets in an array of twenty.
use Rattle.std.specs.Prelude.{◌≡◌, ◌≤◌, ℕ, ◌-◌, List, ◌++◌, length, take, replicate}

-- the list and zeros after it, twenty in all
abbrev pub padded : List ℕ → List ℕ
padded octets = octets ++ replicate (20 - length octets) 0

-- so many octets of an array of twenty count, and the others are 0
pub record IsPadded (count : ℕ) (octets : List ℕ) : Type 0 where
  pub fits : count ≤ 20
  pub room : length octets ≡ 20
  pub zeros : octets ≡ padded (take count octets)
