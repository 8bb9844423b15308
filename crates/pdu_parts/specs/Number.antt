-- Numbers of two octets, the higher one first.
use Rattle.std.specs.Prelude.{ℕ, ◌+◌, ◌*◌, ◌/◌, ◌%◌, List, [], ◌∷◌, slice_index}

-- the octets of a number
abbrev pub two_octets : ℕ → List ℕ
two_octets number = number / 256 ∷ number % 256 ∷ []

-- the number in the two octets at a position
abbrev pub number_at : ℕ → List ℕ → ℕ
number_at at octets = slice_index octets at * 256 + slice_index octets (at + 1)
