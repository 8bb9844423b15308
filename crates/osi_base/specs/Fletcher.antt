-- The checksum of two sums (X.233, header error detection; X.224, checksum algorithms).
use Rattle.std.specs.Prelude.{◌≡◌, ◌==◌, ◌&&◌, ℕ, ◌+◌, ◌*◌, ◌%◌, ◌<◌, Bool, IsTrue, List, [], ◌∷◌, ◌++◌, sum, take, drop}

-- the sum of i times a(i), the places counted from `first`
abbrev pub place_sum : ℕ → List ℕ → ℕ
place_sum first [] = 0
place_sum first (octet ∷ octets) = first * octet + place_sum (first + 1) octets

-- both sums are 0 modulo 255
unfoldable pub is_sealed : List ℕ → Bool
is_sealed octets = (sum octets % 255 == 0) && (place_sum 1 octets % 255 == 0)

-- the checksum holds
abbrev pub Sealed : List ℕ → Type 0
Sealed octets = IsTrue (is_sealed octets)

-- the two octets at `at` were written, neither of them 0, so that the checksum holds; all else stays
pub record Seals (old : List ℕ) (at : ℕ) (new : List ℕ) : Type 0 where
  pub first : ℕ
  pub second : ℕ
  pub first_used : (0 < first) × (first < 256)
  pub second_used : (0 < second) × (second < 256)
  pub written : new ≡ take at old ++ first ∷ second ∷ drop (at + 2) old
  pub sealed : Sealed new
