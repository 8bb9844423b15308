-- A checksum behind a header, for the data behind it (X.224, checksum algorithms).
use Rattle.std.specs.Prelude.{◌≡◌, ℕ, ◌<◌, ◌%◌, Bool, true, false, List, [], ◌∷◌, ◌++◌, sum}
use Rattle.osi_base.specs.Fletcher.{place_sum, Sealed}

-- the same two sums modulo 255
pub record IsDigest (octets digest : List ℕ) : Type 0 where
  pub first : sum digest % 255 ≡ sum octets % 255
  pub second : place_sum 1 digest % 255 ≡ place_sum 1 octets % 255

-- a checksum parameter was appended, so that the checksum holds with the data behind it
pub record Sums (old body new : List ℕ) : Type 0 where
  pub high : ℕ
  pub low : ℕ
  pub high_used : (0 < high) × (high < 256)
  pub low_used : (0 < low) × (low < 256)
  pub appended : new ≡ old ++ 0xC3 ∷ 2 ∷ high ∷ low ∷ []
  pub sealed : Sealed (new ++ body)

-- the same, or nothing, as the test says
abbrev pub SumsIf : Bool → List ℕ → List ℕ → List ℕ → Type 0
SumsIf true old body new = Sums old body new
SumsIf false old body new = new ≡ old
