-- What is read from a source and written to a sink, where they tell.
use Rattle.std.specs.Prelude.{◌≡◌, ◌⊎◌, ℕ, ◌<◌, List, [], ◌++◌, Option, Some, None}

-- the count rose, or stands at its last value
abbrev pub HasRisen : ℕ → ℕ → Type 0
HasRisen before now = (before < now) ⊎ (now ≡ 18446744073709551615)

-- these octets, the next of what was left, were read
abbrev pub Took : Option (List ℕ) → List ℕ → Option (List ℕ) → Type 0
Took None octets new = new ≡ None
Took (Some all) octets new = (rest : List ℕ) × (new ≡ Some rest) × (all ≡ octets ++ rest)

-- nothing is left, where the source tells
abbrev pub IsAtEnd : Option (List ℕ) → Type 0
IsAtEnd None = Unit {0}
IsAtEnd (Some rest) = rest ≡ []

-- these octets were appended to what was written
abbrev pub Put : Option (List ℕ) → List ℕ → Option (List ℕ) → Type 0
Put None octets new = new ≡ None
Put (Some before) octets new = new ≡ Some (before ++ octets)
