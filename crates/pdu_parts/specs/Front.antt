-- Grammars: relations between whole lists of octets and values, and what of them stands at the front of octets.
use Rattle.std.specs.Prelude.{◌≡◌, ◌⊎◌, ℕ, ◌<◌, List, ◌++◌, All}

-- octets of the grammar, with this value, stand at the front, and the rest behind them
pub record BeginsWith {V : Type 0} (grammar : List ℕ → V → Type 0) (octets : List ℕ) (value : V) (rest : List ℕ) : Type 0 where
  pub front : List ℕ
  pub whole : octets ≡ front ++ rest
  pub stands : grammar front value

-- octets are one value at most
abbrev pub OneValue : {V : Type 0} → (List ℕ → V → Type 0) → Type 0
OneValue {V} grammar = (octets : List ℕ) (value other : V) → grammar octets value → grammar octets other → value ≡ other

-- octets begin with one value at most, and one rest stands behind it
abbrev pub OneFront : {V : Type 0} → (List ℕ → V → Type 0) → Type 0
OneFront {V} grammar = (octets : List ℕ) (value other : V) (rest more : List ℕ)
    → BeginsWith grammar octets value rest → BeginsWith grammar octets other more → (value ≡ other) × (rest ≡ more)

-- a value at the front and a fault exclude each other
abbrev pub Apart : {V F : Type 0} → (List ℕ → V → Type 0) → (List ℕ → F → Type 0) → Type 0
Apart {V} {F} grammar fails = (octets rest : List ℕ) (value : V) (fault : F) → BeginsWith grammar octets value rest → fails octets fault → ⊥

-- octets begin with a value or have a fault
abbrev pub FrontOrFault : {V F : Type 0} → (List ℕ → V → Type 0) → (List ℕ → F → Type 0) → Type 0
FrontOrFault {V} {F} grammar fails = (octets : List ℕ) → All (λ octet. octet < 256) octets
    → ((value : V) × (rest : List ℕ) × BeginsWith grammar octets value rest) ⊎ ((fault : F) × fails octets fault)
