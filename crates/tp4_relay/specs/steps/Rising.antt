-- Columns of ends that rise.
use Rattle.std.specs.Prelude.{◌≡◌, ◌≢◌, ℕ, ◌+◌, ◌<◌, ◌≤◌, List, length, get_or}
use Rattle.tp4_relay.specs.declared.claim.Claim.{Claim}
use Rattle.tp4_relay.specs.declared.pair.Pair.{Pair}

-- each number is above those before it
abbrev pub IsRisingBy : {X : Type 0} → (X → ℕ) → List X → Type 0
IsRisingBy {X} number xs = (i j : ℕ) (d : X) → i < j → j < length xs → number (get_or xs i d) < number (get_or xs j d)

abbrev pub claim_of : Claim → ℕ
claim_of claim = claim.end

abbrev pub inbound_of : Pair → ℕ
inbound_of pair = pair.inbound

abbrev pub outbound_of : Pair → ℕ
outbound_of pair = pair.outbound

-- the one that stands before the place `at` is below x, and none from it on is
pub record IsGap (at x : ℕ) (xs : List ℕ) : Type 0 where
  pub bound : at ≤ length xs
  pub below : (k : ℕ) → k + 1 ≡ at → get_or xs k 0 < x
  pub above : (k : ℕ) → at ≤ k → k < length xs → x ≤ get_or xs k 0

-- the element at this place has this number
pub record IsPlaceBy {X : Type 0} (number : X → ℕ) (end place : ℕ) (xs : List X) : Type 0 where
  pub bound : place < length xs
  pub is : (d : X) → number (get_or xs place d) ≡ end

-- no element has this number
abbrev pub IsMissedBy : {X : Type 0} → (X → ℕ) → ℕ → List X → Type 0
IsMissedBy {X} number end xs = (k : ℕ) (d : X) → k < length xs → number (get_or xs k d) ≢ end
