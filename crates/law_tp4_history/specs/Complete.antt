-- Units of which a front of their pieces was joined: those that are whole, and what has begun of the next (X.224, class 4: segmentation and reassembling).
use Rattle.std.specs.Prelude.{◌≡◌, ◌<◌, ◌≤◌, ℕ, ◌-◌, ◌*◌, List, [], ◌∷◌, length, take}
use Rattle.tp4_sending.specs.Pieces.{count_in}

-- each unit has octets
abbrev pub AllFull : List (List ℕ) → Type 0
AllFull [] = record {}
AllFull (unit ∷ units) = (0 < length unit) × AllFull units

-- n pieces of the first unit were joined to this
abbrev pub Begun : ℕ → List (List ℕ) → ℕ → List ℕ → Type 0
Begun size [] n begun = (n ≡ 0) × (begun ≡ [])
Begun size (unit ∷ units) n begun = (n * size < length unit) × (begun ≡ take (n * size) unit)

-- the first n pieces of the units were joined to these units, and to the octets of the next
abbrev pub Complete : ℕ → List (List ℕ) → ℕ → List (List ℕ) → List ℕ → Type 0
Complete size units n [] begun = Begun size units n begun
Complete size [] n (s ∷ shown) begun = ⊥
Complete size (unit ∷ units) n (s ∷ shown) begun = (s ≡ unit) × (count_in size unit ≤ n) × Complete size units (n - count_in size unit) shown begun
