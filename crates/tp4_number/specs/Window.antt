-- What a receiving half holds of what lies ahead (X.224, class 4: sequencing; segmentation and reassembling).
use Rattle.std.specs.Prelude.{ℕ, ◌+◌, Bool, true, false, nat_lt, List, [], ◌∷◌, ◌++◌, length, get_or, drop, replicate, slice_set, Option, Some, None, is_some, if◌then◌else◌}
use Rattle.tp4_number.specs.declared.piece.Piece.{Piece}

-- a place for the piece of the number expected, of the next one, and so on; and the octets of the unit that has begun
pub record Held : Type 0 where
  pub places : List (Option Piece)
  pub begun : List ℕ

-- the place at that distance from the number expected has a piece
abbrev pub is_held : Held → ℕ → Bool
is_held held d = is_some (get_or held.places d None)

-- the piece is put at that distance
abbrev pub placed : Held → ℕ → Piece → Held
placed held d piece = record held { places = slice_set held.places d (Some piece) }

-- what pieces in order give: how many were joined, the units that ended, the octets of the one that has begun, and
-- whether the next piece would make it too large
pub record Joined : Type 0 where
  pub count : ℕ
  pub units : List (List ℕ)
  pub begun : List ℕ
  pub is_large : Bool

-- the piece ends a unit, or goes on with it
abbrev pub joined_by : Piece → List ℕ → Joined → Joined
joined_by piece octets rest = record rest { count = rest.count + 1; units = if piece.last then octets ∷ rest.units else rest.units }

abbrev pub begun_by : Piece → List ℕ → List ℕ
begun_by piece octets = if piece.last then [] else octets

-- a unit has at most 16,384 octets
abbrev pub is_larger : List ℕ → Piece → Bool
is_larger begun piece = nat_lt 16384 (length begun + length piece.octets)

-- the pieces from the front up to the first place that has none
abbrev pub joined : List ℕ → List (Option Piece) → Joined
joined begun [] = record { count = 0; units = []; begun = begun; is_large = false }
joined begun (None ∷ places) = record { count = 0; units = []; begun = begun; is_large = false }
joined begun (Some piece ∷ places) =
    if is_larger begun piece then record { count = 0; units = []; begun = begun; is_large = true }
    else joined_by piece (begun ++ piece.octets) (joined (begun_by piece (begun ++ piece.octets)) places)

-- the first places go, and as many empty ones follow
abbrev pub slid : List (Option Piece) → ℕ → List (Option Piece)
slid places count = drop count places ++ replicate count None
