-- The pieces of units, in order, as a receiving half holds them (X.224, segmentation and reassembling).
use Rattle.std.specs.Prelude.{ℕ, zero, suc, ◌+◌, List, [], ◌∷◌, Option}
use Rattle.tp4_number.specs.declared.piece.Piece.{Piece}
use Rattle.tp4_sending.specs.Pieces.{cut_at}

-- so many pieces of these units, from the n-th on
abbrev pub cuts : ℕ → List (List ℕ) → ℕ → ℕ → List (Option Piece)
cuts size units n zero = []
cuts size units n (suc count) = cut_at size units n ∷ cuts size units (n + 1) count
