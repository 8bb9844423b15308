-- Where each number below some number has a piece, that number is no more than the pieces of all units.
use Rattle.std.specs.List.{sum_by}
use Rattle.std.proofs.Common.{◌≡◌, ℕ, zero, suc, ◌+◌, ◌-◌, ◌<◌, ◌≤◌, nat_lt, Bool, true, false, if◌then◌else◌, List, [], ◌∷◌, Some, refl, arith}
use Rattle.std.proofs.lemmas.Bool.{ltb-true}
use Rattle.std.proofs.lemmas.List.Sums.{sum_by-cons}
use Rattle.std.proofs.lemmas.Option.{none-some}
use Rattle.tp4_number.specs.declared.piece.Piece.{Piece}
use Rattle.tp4_sending.specs.Pieces.{count_in, cut_at, cut_of}

pub piece_low : (size : ℕ) (units : List (List ℕ)) (n : ℕ) (piece : Piece) → cut_at size units n ≡ Some piece → n < sum_by (count_in size) units
piece_low size [] n piece is = absurd (none-some _ is)
piece_low size (unit ∷ units) n piece is = by (nat_lt n (count_in size unit)) refl (piece_low size units (n - count_in size unit) piece) is
  where
    all : sum_by (count_in size) (unit ∷ units) ≡ count_in size unit + sum_by (count_in size) units
    all = sum_by-cons (count_in size) unit units

    by : (b : Bool) → nat_lt n (count_in size unit) ≡ b → (cut_at size units (n - count_in size unit) ≡ Some piece → n - count_in size unit < sum_by (count_in size) units)
        → (if b then Some (cut_of size unit n) else cut_at size units (n - count_in size unit)) ≡ Some piece → n < sum_by (count_in size) (unit ∷ units)
    by true at later cut = omega (arith, ltb-true n (count_in size unit) at, all)
    by false at later cut = omega (arith, later cut, all)

pub pieces_reach : (size : ℕ) (units : List (List ℕ)) (high : ℕ) → ((n : ℕ) → n < high → (piece : Piece) × (cut_at size units n ≡ Some piece)) → high ≤ sum_by (count_in size) units
pieces_reach size units zero each = omega arith
pieces_reach size units (suc n) each = let last = each n (omega arith) in omega (arith, piece_low size units n last.0 last.1)
