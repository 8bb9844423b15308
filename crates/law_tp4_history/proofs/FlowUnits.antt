-- Units that follow others: the pieces of those that are left, and what goes from the front as an AK comes.
use Rattle.std.proofs.Common.{◌≡◌, ℕ, ◌+◌, ◌-◌, ◌≤◌, nat_lt, nat_le, Bool, true, false, if◌then◌else◌, List, [], ◌∷◌, ◌++◌, refl, ◌∙◌, ap, arith, Some}
use Rattle.std.specs.List.{sum_by}
use Rattle.std.proofs.lemmas.Bool.{le-ltb}
use Rattle.std.proofs.lemmas.List.Sums.{sum_by-cons}
use Rattle.tp4_sending.specs.Pieces.{count_in, cut_of, cut_at, Queue, freed_by}

-- the piece of a number is past those of the units before
pub cut_behind : (size : ℕ) (before units : List (List ℕ)) (n : ℕ) → sum_by (count_in size) before ≤ n
    → cut_at size (before ++ units) n ≡ cut_at size units (n - sum_by (count_in size) before)
cut_behind size [] units n low = let same : n ≡ n - 0 = omega arith in ap (cut_at size units) same
cut_behind size (unit ∷ before) units n low =
    let sum = sum_by-cons (count_in size) unit before in
    let past : nat_lt n (count_in size unit) ≡ false = le-ltb _ _ (omega (arith, low, sum)) in
    let left : n - count_in size unit - sum_by (count_in size) before ≡ n - sum_by (count_in size) (unit ∷ before) = omega (arith, sum) in
    ap (λ (b : Bool). if b then Some (cut_of size unit n) else cut_at size (before ++ units) (n - count_in size unit)) past
    ∙ cut_behind size before units (n - count_in size unit) (omega (arith, low, sum))
    ∙ ap (cut_at size units) left

-- units that are freed go from the front
pub record Freed (size first : ℕ) (units : List (List ℕ)) (q : Queue) : Type 0 where
  pub gone : List (List ℕ)
  pub units_are : units ≡ gone ++ q.units
  pub first_is : q.first ≡ first + sum_by (count_in size) gone

pub freed_front : (size n first : ℕ) (units : List (List ℕ)) → Freed size first units (freed_by size n first units)
freed_front size n first [] = record { gone = []; units_are = refl; first_is = omega arith }
freed_front size n first (unit ∷ units) = by (nat_le (first + count_in size unit) n) (freed_front size n (first + count_in size unit) units)
  where
    by : (b : Bool) → Freed size (first + count_in size unit) units (freed_by size n (first + count_in size unit) units)
        → Freed size first (unit ∷ units) (if b then freed_by size n (first + count_in size unit) units else record { units = unit ∷ units; first = first })
    by true r = record {
      gone = unit ∷ r.gone;
      units_are = ap (λ (us : List (List ℕ)). unit ∷ us) r.units_are;
      first_is = omega (arith, r.first_is, sum_by-cons (count_in size) unit r.gone);
    }
    by false r = record { gone = []; units_are = refl; first_is = omega arith }
