-- The units go one after another: what goes of those that are left is what goes of all.
use Rattle.std.proofs.Common.{◌≡◌, ℕ, ◌+◌, ◌-◌, ◌<◌, ◌≤◌, nat_le, Bool, true, false, if◌then◌else◌, List, [], ◌∷◌, length, refl, sym, ◌∙◌, ap, arith}
use Rattle.std.specs.List.{sum_by}
use Rattle.std.proofs.lemmas.Bool.{le-leb, lt-leb, leb-true}
use Rattle.std.proofs.lemmas.List.Sums.{sum_by-cons}
use Rattle.tp4_sending.specs.Pieces.{Queue, count_in, freed_by}

-- the first unit goes
pub freed_on : (size n first count : ℕ) (unit : List ℕ) (units : List (List ℕ)) → first ≤ n → count ≡ count_in size unit → count ≤ n - first
    → freed_by size n first (unit ∷ units) ≡ freed_by size n (first + count) units
freed_on size n first count unit units low c h =
    let goes : nat_le (first + count_in size unit) n ≡ true = le-leb _ _ (omega (arith, low, c, h)) in
    ap (λ (b : Bool). if b then freed_by size n (first + count_in size unit) units else record { units = unit ∷ units; first = first }) goes
    ∙ ap (λ (k : ℕ). freed_by size n (first + k) units) (sym c)

-- it stays, and so do those behind it
pub freed_here : (size n first count : ℕ) (unit : List ℕ) (units : List (List ℕ)) → count ≡ count_in size unit → n - first < count
    → freed_by size n first (unit ∷ units) ≡ record { units = unit ∷ units; first = first }
freed_here size n first count unit units c h =
    ap (λ (b : Bool). if b then freed_by size n (first + count_in size unit) units else record { units = unit ∷ units; first = first })
    (lt-leb _ _ (omega (arith, c, h)))

pub octets_on : (unit : List ℕ) (units : List (List ℕ)) → sum_by length (unit ∷ units) ≡ length unit + sum_by length units
octets_on unit units = sum_by-cons length unit units

-- what is left is no more
pub record Left (n : ℕ) (old : List (List ℕ)) (q : Queue) : Type 0 where
  pub first : q.first ≤ n
  pub units : length q.units ≤ length old
  pub octets : sum_by length q.units ≤ sum_by length old

pub freed_left : (size n first : ℕ) (units : List (List ℕ)) → first ≤ n → Left n units (freed_by size n first units)
freed_left size n first [] low = record { first = low; units = omega arith; octets = omega arith }
freed_left size n first (unit ∷ units) low =
    by (nat_le (first + count_in size unit) n) refl (λ (goes : first + count_in size unit ≤ n). freed_left size n (first + count_in size unit) units goes)
  where
    by : (b : Bool) → nat_le (first + count_in size unit) n ≡ b → (first + count_in size unit ≤ n → Left n units (freed_by size n (first + count_in size unit) units))
        → Left n (unit ∷ units) (if b then freed_by size n (first + count_in size unit) units else record { units = unit ∷ units; first = first })
    by true e rest =
        let r = rest (leb-true _ _ e) in
        record { first = r.first; units = omega (arith, r.units); octets = omega (arith, r.octets, sum_by-cons length unit units) }
    by false e rest = record { first = low; units = omega arith; octets = omega arith }
