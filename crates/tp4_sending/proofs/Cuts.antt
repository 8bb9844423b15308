-- The piece of a number is in the first unit, or among those of the units behind it.
use Rattle.std.proofs.Common.{◌≡◌, ℕ, zero, suc, ◌+◌, ◌-◌, ◌≤◌, nat_lt, if◌then◌else◌, List, [], ◌∷◌, length, drop, slice_get, refl, ◌∙◌, ap, arith, Some, None}
use Rattle.tp4_sending.specs.Pieces.{cut_at, cut_of, count_in}

pub cut_here : (size : ℕ) (units : List (List ℕ)) (at next left : ℕ) (unit : List ℕ) → slice_get units at ≡ Some unit → next ≡ at + 1
    → cut_at size (drop at units) left ≡ (if nat_lt left (count_in size unit) then Some (cut_of size unit left) else cut_at size (drop next units) (left - count_in size unit))
cut_here size [] at next left unit e n = cc
cut_here size (first ∷ units) zero zero left unit e n = absurd (omega (arith, n))
cut_here size (first ∷ units) zero (suc next) left unit e n =
    let same : first ≡ unit = cc in
    let none : 0 ≡ next = omega (arith, n) in
    ap (λ (u : List ℕ). if nat_lt left (count_in size u) then Some (cut_of size u left) else cut_at size units (left - count_in size u)) same
    ∙ ap (λ (k : ℕ). if nat_lt left (count_in size unit) then Some (cut_of size unit left) else cut_at size (drop k units) (left - count_in size unit)) none
cut_here size (first ∷ units) (suc at) zero left unit e n = absurd (omega (arith, n))
cut_here size (first ∷ units) (suc at) (suc next) left unit e n = cut_here size units at next left unit e (omega (arith, n))

pub cut_past : (size : ℕ) (units : List (List ℕ)) (at left : ℕ) → length units ≤ at → cut_at size (drop at units) left ≡ None
cut_past size [] zero left h = refl
cut_past size [] (suc at) left h = refl
cut_past size (unit ∷ units) zero left h = absurd (omega (arith, h))
cut_past size (unit ∷ units) (suc at) left h = cut_past size units at left (omega (arith, h))
