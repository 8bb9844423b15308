-- Addresses of users: an address is one of the system whose title it was made of, and of no system of another title.
use Rattle.std.proofs.Common.{◌≡◌, ℕ, ◌-◌, Bool, true, ◌&&◌, nat_eq, List, [], ◌∷◌, ◌++◌, length, length-append, take, refl, ◌∙◌, ap, arith, slice_index}
use Rattle.std.specs.Cmp.Lexicographic.{pointwise}
use Rattle.std.proofs.lemmas.Bool.Decides.{nat_tests}
use Rattle.nsap.specs.Address.{is_same_system, selector_of, system_part}
use Rattle.law_clnp_step.proofs.Joined.{same_numbers}

pub turned : (first second : List ℕ) → pointwise nat_eq first second ≡ pointwise nat_eq second first
turned [] [] = refl
turned [] (y ∷ second) = refl
turned (x ∷ first) [] = refl
turned (x ∷ first) (y ∷ second) =
    let here : nat_eq x y ≡ nat_eq y x = grind (arith, nat_tests) in
    rw here (ap (λ (b : Bool). nat_eq y x && b) (turned first second))

take_front : (xs : List ℕ) (y : ℕ) → take (length xs) (xs ++ y ∷ []) ≡ xs
take_front [] y = refl
take_front (x ∷ xs) y = ap (λ (rest : List ℕ). x ∷ rest) (take_front xs y)

index_last : (xs : List ℕ) (y : ℕ) → slice_index (xs ++ y ∷ []) (length xs) ≡ y
index_last [] y = refl
index_last (x ∷ xs) y = index_last xs y

last_place : (xs : List ℕ) (y : ℕ) → length (xs ++ y ∷ []) - 1 ≡ length xs
last_place xs y = omega (arith, length-append xs (y ∷ []))

-- an address is a part for the system and a selector
pub part_of_made : (part : List ℕ) (selector : ℕ) → system_part (part ++ selector ∷ []) ≡ part
part_of_made part selector = ap (λ (n : ℕ). take n (part ++ selector ∷ [])) (last_place part selector) ∙ take_front part selector

pub selector_of_made : (part : List ℕ) (selector : ℕ) → selector_of (part ++ selector ∷ []) ≡ selector
selector_of_made part selector = ap (λ (n : ℕ). slice_index (part ++ selector ∷ []) n) (last_place part selector) ∙ index_last part selector

-- whether an address is of a system, by the title that it was made of
pub made_of : (title other : List ℕ) (selector : ℕ) → is_same_system (system_part title ++ selector ∷ []) other ≡ is_same_system title other
made_of title other selector = ap (λ (part : List ℕ). pointwise nat_eq part (system_part other)) (part_of_made (system_part title) selector)

pub own_title : (title : List ℕ) → is_same_system title title ≡ true
own_title title = same_numbers (system_part title)

pub titles_turned : (first second : List ℕ) → is_same_system first second ≡ is_same_system second first
titles_turned first second = turned (system_part first) (system_part second)
