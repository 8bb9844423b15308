-- A front that was moved out leaves the octets after it.
use Rattle.std.proofs.Common.{◌≡◌, ℕ, ◌+◌, ◌-◌, List, ◌++◌, length, take, drop, Some, refl, sym, ap, ◌∙◌, arith, length-drop}
use Rattle.std.proofs.lemmas.List.{take-append-drop, drop-drop, take_all}

-- the slice from `at` on is what `drop` leaves
pub tail_is : (at : ℕ) (octets : List ℕ) → take (length octets - at) (drop at octets) ≡ drop at octets
tail_is at octets = take_all (length octets - at) (drop at octets) (omega (arith, length-drop at octets))

pub front_took : (at count : ℕ) (octets shown left front : List ℕ) → shown ≡ octets → left ≡ drop at octets → front ≡ take count (take (length shown - at) (drop at shown))
    → (rest : List ℕ) × (Some (drop (at + count) octets) ≡ Some rest) × (left ≡ front ++ rest)
front_took at count octets shown left front shown-is left-is front-is =
    let front-here : front ≡ take count (drop at octets) = front-is ∙ ap (take count) (tail_is at shown) ∙ ap (λ (all : List ℕ). take count (drop at all)) shown-is in
    (drop (at + count) octets, refl, left-is ∙ sym (take-append-drop count (drop at octets)) ∙ ap (λ (rest : List ℕ). take count (drop at octets) ++ rest) (drop-drop count at octets) ∙ ap (λ (first : List ℕ). first ++ drop (at + count) octets) (sym front-here))
