-- Lengths of addresses, one after another.
use Rattle.std.proofs.Common.{◌≡◌, ℕ, zero, suc, ◌+◌, ◌<◌, ◌≤◌, List, [], ◌∷◌, length, take, get_or, None, false, refl, arith}
use Rattle.std.specs.Prelude.{nat_le}
use Rattle.std.specs.List.{AllByRecursion, flat_map}
use Rattle.std.proofs.lemmas.Bool.{lt-leb}
use Rattle.std.proofs.lemmas.List.{length-append}
use Rattle.pdu_parts.specs.Field.{IsAddress, field}
use Rattle.esis_pdu.specs.steps.Writing.{within}

-- one address more
pub length_more : (addresses : List (List ℕ)) (i : ℕ) (d : List ℕ) → i < length addresses
    → length (flat_map field (take (i + 1) addresses)) ≡ length (flat_map field (take i addresses)) + length (field (get_or addresses i d))
length_more [] i d within = absurd (omega arith)
length_more (address ∷ addresses) zero d within =
    omega (arith, length-append (field address) [])
length_more (address ∷ addresses) (suc i) d within =
    let next : suc i + 1 ≡ suc (i + 1) = omega arith in
    rw next (omega (arith, length_more addresses i d (omega arith), length-append (field address) (flat_map field (take (i + 1) addresses)), length-append (field address) (flat_map field (take i addresses))))

pub each_more : (addresses : List (List ℕ)) (i : ℕ) (d : List ℕ) → i < length addresses
    → AllByRecursion IsAddress (take i addresses) → IsAddress (get_or addresses i d) → AllByRecursion IsAddress (take (i + 1) addresses)
each_more [] i d within each one = absurd (omega arith)
each_more (address ∷ addresses) zero d within each one = (one, tt)
each_more (address ∷ addresses) (suc i) d within each one =
    let next : suc i + 1 ≡ suc (i + 1) = omega arith in
    rw next (each.0, each_more addresses i d (omega arith) each.1 one)

-- some of the addresses are no longer than all
pub front_within : (addresses : List (List ℕ)) (i : ℕ) → length (flat_map field (take i addresses)) ≤ length (flat_map field addresses)
front_within addresses zero = omega arith
front_within [] (suc i) = omega arith
front_within (address ∷ addresses) (suc i) =
    omega (arith, front_within addresses i, length-append (field address) (flat_map field (take i addresses)), length-append (field address) (flat_map field addresses))

-- each address is one octet long at least, its length
pub count_within : (addresses : List (List ℕ)) → length addresses ≤ length (flat_map field addresses)
count_within [] = omega arith
count_within (address ∷ addresses) = omega (arith, count_within addresses, length-append (field address) (flat_map field addresses))

-- where some of the addresses are too long, all are
pub too_long : (addresses : List (List ℕ)) (i : ℕ) (d : List ℕ) → i < length addresses
    → 254 < length (flat_map field (take i addresses)) + length (field (get_or addresses i d))
    → None ≡ within 254 (length (flat_map field addresses))
too_long addresses i d within long =
    let above : nat_le (length (flat_map field addresses)) 254 ≡ false =
    lt-leb _ _ (omega (arith, front_within addresses (i + 1), length_more addresses i d within)) in
    rw above refl
