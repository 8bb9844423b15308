-- The table of pairs has the two digits of each octet.
use Rattle.std.proofs.Common.{◌≡◌, ℕ, zero, suc, ◌+◌, ◌-◌, ◌*◌, ◌/◌, ◌%◌, ◌<◌, Bool, true, ◌&&◌, T, eqb, slice_index, inl, inr, arith, eq-zero-or-pos, eqb→eq}
use lib.Ieee.Fits.{and_l, and_r}
use Rattle.hex.specs.Hex.{lower_digits}
use Rattle.text_parts.specs.declared.digits.TheConstants.{PAIRS}

-- the first octets, so many, have their digits in the table
abbrev are_pairs : ℕ → Bool
are_pairs zero = true
are_pairs (suc n) = (eqb (slice_index PAIRS (2 * n)) (slice_index lower_digits (n / 16)) && eqb (slice_index PAIRS (2 * n + 1)) (slice_index lower_digits (n % 16))) && are_pairs n

below : (n octet : ℕ) → T (are_pairs n) → octet < n
    → (slice_index PAIRS (2 * octet) ≡ slice_index lower_digits (octet / 16)) × (slice_index PAIRS (2 * octet + 1) ≡ slice_index lower_digits (octet % 16))
below zero octet t h = absurd (omega arith)
below (suc n) octet t h =
    elim (eq-zero-or-pos (n - octet)) [
      | inl z ↦ let e : octet ≡ n = omega arith in let a = and_l _ (are_pairs n) t in rw e (eqb→eq _ _ (and_l _ _ a), eqb→eq _ _ (and_r _ _ a))
      | inr g ↦ below n octet (and_r _ (are_pairs n) t) (omega arith)
    ]

-- the digits of an octet
pub pairs_at : (octet : ℕ) → octet < 256
    → (slice_index PAIRS (2 * octet) ≡ slice_index lower_digits (octet / 16)) × (slice_index PAIRS (2 * octet + 1) ≡ slice_index lower_digits (octet % 16))
pairs_at octet h = below 256 octet tt h
