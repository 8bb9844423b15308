-- A big-endian number of at most four octets fits 32 bits, and depends on its own octets alone.
use Rattle.std.proofs.Common.{◌≡◌, ℕ, zero, suc, ◌^◌, ◌<◌, ◌≤◌, List, length, take, drop, sym, ap, ◌∙◌, arith, length-take}
use Rattle.std.proofs.lemmas.List.{take-append-drop}
use Rattle.byteorder.specs.Endian.{big_number}
use Rattle.byteorder.specs.Numbers.{big_from-append}

pub fits_word : (n x : ℕ) → n ≤ 4 → x < 256 ^ n → x < 2 ^ 32
fits_word zero x le lt = omega arith
fits_word (suc zero) x le lt = omega arith
fits_word (suc (suc zero)) x le lt = omega arith
fits_word (suc (suc (suc zero))) x le lt = omega arith
fits_word (suc (suc (suc (suc zero)))) x le lt = omega arith
fits_word (suc (suc (suc (suc (suc n))))) x le lt = absurd (omega arith)

pub number_of-take : (n : ℕ) (octets : List ℕ) → n ≤ length octets → big_number n (take n octets) ≡ big_number n octets
number_of-take n octets le =
    sym (big_from-append n (take n octets) (drop n octets) (omega (arith, length-take n octets))) ∙ ap (big_number n) (take-append-drop n octets)
