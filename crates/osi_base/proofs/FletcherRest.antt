-- The sums so far and the octets that are left. A chunk taken from the rest leaves what they give together
-- as it is modulo 255, since the running sum of an append weighs the first part's sum by the second's length.
use Rattle.std.proofs.Common.{ℕ, ◌+◌, ◌*◌, ◌%◌, ◌≡◌, ◌<◌, List, ◌++◌, sum, reverse, length, ap, ◌∙◌, arith, length-append}
use Rattle.osi_base.specs.Fletcher.{place_sum}
use Rattle.osi_base.proofs.FletcherSums.{sum-append, running_sum-append}
use Rattle.osi_base.proofs.FletcherModulo.{reduced_sum}

-- with the octets that are left, the sums are those of all octets
pub record IsPartOf (first second : ℕ) (rest octets : List ℕ) : Type 0 where
  pub first_reduced : first < 255
  pub second_reduced : second < 255
  pub first_is : (first + sum rest) % 255 ≡ sum octets % 255
  pub second_is : (second + length rest * first + place_sum 1 (reverse rest)) % 255 ≡ place_sum 1 (reverse octets) % 255

pub part_more :
    (first second first' second' : ℕ) (rest chunk after octets : List ℕ)
    → IsPartOf first second rest octets → rest ≡ chunk ++ after
    → first' ≡ (first + sum chunk) % 255
    → second' ≡ (second + length chunk * first + place_sum 1 (reverse chunk)) % 255
    → IsPartOf first' second' after octets
part_more first second first' second' rest chunk after octets part rest_is first_is second_is =
    let before : sum rest ≡ sum chunk + sum after = rw rest_is (sum-append chunk after) in
    let running_before : place_sum 1 (reverse rest) ≡ place_sum 1 (reverse chunk) + length after * sum chunk + place_sum 1 (reverse after) =
    rw rest_is (running_sum-append chunk after) in
    let length_before : length rest ≡ length chunk + length after = rw rest_is (length-append chunk after) in
    let same : second + length chunk * first + place_sum 1 (reverse chunk) + length after * (first + sum chunk) + place_sum 1 (reverse after)
    ≡ second + length rest * first + place_sum 1 (reverse rest) =
    rw length_before (omega arith) in
    record {
      first_reduced = omega arith;
      second_reduced = omega arith;
      first_is = omega (arith, part.first_is);
      second_is =
          rw (first_is, second_is)
          (reduced_sum (second + length chunk * first + place_sum 1 (reverse chunk)) (first + sum chunk) (place_sum 1 (reverse after)) (length after)
          ∙ (ap (λ m. m % 255) same ∙ part.second_is));
    }
