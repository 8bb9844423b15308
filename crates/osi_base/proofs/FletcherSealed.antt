-- What a checksum that holds says of the two sums, and what the code's two sums say of the checksum.
-- Where the sum is 0 modulo 255, the two place sums are 0 modulo 255 together, by `both_place_sums`.
use Rattle.std.proofs.Common.{ℕ, ◌+◌, ◌*◌, ◌%◌, ◌≡◌, List, sum, reverse, length, nat_eq, sym, ◌∙◌, arith, eq-eqb, inl, inr}
use Rattle.std.proofs.lemmas.Bool.{ne_eqb, and_from, and_left, and_right, and_parts, eqb-true, cases_eq}
use Rattle.osi_base.specs.Fletcher.{place_sum, is_sealed, Sealed}
use Rattle.osi_base.proofs.FletcherSums.{both_place_sums}
use Rattle.osi_base.proofs.FletcherModulo.{other_sum}

pub sealed_by : (octets : List ℕ) → sum octets % 255 ≡ 0 → place_sum 1 octets % 255 ≡ 0 → Sealed octets
unfolding is_sealed
sealed_by octets first second = and_from _ _ (eq-eqb _ 0 first) (eq-eqb _ 0 second)

pub sum_of_sealed : (octets : List ℕ) → Sealed octets → sum octets % 255 ≡ 0
unfolding is_sealed
sum_of_sealed octets holds = eqb-true _ 0 ((and_parts _ _ holds).0)

pub place_sum_of_sealed : (octets : List ℕ) → Sealed octets → place_sum 1 octets % 255 ≡ 0
unfolding is_sealed
place_sum_of_sealed octets holds = eqb-true _ 0 ((and_parts _ _ holds).1)

pub unsealed_by_first :
    (octets : List ℕ) (first : ℕ) → first ≡ sum octets % 255 → (first ≡ 0 → ⊥) → nat_eq first 0 ≡ is_sealed octets
unfolding is_sealed
unsealed_by_first octets first is some =
    ne_eqb first 0 some ∙ sym (and_left _ _ (ne_eqb _ 0 (λ e. some (is ∙ e))))

pub sealed_by_second :
    (octets : List ℕ) (first second : ℕ)
    → first ≡ sum octets % 255 → second ≡ place_sum 1 (reverse octets) % 255 → first ≡ 0
    → nat_eq second 0 ≡ is_sealed octets
unfolding is_sealed
sealed_by_second octets first second first_is second_is none =
    let both = both_place_sums octets in
    let sum_none : sum octets % 255 ≡ 0 = sym first_is ∙ none in
    elim (cases_eq second 0) [
      | inl e ↦
          eq-eqb second 0 e
          ∙ sym (and_from _ _ (eq-eqb _ 0 sum_none) (eq-eqb _ 0 (other_sum _ _ _ _ both sum_none (sym second_is ∙ e))))
      | inr some ↦
          ne_eqb second 0 some
          ∙ sym (and_right _ _ (ne_eqb _ 0 (λ e. some (second_is ∙ other_sum _ _ _ _ (let turned : place_sum 1 octets + place_sum 1 (reverse octets) ≡ (length octets + 1) * sum octets = omega (arith, both) in turned) sum_none e))))
    ]
