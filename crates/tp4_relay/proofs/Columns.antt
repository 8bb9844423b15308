-- What a search finds in a column of ends that rises, and what a change of the pair of an end is then.
use Rattle.std.proofs.Common.{◌≡◌, ◌≢◌, ℕ, zero, suc, ◌<◌, ◌≤◌, ◌==◌, Bool, true, false, List, [], ◌∷◌, length, get_or, set, map, if◌then◌else◌, ◌||◌, Option, Some, None, Ok, Err, inl, inr, refl, sym, ◌∙◌, ap, arith}
use Rattle.std.specs.List.{list_any}
use Rattle.std.specs.List.Sorted.{IsBinarySearchResult, IsNonDecreasingBy}
use Rattle.std.specs.Ordering.{nat_cmp, ordering_index}
use Rattle.std.proofs.lemmas.Bool.{cases_lt, eq-eqb, ne_eqb}
use Rattle.std.proofs.lemmas.Cmp.{ranked}
use Rattle.std.proofs.lemmas.List.Folds.{list_any_at}
use Rattle.std.proofs.lemmas.Bool.Decides.{nat_tests}
use Rattle.tp4_relay.specs.declared.pair.Pair.{Pair}
use Rattle.tp4_relay.specs.Reaction.{inbound_pair, outbound_pair}
use Rattle.tp4_relay.specs.steps.Rising.{IsMissedBy, IsPlaceBy, IsRisingBy, inbound_of, outbound_of}

-- each element but those of the number stays
abbrev changed_by : {X : Type 0} → (X → ℕ) → ℕ → (X → X) → X → X
changed_by number end change x = if number x == end then change x else x

module _ {X : Type 0} (number : X → ℕ) (end : ℕ) (change : X → X) where
  missed : (xs : List X) → ((k : ℕ) (d : X) → k < length xs → number (get_or xs k d) ≢ end) → map (changed_by number end change) xs ≡ xs
  missed [] none = refl
  missed (x ∷ xs) none =
      let here : changed_by number end change x ≡ x = ap (λ (b : Bool). if b then change x else x) (ne_eqb (number x) end (none 0 x (omega arith))) in
      let rest : map (changed_by number end change) xs ≡ xs = missed xs (λ k d low. none (suc k) d (omega (arith, low))) in
      λ i. here i ∷ rest i

  tail_rises : (x : X) (xs : List X) → IsRisingBy number (x ∷ xs) → IsRisingBy number xs
  tail_rises x xs rises i j d low high = rises (suc i) (suc j) d (omega (arith, low)) (omega (arith, high))

  hit : (xs : List X) (at : ℕ) (d : X) → IsRisingBy number xs → at < length xs → number (get_or xs at d) ≡ end → map (changed_by number end change) xs ≡ set xs at (change (get_or xs at d))
  hit [] at d rises low is = absurd (omega (arith, low))
  hit (x ∷ xs) zero d rises low is =
      let here : changed_by number end change x ≡ change x = ap (λ (b : Bool). if b then change x else x) (eq-eqb (number x) end is) in
      let rest : map (changed_by number end change) xs ≡ xs = missed xs (λ k e high same. (let r = rises 0 (suc k) e (omega arith) (omega (arith, high)) in omega (arith, r, same, is))) in
      λ i. here i ∷ rest i
  hit (x ∷ xs) (suc at) d rises low is =
      let r = rises 0 (suc at) d (omega arith) low in
      let here : changed_by number end change x ≡ x = ap (λ (b : Bool). if b then change x else x) (ne_eqb (number x) end (λ same. omega (arith, r, same, is))) in
      let rest = hit xs at d (tail_rises x xs rises) (omega (arith, low)) is in
      λ i. here i ∷ rest i

module _ {X : Type 0} (number : X → ℕ) (xs : List X) (end : ℕ) (rises : IsRisingBy number xs) where
  -- the comparisons with the number rise along the list, as a search by halving asks
  comparisons_rise : IsNonDecreasingBy (λ x. ordering_index (nat_cmp (number x) end)) xs
  comparisons_rise i j d le high = by le (λ less. rises i j d less high)
    where
      by : i ≤ j → (i < j → number (get_or xs i d) < number (get_or xs j d)) → ordering_index (nat_cmp (number (get_or xs i d)) end) ≤ ordering_index (nat_cmp (number (get_or xs j d)) end)
      by le above =
          let keys : number (get_or xs i d) ≤ number (get_or xs j d) = grind (arith, above, λ (same : i ≡ j). ap (λ (k : ℕ). number (get_or xs k d)) same) in
          grind (arith, nat_tests)

  pub found : (at : ℕ) → at < length xs → IsBinarySearchResult (λ x. nat_cmp (number x) end) xs (Ok at) → IsPlaceBy number end at xs
  found at low equal = record { bound = low; is = λ d. ranked _ end _ (sym (equal d)) }

  pub not_found : (at : ℕ) → IsBinarySearchResult (λ x. nat_cmp (number x) end) xs (Err at) → IsMissedBy number end xs
  not_found at parted k d high same =
      let p = parted comparisons_rise in
      let below : k < at → number (get_or xs k d) < end = λ less. ranked _ end _ (sym (p.0 k d (omega arith) less)) in
      let above : at ≤ k → end < number (get_or xs k d) = λ le. ranked _ end _ (sym (p.1 k d le high)) in
      elim (cases_lt k at) [
        | inl less ↦ (let b = below less in omega (arith, b, same))
        | inr more ↦ (let a = above more in omega (arith, a, same))
      ]

-- ---- an element by its number

module _ {X : Type 0} (number : X → ℕ) (end : ℕ) where
  pub missed_any : (xs : List X) → IsMissedBy number end xs → list_any (λ x. number x == end) xs ≡ false
  missed_any [] none = refl
  missed_any (x ∷ xs) none =
      ap (λ (b : Bool). b || list_any (λ y. number y == end) xs) (ne_eqb (number x) end (none 0 x (omega arith))) ∙ missed_any xs (λ k d low. none (suc k) d (omega (arith, low)))

  pub placed_any : (xs : List X) (at : ℕ) → IsPlaceBy number end at xs → list_any (λ x. number x == end) xs ≡ true
  placed_any [] at p = absurd (let low = p.bound in omega (arith, low))
  placed_any (x ∷ xs) at p = list_any_at (λ y. number y == end) (x ∷ xs) at x p.bound (eq-eqb (number (get_or (x ∷ xs) at x)) end (p.is x))

  -- the one at this place is changed, and nothing else
  pub placed_change : (change : X → X) (xs : List X) (at : ℕ) (d : X) → IsRisingBy number xs → IsPlaceBy number end at xs → map (changed_by number end change) xs ≡ set xs at (change (get_or xs at d))
  placed_change change xs at d rises p = hit number end change xs at d rises p.bound (p.is d)

  pub missed_change : (change : X → X) (xs : List X) → IsMissedBy number end xs → map (changed_by number end change) xs ≡ xs
  missed_change change xs none = missed number end change xs none

  -- the first with this number
  abbrev first_by : List X → Option X
  first_by [] = None
  first_by (x ∷ xs) = if number x == end then Some x else first_by xs

  pub missed_first : (xs : List X) → IsMissedBy number end xs → first_by xs ≡ None
  missed_first [] none = refl
  missed_first (x ∷ xs) none =
      ap (λ (b : Bool). if b then Some x else first_by xs) (ne_eqb (number x) end (none 0 x (omega arith))) ∙ missed_first xs (λ k d low. none (suc k) d (omega (arith, low)))

  pub placed_first : (xs : List X) (at : ℕ) (d : X) → IsRisingBy number xs → at < length xs → number (get_or xs at d) ≡ end → first_by xs ≡ Some (get_or xs at d)
  placed_first [] at d rises low is = absurd (omega (arith, low))
  placed_first (x ∷ xs) zero d rises low is = ap (λ (b : Bool). if b then Some x else first_by xs) (eq-eqb (number x) end is)
  placed_first (x ∷ xs) (suc at) d rises low is =
      let r = rises 0 (suc at) d (omega arith) low in
      ap (λ (b : Bool). if b then Some x else first_by xs) (ne_eqb (number x) end (λ same. omega (arith, r, same, is)))
      ∙ placed_first xs at d (λ i j e less high. rises (suc i) (suc j) e (omega (arith, less)) (omega (arith, high))) (omega (arith, low)) is

pub inbound_first : (pairs : List Pair) (end : ℕ) → inbound_pair pairs end ≡ first_by inbound_of end pairs
inbound_first [] end = refl
inbound_first (pair ∷ pairs) end = ap (λ (found : Option Pair). if pair.inbound == end then Some pair else found) (inbound_first pairs end)

pub outbound_first : (pairs : List Pair) (end : ℕ) → outbound_pair pairs end ≡ first_by outbound_of end pairs
outbound_first [] end = refl
outbound_first (pair ∷ pairs) end = ap (λ (found : Option Pair). if pair.outbound == end then Some pair else found) (outbound_first pairs end)
