-- The two sums of octets, taken from the end, and a checksum for data of which only the sums are known.
use Rattle.std.proofs.Common.{◌≡◌, ℕ, ◌+◌, ◌-◌, ◌*◌, ◌/◌, ◌%◌, ◌≤◌, List, [], ◌∷◌, ◌++◌, length, take, drop, get_or, sum, refl, sym, ap, subst, ◌∙◌, append_assoc, arith}
use Rattle.std.proofs.lemmas.List.{length-take, take-take, get_or-take, drop_more, take_at, drop_at, take_all, drop_all, length-append}
use Rattle.osi_base.specs.Fletcher.{place_sum, Sealed, Seals}
use Rattle.osi_base.proofs.FletcherSums.{sum-cons, sum-append, place_sum-shift, place_sum-append}
use Rattle.osi_base.proofs.FletcherSealed.{sealed_by, sum_of_sealed, place_sum_of_sealed}
use Rattle.tpdu.specs.steps.Sums.{IsDigest, Sums}

-- the octets that are left are the first, and the sums are those of the others
pub record Summed (xs left : List ℕ) (first second : ℕ) : Type 0 where
  pub left_is : left ≡ take (length left) xs
  pub within : length left ≤ length xs
  pub first_is : first ≡ sum (drop (length left) xs) % 255
  pub second_is : second ≡ place_sum 1 (drop (length left) xs) % 255

second_back : (first second octet s p : ℕ) → first ≡ s % 255 → second ≡ p % 255 → (second + (first + octet) % 255) % 255 ≡ (octet + (p + 1 * s)) % 255
second_back first second octet s p e f = omega arith

summed_at : (xs left : List ℕ) (first second octet n : ℕ) → Summed xs left first second → length left ≡ n + 1 → octet ≡ get_or left n 0
    → Summed xs (take n left) ((first + octet) % 255) ((second + (first + octet) % 255) % 255)
summed_at xs left first second octet n s len is =
    let count : length (take n left) ≡ n = omega (arith, length-take n left) in
    let lefts : left ≡ take (n + 1) xs = s.left_is ∙ ap (λ (k : ℕ). take k xs) len in
    let front : take n left ≡ take n xs = ap (take n) lefts ∙ take-take n (n + 1) xs (omega arith) in
    let octet_is : octet ≡ get_or xs n 0 = is ∙ ap (λ (t : List ℕ). get_or t n 0) lefts ∙ get_or-take (n + 1) xs n 0 (omega arith) in
    let more : drop n xs ≡ octet ∷ drop (n + 1) xs = drop_more xs n 0 (omega (arith, s.within)) ∙ ap (λ (o : ℕ). o ∷ drop (n + 1) xs) (sym octet_is) in
    let first_is : first ≡ sum (drop (n + 1) xs) % 255 = s.first_is ∙ ap (λ (k : ℕ). sum (drop k xs) % 255) len in
    let second_is : second ≡ place_sum 1 (drop (n + 1) xs) % 255 = s.second_is ∙ ap (λ (k : ℕ). place_sum 1 (drop k xs) % 255) len in
    let shift = place_sum-shift 1 1 (drop (n + 1) xs) in
    let place : place_sum 1 (octet ∷ drop (n + 1) xs) ≡ octet + (place_sum 1 (drop (n + 1) xs) + 1 * sum (drop (n + 1) xs)) = omega (arith, shift) in
    record {
      left_is = front ∙ ap (λ (k : ℕ). take k xs) (sym count);
      within = omega (arith, s.within);
      first_is = rw (count, more, sum-cons octet (drop (n + 1) xs)) (omega arith);
      second_is = rw (count, more, place) (second_back first second octet (sum (drop (n + 1) xs)) (place_sum 1 (drop (n + 1) xs)) first_is second_is);
    }

pub summed_back : (xs left : List ℕ) (first second octet : ℕ) → Summed xs left first second → 1 ≤ length left → octet ≡ get_or left (length left - 1) 0
    → Summed xs (take (length left - 1) left) ((first + octet) % 255) ((second + (first + octet) % 255) % 255)
summed_back xs left first second octet s some is = summed_at xs left first second octet (length left - 1) s (omega arith) is

-- ---- data of which only the sums are known

same_first : (h d b : ℕ) → d % 255 ≡ b % 255 → (h + d) % 255 ≡ 0 → (h + b) % 255 ≡ 0
same_first h d b e z = omega arith

same_second : (h n d b p q : ℕ) → d % 255 ≡ b % 255 → p % 255 ≡ q % 255 → (h + (p + n * d)) % 255 ≡ 0 → (h + (q + n * b)) % 255 ≡ 0
same_second h n d b p q e f z =
    let nd : n * d ≡ n * (255 * (d / 255) + d % 255) = ap (λ m. n * m) (omega arith) in
    let nb : n * b ≡ n * (255 * (b / 255) + b % 255) = ap (λ m. n * m) (omega arith) in
    let same : n * (d % 255) ≡ n * (b % 255) = ap (λ m. n * m) e in
    omega (arith, nd, nb, same)

places : (h d : List ℕ) → place_sum 1 (h ++ d) ≡ place_sum 1 h + (place_sum 1 d + length h * sum d)
places h d = omega (arith, place_sum-append 1 h d, place_sum-shift 1 (length h) d)

pub sealed-digest : (h d b : List ℕ) → IsDigest b d → Sealed (h ++ d) → Sealed (h ++ b)
sealed-digest h d b is sealed =
    let first : (sum h + sum d) % 255 ≡ 0 = ap (λ (n : ℕ). n % 255) (sym (sum-append h d)) ∙ sum_of_sealed (h ++ d) sealed in
    let second : (place_sum 1 h + (place_sum 1 d + length h * sum d)) % 255 ≡ 0 = ap (λ (n : ℕ). n % 255) (sym (places h d)) ∙ place_sum_of_sealed (h ++ d) sealed in
    sealed_by (h ++ b)
    (ap (λ (n : ℕ). n % 255) (sum-append h b) ∙ same_first (sum h) (sum d) (sum b) is.first first)
    (ap (λ (n : ℕ). n % 255) (places h b) ∙ same_second (place_sum 1 h) (length h) (sum d) (sum b) (place_sum 1 d) (place_sum 1 b) is.first is.second second)

-- the checksum was sealed with the digest behind it, which then gave way to the data
pub sums_by : (old body digest sealed new : List ℕ) (at : ℕ) → at ≡ length old + 2 → IsDigest body digest → Seals ((old ++ 0xC3 ∷ 2 ∷ 0 ∷ 0 ∷ []) ++ digest) at sealed → new ≡ take (at + 2) sealed → Sums old body new
sums_by old body digest sealed new at at_is is s e =
    let before = old ++ 0xC3 ∷ 2 ∷ [] in
    let regroup : (old ++ 0xC3 ∷ 2 ∷ 0 ∷ 0 ∷ []) ++ digest ≡ before ++ 0 ∷ 0 ∷ digest = append_assoc old (0xC3 ∷ 2 ∷ 0 ∷ 0 ∷ []) digest ∙ sym (append_assoc old (0xC3 ∷ 2 ∷ []) (0 ∷ 0 ∷ digest)) in
    let count : length before ≡ at = length-append old (0xC3 ∷ 2 ∷ []) ∙ sym at_is in
    let front : take at ((old ++ 0xC3 ∷ 2 ∷ 0 ∷ 0 ∷ []) ++ digest) ≡ before = ap (take at) regroup ∙ take_at before (0 ∷ 0 ∷ digest) at count in
    let before2 = before ++ 0 ∷ 0 ∷ [] in
    let count2 : length before2 ≡ at + 2 = omega (arith, length-append before (0 ∷ 0 ∷ [])) in
    let behind : drop (at + 2) ((old ++ 0xC3 ∷ 2 ∷ 0 ∷ 0 ∷ []) ++ digest) ≡ digest
    = ap (drop (at + 2)) (regroup ∙ sym (append_assoc before (0 ∷ 0 ∷ []) digest)) ∙ drop_at before2 digest (at + 2) count2 in
    let header = before ++ s.first ∷ s.second ∷ [] in
    let count3 : length header ≡ at + 2 = omega (arith, length-append before (s.first ∷ s.second ∷ [])) in
    let written : sealed ≡ header ++ digest
    = s.written ∙ (λ i. front i ++ s.first ∷ s.second ∷ behind i) ∙ sym (append_assoc before (s.first ∷ s.second ∷ []) digest) in
    let new_is : new ≡ header = e ∙ ap (take (at + 2)) written ∙ take_at header digest (at + 2) count3 in
    record {
      high = s.first;
      low = s.second;
      high_used = s.first_used;
      low_used = s.second_used;
      appended = new_is ∙ append_assoc old (0xC3 ∷ 2 ∷ []) (s.first ∷ s.second ∷ []);
      sealed = subst (λ (t : List ℕ). Sealed (t ++ body)) (sym new_is) (sealed-digest header digest body is (subst Sealed written s.sealed));
    }

pub summed_start : (xs : List ℕ) → Summed xs xs 0 0
summed_start xs =
    let none : drop (length xs) xs ≡ [] = drop_all (length xs) xs (omega arith) in
    record { left_is = sym (take_all (length xs) xs (omega arith)); within = omega arith; first_is = rw none refl; second_is = rw none refl }

pub summed_end : (xs left : List ℕ) (first second : ℕ) → Summed xs left first second → length left ≡ 0 → (first ≡ sum xs % 255) × (second ≡ place_sum 1 xs % 255)
summed_end xs left first second s e =
    (s.first_is ∙ ap (λ (k : ℕ). sum (drop k xs) % 255) e, s.second_is ∙ ap (λ (k : ℕ). place_sum 1 (drop k xs) % 255) e)

pub sums_from : (old body digest longer was sealed new : List ℕ) (at : ℕ) → at ≡ length old + 2 → IsDigest body digest
    → longer ≡ old ++ 0xC3 ∷ 2 ∷ 0 ∷ 0 ∷ [] → was ≡ longer ++ digest → Seals was at sealed → new ≡ take (at + 2) sealed → Sums old body new
sums_from old body digest longer was sealed new at at_is is e f s g =
    let was_is : was ≡ (old ++ 0xC3 ∷ 2 ∷ 0 ∷ 0 ∷ []) ++ digest = f ∙ ap (λ (t : List ℕ). t ++ digest) e in
    sums_by old body digest sealed new at at_is is (subst (λ (t : List ℕ). Seals t at sealed) was_is s) g
