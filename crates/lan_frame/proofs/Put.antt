-- The header of a frame as its parts are put into their places, and the octets of a PDU as they move behind it.
-- Both addresses have six octets, so their lists are written out, and the rest computes.
use Rattle.std.proofs.Common.{◌≡◌, ℕ, ◌+◌, ◌-◌, ◌≤◌, List, [], ◌∷◌, ◌++◌, length, take, drop, refl, ap, append-nil, ◌∙◌, arith}
use Rattle.std.proofs.lemmas.List.{length-take-le}
use Rattle.std.proofs.Math.ListN.{drop_of_length-le}
use Rattle.std.proofs.Math.Seq.{drop_at}
use Rattle.std.specs.List.{copy_within}

-- the octets with a part in place of as many from a place on
abbrev pub put : ℕ → ℕ → List ℕ → List ℕ → List ℕ
put at count octets part = take at octets ++ (part ++ drop count (drop at octets))

-- what stands behind the first address before the other parts are put
abbrev pub zeros : List ℕ
zeros = 0 ∷ 0 ∷ 0 ∷ 0 ∷ 0 ∷ 0 ∷ 0 ∷ 0 ∷ 0 ∷ 0 ∷ 0 ∷ []

pub put_two : (to from : List ℕ) → length to ≡ 6 → length from ≡ 6 → length (put 6 6 (to ++ zeros) from) ≡ 17
put_two (a ∷ b ∷ c ∷ d ∷ e ∷ f ∷ []) (g ∷ h ∷ i ∷ j ∷ k ∷ l ∷ []) six other = refl
put_two to from six other = absurd (omega arith)

pub put_three : (to from behind : List ℕ) → length to ≡ 6 → length from ≡ 6 → length behind ≡ 2 → length (put 12 2 (put 6 6 (to ++ zeros) from) behind) ≡ 17
put_three (a ∷ b ∷ c ∷ d ∷ e ∷ f ∷ []) (g ∷ h ∷ i ∷ j ∷ k ∷ l ∷ []) (m ∷ n ∷ []) six other two = refl
put_three to from behind six other two = absurd (omega arith)

pub put_four : (to from behind llc : List ℕ) → length to ≡ 6 → length from ≡ 6 → length behind ≡ 2 → length llc ≡ 3
    → put 14 3 (put 12 2 (put 6 6 (to ++ zeros) from) behind) llc ≡ to ++ from ++ behind ++ llc
put_four (a ∷ b ∷ c ∷ d ∷ e ∷ f ∷ []) (g ∷ h ∷ i ∷ j ∷ k ∷ l ∷ []) (m ∷ n ∷ []) (o ∷ p ∷ q ∷ []) six other two three = refl
put_four to from behind llc six other two three = absurd (omega arith)

-- octets moved up by the length of a header, over as many at their end
pub moved_up : (octets : List ℕ) (count : ℕ) → count + 17 ≡ length octets → drop 17 (copy_within octets 0 count 17) ≡ take count octets
moved_up octets count is =
    let within : 17 ≤ length octets = omega (arith, is) in
    let past : length octets ≤ 17 + count = omega (arith, is) in
    let nothing : drop (17 + count) octets ≡ [] = drop_of_length-le octets past in
    let same : count - 0 ≡ count = omega arith in
    ap (λ (k : ℕ). drop 17 (take 17 octets ++ take k octets ++ drop (17 + k) octets)) same
    ∙ (ap (λ (rest : List ℕ). drop 17 (take 17 octets ++ take count octets ++ rest)) nothing
    ∙ (ap (drop 17) (append-nil (take 17 octets ++ take count octets))
    ∙ drop_at (take 17 octets) (take count octets) 17 (length-take-le 17 octets within)))
