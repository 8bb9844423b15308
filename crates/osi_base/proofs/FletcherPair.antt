-- The two sums of a list with two octets of a checksum in it, as sums over the others and over the two.
-- So the octets that the code computes seal the list, and two used pairs that seal it are the same.
use Rattle.std.proofs.Common.{ℕ, ◌+◌, ◌*◌, ◌-◌, ◌%◌, ◌/◌, ◌≡◌, ◌<◌, ◌≤◌, List, ◌∷◌, ◌++◌, sum, reverse, take, drop, length, arith, refl, ◌∙◌, length-append, length-take, length-drop}
use Rattle.std.proofs.Math.Seq.{drop-append-add}
use Rattle.std.proofs.lemmas.List.{take-append-le, take_all}
use Rattle.osi_base.specs.Fletcher.{place_sum, Sealed, Seals}
use Rattle.osi_base.specs.Laws.{OneSeal}
use Rattle.osi_base.proofs.FletcherSums.{sum-append, sum-cons, place_sum-append, both_place_sums}
use Rattle.osi_base.proofs.FletcherSealed.{sealed_by, sum_of_sealed, place_sum_of_sealed}
use Rattle.osi_base.proofs.FletcherModulo.{sealed_sum, sealed_place_sum, same_pair, quotients}

pub sum-pair :
    (before after : List ℕ) (x y : ℕ) → sum (before ++ x ∷ y ∷ after) ≡ sum before + sum after + x + y
sum-pair before after x y =
    rw (sum-append before (x ∷ y ∷ after), sum-cons x (y ∷ after), sum-cons y after) (omega arith)

pub place_sum-pair :
    (before after : List ℕ) (x y : ℕ)
    → place_sum 1 (before ++ x ∷ y ∷ after)
    ≡ place_sum 1 before + place_sum (length before + 3) after + (length before + 1) * x + (length before + 1 + 1) * y
place_sum-pair before after x y =
    let e : 1 + length before + 1 + 1 ≡ length before + 3 = omega arith in
    rw (place_sum-append 1 before (x ∷ y ∷ after), e) (omega arith)

-- the checksum that the code computes with zeros in its place holds
pub seals_pair :
    (before after : List ℕ) (f g b x y : ℕ)
    → b ≡ length after + 1
    → f ≡ sum (before ++ 0 ∷ 0 ∷ after) % 255 → g ≡ place_sum 1 (reverse (before ++ 0 ∷ 0 ∷ after)) % 255
    → x % 255 ≡ (b * f + (255 - g)) % 255 → y % 255 ≡ ((b + 1) * (255 - f) + g) % 255
    → Sealed (before ++ x ∷ y ∷ after)
seals_pair before after f g b x y b_is f_is g_is x_is y_is =
    let zeros : List ℕ = before ++ 0 ∷ 0 ∷ after in
    let n : ℕ = length before + 1 in
    let s : ℕ = sum before + sum after in
    let p : ℕ = place_sum 1 before + place_sum (length before + 3) after in
    let r : ℕ = place_sum 1 (reverse zeros) in
    let s_is : sum zeros ≡ s + 0 + 0 = sum-pair before after 0 0 in
    let places : n + b + 1 ≡ length zeros + 1 = omega (arith, length-append before (0 ∷ 0 ∷ after)) in
    let both : r + p ≡ (n + b + 1) * s =
    rw places (omega (arith, rw (place_sum-pair before after 0 0, sum-pair before after 0 0) at (both_place_sums zeros))) in
    sealed_by _
    (rw (sum-pair before after x y)
    (sealed_sum s f (255 - f) g (255 - g) b x y (s / 255) ((b * f + (255 - g)) / 255) (x / 255) (((b + 1) * (255 - f) + g) / 255) (y / 255)
    (omega arith) (omega arith) (omega arith) (quotients _ _ x_is) (quotients _ _ y_is)))
    (rw (place_sum-pair before after x y)
    (sealed_place_sum s p r f (255 - f) g (255 - g) b n x y (s / 255) (r / 255) ((b * f + (255 - g)) / 255) (x / 255) (((b + 1) * (255 - f) + g) / 255) (y / 255)
    both (omega arith) (omega arith) (omega arith) (omega arith) (quotients _ _ x_is) (quotients _ _ y_is)))

-- two octets written over two others leave what is before and behind them
pub pair_again :
    (before after : List ℕ) (x y u v : ℕ) (at : ℕ)
    → at ≡ length before
    → take at (before ++ x ∷ y ∷ after) ++ u ∷ v ∷ drop (at + 2) (before ++ x ∷ y ∷ after) ≡ before ++ u ∷ v ∷ after
pair_again before after x y u v at at_is =
    rw (at_is, take-append-le (length before) before (x ∷ y ∷ after) (omega arith), take_all (length before) before (omega arith), drop-append-add before (x ∷ y ∷ after) 2)
    refl

pub seals_written :
    (old zeros new : List ℕ) (at f g b x y : ℕ)
    → at + 2 ≤ length old → b ≡ length old - at - 1
    → zeros ≡ take at old ++ 0 ∷ 0 ∷ drop (at + 2) old → new ≡ take at zeros ++ x ∷ y ∷ drop (at + 2) zeros
    → f ≡ sum zeros % 255 → g ≡ place_sum 1 (reverse zeros) % 255
    → x % 255 ≡ (b * f + (255 - g)) % 255 → y % 255 ≡ ((b + 1) * (255 - f) + g) % 255
    → (0 < x) × (x < 256) → (0 < y) × (y < 256)
    → Seals old at new
seals_written old zeros new at f g b x y room b_is zeros_is new_is f_is g_is x_is y_is x_used y_used =
    let before : List ℕ = take at old in
    let after : List ℕ = drop (at + 2) old in
    let at_is : at ≡ length before = omega (arith, length-take at old) in
    let b_is' : b ≡ length after + 1 = omega (arith, length-drop (at + 2) old) in
    let written : new ≡ before ++ x ∷ y ∷ after =
    new_is ∙ rw zeros_is (pair_again before after 0 0 x y at at_is) in
    record {
      first = x;
      second = y;
      first_used = x_used;
      second_used = y_used;
      written = written;
      sealed = rw written (seals_pair before after f g b x y b_is' (rw zeros_is at f_is) (rw zeros_is at g_is) x_is y_is);
    }

pub one_pair : OneSeal
one_pair before after x y u v x_used x_fits y_used y_fits u_used u_fits v_used v_fits holds holds' =
    same_pair (sum before + sum after) (place_sum 1 before + place_sum (length before + 3) after) (length before + 1) x y u v
    (rw (sum-pair before after x y) at (sum_of_sealed _ holds))
    (rw (place_sum-pair before after x y) at (place_sum_of_sealed _ holds))
    (rw (sum-pair before after u v) at (sum_of_sealed _ holds'))
    (rw (place_sum-pair before after u v) at (place_sum_of_sealed _ holds'))
    x_used x_fits y_used y_fits u_used u_fits v_used v_fits
