-- Remainders by 255. Each number is written as 255 times a quotient and its remainder.
-- Equations of products are multiplied out by hand (`ap`); what is left is linear in the products.
use Rattle.std.proofs.Common.{ℕ, ◌+◌, ◌*◌, ◌%◌, ◌/◌, ◌≡◌, ◌<◌, ap, arith}

-- a reduced term may stand for the whole one, also as a factor
pub reduced_sum : (x y z n : ℕ) → (x % 255 + n * (y % 255) + z) % 255 ≡ (x + n * y + z) % 255
reduced_sum x y z n =
    let e : n * y ≡ n * (255 * (y / 255) + y % 255) = ap (λ m. n * m) (omega arith) in
    omega (arith, e)

-- numbers that agree modulo 255 are the same but for multiples of it
pub quotients : (x w : ℕ) → x % 255 ≡ w % 255 → x + 255 * (w / 255) ≡ w + 255 * (x / 255)
quotients x w same = omega arith

-- where the sum is 0, either place sum is 0 with the other
pub other_sum : (r p n s : ℕ) → r + p ≡ n * s → s % 255 ≡ 0 → r % 255 ≡ 0 → p % 255 ≡ 0
other_sum r p n s both none h =
    let e : n * s ≡ n * (255 * (s / 255)) = ap (λ m. n * m) (omega arith) in
    omega (arith, e)

-- The two octets x and y take the sum s and the place sum p of the others to 0. The running sum of the others is r,
-- x is at the place n, and b places are behind it. The code has f and g of s and r, with f' and g' up to 255.
pub sealed_sum :
    (s f f' g g' b x y q i j k l : ℕ)
    → s ≡ 255 * q + f → f + f' ≡ 255 → g + g' ≡ 255
    → x + 255 * i ≡ b * f + g' + 255 * j → y + 255 * k ≡ (b + 1) * f' + g + 255 * l
    → (s + x + y) % 255 ≡ 0
sealed_sum s f f' g g' b x y q i j k l s_is f_whole g_whole x_is y_is =
    let e : b * (f + f') ≡ b * 255 = ap (λ m. b * m) f_whole in
    omega (arith, e)

pub sealed_place_sum :
    (s p r f f' g g' b n x y q t i j k l : ℕ)
    → r + p ≡ (n + b + 1) * s → s ≡ 255 * q + f → r ≡ 255 * t + g → f + f' ≡ 255 → g + g' ≡ 255
    → x + 255 * i ≡ b * f + g' + 255 * j → y + 255 * k ≡ (b + 1) * f' + g + 255 * l
    → (p + n * x + (n + 1) * y) % 255 ≡ 0
sealed_place_sum s p r f f' g g' b n x y q t i j k l both s_is r_is f_whole g_whole x_is y_is =
    let first : n * (x + 255 * i) ≡ n * (b * f + g' + 255 * j) = ap (λ m. n * m) x_is in
    let second : (n + 1) * (y + 255 * k) ≡ (n + 1) * ((b + 1) * f' + g + 255 * l) = ap (λ m. (n + 1) * m) y_is in
    let whole : (n + b + 1) * s ≡ (n + b + 1) * (255 * q + f) = ap (λ m. (n + b + 1) * m) s_is in
    let f_whole_b : b * (f + f') ≡ b * 255 = ap (λ m. b * m) f_whole in
    let f_whole_n : n * (f + f') ≡ n * 255 = ap (λ m. n * m) f_whole in
    let f_whole_n_b : n * b * (f + f') ≡ n * b * 255 = ap (λ m. n * b * m) f_whole in
    let g_whole_n : n * (g + g') ≡ n * 255 = ap (λ m. n * m) g_whole in
    omega arith

-- two pairs of used octets that take one sum and one place sum to 0
pub same_pair :
    (s p n x y u v : ℕ)
    → (s + x + y) % 255 ≡ 0 → (p + n * x + (n + 1) * y) % 255 ≡ 0
    → (s + u + v) % 255 ≡ 0 → (p + n * u + (n + 1) * v) % 255 ≡ 0
    → 0 < x → x < 256 → 0 < y → y < 256 → 0 < u → u < 256 → 0 < v → v < 256
    → (x ≡ u) × (y ≡ v)
same_pair s p n x y u v sum_xy place_xy sum_uv place_uv x_used x_fits y_used y_fits u_used u_fits v_used v_fits =
    let e : n * (s + x + y) ≡ n * (255 * ((s + x + y) / 255)) = ap (λ m. n * m) (omega arith) in
    let d : n * (s + u + v) ≡ n * (255 * ((s + u + v) / 255)) = ap (λ m. n * m) (omega arith) in
    let same : y ≡ v = omega (arith, e, d) in
    (omega arith, same)
