-- A unit of some octets, and no more than one piece may have, is one piece.
use Rattle.std.proofs.Common.{◌≡◌, ◌<◌, ◌≤◌, ◌+◌, ◌*◌, ◌/◌, ◌%◌, ℕ, zero, suc, refl, arith}
use Rattle.std.specs.Prelude.{min}
use Rattle.std.proofs.lemmas.Grind.{div_ceil_times}

one_of : (count size pieces : ℕ) → 0 < count → count ≤ size → count ≤ pieces * size → pieces * size < count + size → pieces ≡ 1
one_of count size zero some fits least most = absurd (omega (arith, some, least))
one_of count size (suc zero) some fits least most = refl
one_of count size (suc (suc pieces)) some fits least most = absurd (omega (arith, fits, most))

pub one_piece : (count size : ℕ) → 0 < count → count ≤ size → count / size + min 1 (count % size) ≡ 1
one_piece count size some fits =
    let between = div_ceil_times count size (omega (arith, some, fits)) in
    one_of count size (count / size + min 1 (count % size)) some fits between.0 between.1
