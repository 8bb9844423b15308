-- Lists of octets, put together and taken apart.
use Rattle.std.proofs.Common.{◌≡◌, ℕ, zero, suc, ◌<◌, List, [], ◌∷◌, ◌++◌, length, take, drop, Option, Some, None, refl, arith}
use Rattle.std.specs.Prelude.{IsSome}
use Rattle.pdu_parts.specs.Field.{field}
use Rattle.pdu_parts.specs.Number.{two_octets}
use Rattle.law_carrier_answers.specs.Answers.{AreOctets}
use Rattle.law_clnp_step.proofs.Lists.{all_back, all_both, all_front}

-- ---- what holds of all members of a list

pub some_of : {A : Type 0} (found : Option A) → IsSome found → (x : A) × (found ≡ Some x)
some_of None e = absurd cc
some_of (Some x) e = (x, refl)

-- ---- octets

pub octets_both : (xs ys : List ℕ) → AreOctets xs → AreOctets ys → AreOctets (xs ++ ys)
octets_both xs ys h k = all_both (λ octet. octet < 256) xs ys h k

pub octets_front : (xs ys : List ℕ) → AreOctets (xs ++ ys) → AreOctets xs
octets_front xs ys h = all_front (λ octet. octet < 256) xs ys h

pub octets_back : (xs ys : List ℕ) → AreOctets (xs ++ ys) → AreOctets ys
octets_back xs ys h = all_back (λ octet. octet < 256) xs ys h

pub octets_take : (n : ℕ) (xs : List ℕ) → AreOctets xs → AreOctets (take n xs)
octets_take zero xs h = tt
octets_take (suc n) [] h = tt
octets_take (suc n) (x ∷ xs) h = (h.0, octets_take n xs h.1)

pub octets_drop : (n : ℕ) (xs : List ℕ) → AreOctets xs → AreOctets (drop n xs)
octets_drop zero xs h = h
octets_drop (suc n) [] h = tt
octets_drop (suc n) (x ∷ xs) h = octets_drop n xs h.1

pub octets_field : (xs : List ℕ) → length xs < 256 → AreOctets xs → AreOctets (field xs)
octets_field xs short h = (short, h)

pub two_are_octets : (n : ℕ) → n < 65536 → AreOctets (two_octets n)
two_are_octets n h = (omega (arith, h), (omega arith, tt))

pub two_fit : (n : ℕ) → AreOctets (two_octets n) → n < 65536
two_fit n h = omega (arith, h.0)
