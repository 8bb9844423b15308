-- A checksum can always be written: two octets from 1 to 255 take both sums to 0.
use Rattle.std.proofs.Common.{◌≡◌, ℕ, ◌+◌, ◌*◌, ◌-◌, ◌%◌, ◌<◌, ◌≤◌, List, ◌∷◌, ◌++◌, length, take, drop, sum, reverse, refl, sym, subst, arith, inl, inr}
use Rattle.std.proofs.lemmas.Bool.{cases_eq}
use Rattle.osi_base.specs.Fletcher.{Seals, place_sum}
use Rattle.osi_base.proofs.FletcherPair.{seals_written}
use Rattle.law_carrier_answers.specs.Answers.{AreOctets}
use Rattle.law_clnp_net.proofs.written.Octets.{octets_both, octets_drop, octets_take}

-- an octet from 1 to 255 that is the same modulo 255
record IsUsed (value octet : ℕ) : Type 0 where
  used : (0 < octet) × (octet < 256)
  same : octet % 255 ≡ value % 255

used : (value : ℕ) → (octet : ℕ) × IsUsed value octet
used value = elim (cases_eq (value % 255) 0) [
  | inl none ↦ (255, record { used = (omega arith, omega arith); same = omega (arith, none) })
  | inr some ↦ (value % 255, record { used = (omega (arith, some), omega arith); same = omega arith })
]

pub seal : (old : List ℕ) (at : ℕ) → at + 2 ≤ length old → (new : List ℕ) × Seals old at new
seal old at room =
    let zeros : List ℕ = take at old ++ 0 ∷ 0 ∷ drop (at + 2) old in
    let f : ℕ = sum zeros % 255 in
    let g : ℕ = place_sum 1 (reverse zeros) % 255 in
    let b : ℕ = length old - at - 1 in
    let x = used (b * f + (255 - g)) in
    let y = used ((b + 1) * (255 - f) + g) in
    let new : List ℕ = take at zeros ++ x.0 ∷ y.0 ∷ drop (at + 2) zeros in
    (new, seals_written old zeros new at f g b x.0 y.0 room refl refl refl refl refl x.1.same y.1.same x.1.used y.1.used)

pub sealed_octets : (old : List ℕ) (at : ℕ) (new : List ℕ) → AreOctets old → Seals old at new → AreOctets new
sealed_octets old at new h s =
    subst AreOctets (sym s.written)
    (octets_both (take at old) (s.first ∷ s.second ∷ drop (at + 2) old) (octets_take at old h) (s.first_used.1, (s.second_used.1, octets_drop (at + 2) old h)))
