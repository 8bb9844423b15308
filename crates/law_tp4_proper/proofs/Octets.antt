-- Lists of octets, put together and taken apart.
use Rattle.std.proofs.Common.{ℕ, zero, suc, ◌+◌, ◌<◌, List, [], ◌∷◌, ◌++◌, arith}
use Rattle.std.specs.Prelude.{slice_index}
use Rattle.std.specs.Int.{byte_at, bytes_high_first}
use Rattle.osi_base.proofs.Members.{all_back, all_both, all_front}
use Rattle.pdu_parts.specs.Number.{number_at, two_octets}
use Rattle.law_carrier_answers.specs.Answers.{AreOctets}
use Rattle.law_tp4_proper.specs.Octets.{IsPair}

abbrev pub IsOctet : ℕ → Type 0
IsOctet octet = octet < 256

pub octets_both : (xs ys : List ℕ) → AreOctets xs → AreOctets ys → AreOctets (xs ++ ys)
octets_both xs ys h k = all_both IsOctet xs ys h k

pub octets_front : (xs ys : List ℕ) → AreOctets (xs ++ ys) → AreOctets xs
octets_front xs ys h = all_front IsOctet xs ys h

pub octets_back : (xs ys : List ℕ) → AreOctets (xs ++ ys) → AreOctets ys
octets_back xs ys h = all_back IsOctet xs ys h

-- the octet at a place, and two of them
pub octet_at : (xs : List ℕ) (at : ℕ) → AreOctets xs → slice_index xs at < 256
octet_at [] at h = omega arith
octet_at (x ∷ xs) zero h = h.0
octet_at (x ∷ xs) (suc at) h = octet_at xs at h.1

pub pair_at : (xs : List ℕ) (at : ℕ) → AreOctets xs → IsPair (number_at at xs)
pair_at xs at h = let high = octet_at xs at h in let low = octet_at xs (at + 1) h in omega (arith, high, low)

pub two_are_octets : (n : ℕ) → IsPair n → AreOctets (two_octets n)
two_are_octets n h = (omega (arith, h), (omega arith, tt))

byte_low : (place n : ℕ) → byte_at place n < 256
byte_low zero n = omega arith
byte_low (suc place) n = omega arith

pub bytes_are_octets : (count n : ℕ) → AreOctets (bytes_high_first count n)
bytes_are_octets zero n = tt
bytes_are_octets (suc count) n = (byte_low count n, bytes_are_octets count n)
