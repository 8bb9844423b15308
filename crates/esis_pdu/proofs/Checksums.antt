-- The checksum of the eighth and ninth octet is found exactly where it is one, by whether each octet is 0.
use Rattle.std.proofs.Common.{◌≡◌, ℕ, ◌<◌, cond, Bool, true, false, List, slice_index, Some, None, refl, arith}
use Rattle.std.specs.Prelude.{◌==◌, ◌&&◌, ◌||◌, not}
use Rattle.std.specs.Option.{is_some}
use Rattle.osi_base.specs.Fletcher.{is_sealed}
use Rattle.pdu_parts.specs.Checksum.{IsChecksum, checksum_in}

-- the test of a number for 0
record Tells (b : Bool) (n : ℕ) : Type 0 where
  pub zero_is : b ≡ true → n ≡ 0
  pub some_is : b ≡ false → 0 < n

tells : (n : ℕ) → Tells (n == 0) n
tells n = record { zero_is = λ e. grind arith; some_is = λ e. grind arith }

sealed_by : (b : Bool) → is_some (cond (not b) None (Some true)) ≡ true → b ≡ true
sealed_by true e = refl
sealed_by false e = absurd cc

found_by : (a b : Bool) (first second : ℕ) (header : List ℕ) → Tells a first → Tells b second → first < 256 → second < 256
    → is_some (cond (a && b) (Some false) (cond (a || b || not (is_sealed header)) None (Some true))) ≡ true → (used : Bool) × IsChecksum used first second header
found_by true true first second header t u small less e = (false, (t.zero_is refl, u.zero_is refl))
found_by true false first second header t u small less e = absurd cc
found_by false true first second header t u small less e = absurd cc
found_by false false first second header t u small less e =
    (true, (t.some_is refl, small, u.some_is refl, less, sealed_by (is_sealed header) e))

there_by : (used a b : Bool) (first second : ℕ) (header : List ℕ) → Tells a first → Tells b second → IsChecksum used first second header
    → is_some (cond (a && b) (Some false) (cond (a || b || not (is_sealed header)) None (Some true))) ≡ true
there_by false true true first second header t u is = refl
there_by false false b first second header t u is = absurd (omega (arith, is.0, t.some_is refl))
there_by false true false first second header t u is = absurd (omega (arith, is.1, u.some_is refl))
there_by true true b first second header t u is = absurd (omega (arith, is.0, t.zero_is refl))
there_by true false true first second header t u is = absurd (omega (arith, is.2, u.zero_is refl))
there_by true false false first second header t u is = let sealed : is_sealed header ≡ true = is.4 in rw sealed refl

pub checksum_found : (header : List ℕ) → slice_index header 7 < 256 → slice_index header 8 < 256 → is_some (checksum_in header) ≡ true
    → (used : Bool) × IsChecksum used (slice_index header 7) (slice_index header 8) header
unfolding checksum_in
checksum_found header small less e =
    found_by (slice_index header 7 == 0) (slice_index header 8 == 0) _ _ header (tells (slice_index header 7)) (tells (slice_index header 8)) small less e

pub checksum_there : (header : List ℕ) (used : Bool) → IsChecksum used (slice_index header 7) (slice_index header 8) header → is_some (checksum_in header) ≡ true
unfolding checksum_in
checksum_there header used is =
    there_by used (slice_index header 7 == 0) (slice_index header 8 == 0) _ _ header (tells (slice_index header 7)) (tells (slice_index header 8)) is
