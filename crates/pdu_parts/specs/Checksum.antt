-- The checksum of a header, in its eighth and ninth octet (X.233, header error detection; ISO 9542, PDU header analysis).
use Rattle.std.specs.Prelude.{◌≡◌, ◌==◌, ◌&&◌, ◌||◌, not, ℕ, ◌<◌, Bool, true, false, if◌then◌else◌, List, slice_index, Option, Some, None}
use Rattle.osi_base.specs.Fletcher.{Sealed, is_sealed}

-- the two octets of the checksum of a header: both 0 where it is not used, else neither of them, and it holds
abbrev pub IsChecksum : Bool → ℕ → ℕ → List ℕ → Type 0
IsChecksum false first second header = (first ≡ 0) × (second ≡ 0)
IsChecksum true first second header = (0 < first) × (first < 256) × (0 < second) × (second < 256) × Sealed header

-- whether the checksum of a header is used; none where one of its octets is 0, or it does not hold
unfoldable pub checksum_in : List ℕ → Option Bool
checksum_in header =
    if (slice_index header 7 == 0) && (slice_index header 8 == 0) then Some false
    else if (slice_index header 7 == 0) || (slice_index header 8 == 0) || not (is_sealed header) then None
    else Some true
