-- Places for octets: what is written into them, and what octets do to them.
use Rattle.std.specs.Prelude.{◌≡◌, ℕ, ◌+◌, Bool, false, not, ◌&&◌, ◌||◌, ◌==◌, List, [], ◌∷◌, count_by, is_some, length, slice_get, slice_set, Option, Some, None, true}
use Rattle.clnp_segment.specs.Joining.{Clash, Filled, Held, Segment, Together, filled_places}
use Rattle.clnp_segment.specs.declared.held.SegmentRef.{SegmentRef}
use Rattle.clnp_segment.specs.declared.held.Verdict.{Verdict}
use Rattle.clnp_segment.specs.declared.held.Verdict.TheVariants as verdict

-- there is another octet at the place
abbrev pub differs : Option (Option ℕ) → ℕ → Bool
differs None octet = false
differs (Some None) octet = false
differs (Some (Some held)) octet = not (held == octet)

-- one of the octets is another than that at its place
abbrev pub is_clash : List (Option ℕ) → ℕ → List ℕ → Bool
is_clash slots at [] = false
is_clash slots at (octet ∷ octets) = differs (slice_get slots at) octet || is_clash slots (at + 1) octets

-- the octets are written, one after another
abbrev pub written : List (Option ℕ) → ℕ → List ℕ → List (Option ℕ)
written slots at [] = slots
written slots at (octet ∷ octets) = written (slice_set slots at (Some octet)) (at + 1) octets

-- the segment that is lent
abbrev pub segment_of : SegmentRef → Segment
segment_of segment = record { offset = segment.offset; octets = segment.octets.now; header = segment.header; total = segment.total }

-- the segment is the whole unit
abbrev pub is_alone : Segment → Bool
is_alone segment = segment.offset == 0 && segment.header + length segment.octets == segment.total

-- what is held with the octets of the segment
abbrev pub with_segment : Held → Segment → Held
with_segment held segment = record held { slots = written held.slots segment.offset segment.octets }

-- what octets do to places
abbrev pub Compares : List (Option ℕ) → ℕ → List ℕ → Verdict → Type 0
Compares slots at octets verdict.Clash = is_clash slots at octets ≡ true
Compares slots at octets verdict.Whole =
    (is_clash slots at octets ≡ false) × (count_by is_some (written slots at octets) ≡ length (written slots at octets))
Compares slots at octets (verdict.Fresh fresh) =
    (is_clash slots at octets ≡ false) × (count_by is_some (written slots at octets) ≡ length (written slots at octets) → ⊥)
    × (count_by is_some (written slots at octets) ≡ count_by is_some slots + fresh)

-- what a segment does to what is held
abbrev pub Judges : Held → Segment → Verdict → Type 0
Judges held segment verdict.Clash = Clash held segment
Judges held segment verdict.Whole = (Clash held segment → ⊥) × Together held segment (with_segment held segment) × Filled (with_segment held segment)
Judges held segment (verdict.Fresh fresh) =
    (Clash held segment → ⊥) × Together held segment (with_segment held segment) × (Filled (with_segment held segment) → ⊥)
    × (filled_places (with_segment held segment) ≡ filled_places held + fresh)
