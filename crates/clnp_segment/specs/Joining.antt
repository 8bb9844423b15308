-- Joining the segments of a unit (X.233, reassembly): what is held is a set of pairs of a position and an octet.
use Rattle.std.specs.Prelude.{◌≡◌, ◌≢◌, ◌⊎◌, ◌↔◌, ℕ, ◌+◌, ◌-◌, ◌<◌, List, count_by, is_some, length, map, replicate, slice_get, Option, None, Some}

-- a segment: its position in the data of the unit, its octets, and the lengths of the header and of the whole initial PDU
pub record Segment : Type 0 where
  pub offset : ℕ
  pub octets : List ℕ
  pub header : ℕ
  pub total : ℕ

-- the segment has that octet at that position
pub record Has (segment : Segment) (position octet : ℕ) : Type 0 where
  pub place : ℕ
  pub at : position ≡ segment.offset + place
  pub is : slice_get segment.octets place ≡ Some octet

-- what is held of a unit: a place for each position, with the octet where it came
pub record Held : Type 0 where
  pub header : ℕ
  pub total : ℕ
  pub slots : List (Option ℕ)

-- the pair of that position and that octet is held
abbrev pub Holds : Held → ℕ → ℕ → Type 0
Holds held position octet = slice_get held.slots position ≡ Some (Some octet)

-- two lengths differ, or one position has two octets
pub data Clash (held : Held) (segment : Segment) : Type 0 where
  Header : held.header ≢ segment.header → Clash held segment
  Total : held.total ≢ segment.total → Clash held segment
  Octet : (position first second : ℕ) → Holds held position first → Has segment position second → first ≢ second → Clash held segment

-- the pairs of both
pub record Together (old : Held) (segment : Segment) (new : Held) : Type 0 where
  pub header : new.header ≡ old.header
  pub total : new.total ≡ old.total
  pub positions : length new.slots ≡ length old.slots
  pub pairs : (position octet : ℕ) → Holds new position octet ↔ (Holds old position octet ⊎ Has segment position octet)

-- each position has an octet
abbrev pub Filled : Held → Type 0
Filled held = (position : ℕ) → position < length held.slots → (octet : ℕ) × Holds held position octet

-- the unit is the octets by rising position
abbrev pub IsUnit : Held → List ℕ → Type 0
IsUnit held octets = held.slots ≡ map Some octets

-- nothing, of a unit with the lengths of this segment
abbrev pub nothing_of : Segment → Held
nothing_of segment = record { header = segment.header; total = segment.total; slots = replicate (segment.total - segment.header) None }

-- how many octets are held
abbrev pub filled_places : Held → ℕ
filled_places held = count_by is_some held.slots

-- ---- one unit

-- what is held, and a segment, are of that unit
pub record IsOf (unit : List ℕ) (header : ℕ) (held : Held) : Type 0 where
  pub header_is : held.header ≡ header
  pub total_is : held.total ≡ header + length unit
  pub positions : length held.slots ≡ length unit
  pub octets : (position octet : ℕ) → Holds held position octet → slice_get unit position ≡ Some octet

pub record IsSegmentOf (unit : List ℕ) (header : ℕ) (segment : Segment) : Type 0 where
  pub header_is : segment.header ≡ header
  pub total_is : segment.total ≡ header + length unit
  pub octets : (position octet : ℕ) → Has segment position octet → slice_get unit position ≡ Some octet
