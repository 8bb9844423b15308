-- Units of which some segments came (X.233, reassembly, reassembly lifetime).
use Rattle.std.specs.Prelude.{◌≡◌, ◌≢◌, ◌==◌, ◌&&◌, ◌⊎◌, ℕ, ◌+◌, ◌-◌, ◌<◌, ◌≤◌, max, Bool, true, false, nat_eq, List, [], ◌∷◌, ◌++◌, length, Option, Some, None, MatchOption}
use Rattle.std.specs.List.{list_any, AllByRecursion}
use Rattle.std.specs.Cmp.Lexicographic.{pointwise}
use Rattle.clnp_header.specs.declared.pdu.PduRef.{PduRef}
use Rattle.clnp_header.specs.declared.pdu.SegmentPart.{SegmentPart}
use Rattle.clnp_segment.specs.Joining.{Segment, Held, Clash, Together, Filled, IsUnit, filled_places, nothing_of}
use Rattle.clnp_segment.specs.declared.store.Joined.{Joined}
use Rattle.clnp_segment.specs.declared.store.Joined.TheVariants as joined
use Rattle.clnp_segment.specs.declared.store.Expired.{Expired}

-- what the segments of one unit have alike
pub record Key : Type 0 where
  pub source : List ℕ
  pub destination : List ℕ
  pub id : ℕ

-- a unit of which some segments came: its key, what is held, until when, and of the segment that came first whether a report is wanted and its header
pub record Partial : Type 0 where
  pub source : List ℕ
  pub destination : List ℕ
  pub id : ℕ
  pub held : Held
  pub deadline : ℕ
  pub reportable : Bool
  pub first : List ℕ

-- all that is held, in the order in which it came, the most units and the most octets
pub record Holding : Type 0 where
  pub clock : ℕ
  pub units : ℕ
  pub octets : ℕ
  pub held : List Partial

abbrev pub is_key : Key → Key → Bool
is_key key other = pointwise nat_eq other.source key.source && pointwise nat_eq other.destination key.destination && other.id == key.id

abbrev pub key_of : Partial → Key
key_of unit = record { source = unit.source; destination = unit.destination; id = unit.id }

abbrev pub has_key : Key → Partial → Bool
has_key key unit = is_key key (key_of unit)

-- how many octets are held of all units
abbrev pub octets_held : List Partial → ℕ
octets_held [] = 0
octets_held (unit ∷ units) = filled_places unit.held + octets_held units

-- a segment that came: the unit's key, the ticks that its lifetime leaves, whether a report is wanted, and its header
pub record Coming : Type 0 where
  pub key : Key
  pub segment : Segment
  pub left : ℕ
  pub reportable : Bool
  pub header : List ℕ

-- the segment that a PDU with that segmentation part is
abbrev pub coming_of : PduRef → SegmentPart → ℕ → Bool → Coming
coming_of pdu part left reportable = record {
  key = record { source = pdu.source; destination = pdu.destination; id = part.id };
  segment = record { offset = part.offset; octets = pdu.body.now; header = length pdu.header.now; total = part.total };
  left = left;
  reportable = reportable;
  header = pdu.header.now;
}

-- the segment ends within the initial PDU
abbrev pub FitsIn : PduRef → SegmentPart → Type 0
FitsIn pdu part = part.offset + (length pdu.header.now + length pdu.body.now) ≤ part.total

-- a PDU with a segmentation part by which it does
abbrev pub MayCome : PduRef → Type 0
MayCome pdu = MatchOption pdu.segment ⊥ (FitsIn pdu)

-- ---- what is always so

-- each unit has another key than those after it
abbrev pub AreApart : List Partial → Type 0
AreApart [] = Unit {0}
AreApart (unit ∷ units) = AllByRecursion (λ other. key_of other ≢ key_of unit) units × AreApart units

-- a place for each octet of the unit
abbrev pub HasPlaces : Partial → Type 0
HasPlaces unit = unit.held.header + length unit.held.slots ≡ unit.held.total

-- the units and the octets are no more than the most, each unit has another key, and a place for each of its octets
pub record IsWithin (store : Holding) : Type 0 where
  pub units : length store.held ≤ store.units
  pub octets : octets_held store.held ≤ store.octets
  pub apart : AreApart store.held
  pub places : AllByRecursion HasPlaces store.held

-- the clock is at that tick, and the most units and octets are the same
abbrev pub IsAt : Holding → ℕ → Holding → Type 0
IsAt old now new = (new.clock ≡ now) × (new.units ≡ old.units) × (new.octets ≡ old.octets)

-- ---- a segment comes

-- the units before that of the key, it, and those after; or none is there
pub data At (key : Key) (held before : List Partial) (found : Option Partial) (after : List Partial) : Type 0 where
  There : (unit : Partial) → found ≡ Some unit → held ≡ before ++ unit ∷ after → has_key key unit ≡ true → list_any (has_key key) before ≡ false
      → At key held before found after
  New : found ≡ None → before ≡ held → after ≡ [] → list_any (has_key key) held ≡ false → At key held before found after

-- what is held of the key; of one that is not there nothing, with the lengths of this segment
abbrev pub found_or_nothing : Option Partial → Segment → Held
found_or_nothing None segment = nothing_of segment
found_or_nothing (Some unit) segment = unit.held

-- the unit with what is then held; the first segment that came gives its report and its header, the latest deadline counts
abbrev pub partial_with : Option Partial → Coming → Held → ℕ → Partial
partial_with None coming new deadline = record {
  source = coming.key.source;
  destination = coming.key.destination;
  id = coming.key.id;
  held = new;
  deadline = deadline;
  reportable = coming.reportable;
  first = coming.header;
}
partial_with (Some unit) coming new deadline = record unit { held = new; deadline = max unit.deadline deadline }

-- a new key while the most units are held, or octets beyond the most
abbrev pub HasNoRoom : Holding → Option Partial → Held → Held → Type 0
HasNoRoom store found old new =
    ((found ≡ None) × (store.units ≤ length store.held)) ⊎ (store.octets < octets_held store.held + (filled_places new - filled_places old))

-- no clash, and the pairs of both
abbrev pub Joins : Option Partial → Segment → Held → Type 0
Joins found segment new = (Clash (found_or_nothing found segment) segment → ⊥) × Together (found_or_nothing found segment) segment new

-- the first that applies: a clash, all positions filled, no room, else it is held
abbrev pub TakesAt : Holding → ℕ → Coming → List Partial → Option Partial → List Partial → Joined → Holding → Type 0
TakesAt store now coming before found rest joined.Interference after =
    Clash (found_or_nothing found coming.segment) coming.segment × (after ≡ record store { clock = now; held = before ++ rest })
TakesAt store now coming before found rest (joined.Whole octets) after =
    (new : Held) × Joins found coming.segment new × Filled new × IsUnit new octets × (after ≡ record store { clock = now; held = before ++ rest })
TakesAt store now coming before found rest joined.Full after =
    (new : Held) × Joins found coming.segment new × (Filled new → ⊥) × HasNoRoom store found (found_or_nothing found coming.segment) new
    × (after ≡ record store { clock = now })
TakesAt store now coming before found rest joined.Held after =
    (new : Held) × Joins found coming.segment new × (Filled new → ⊥) × (HasNoRoom store found (found_or_nothing found coming.segment) new → ⊥)
    × (after ≡ record store { clock = now; held = before ++ partial_with found coming new (now + coming.left) ∷ rest })

pub record Takes (store : Holding) (now : ℕ) (coming : Coming) (answer : Joined) (after : Holding) : Type 0 where
  pub before : List Partial
  pub found : Option Partial
  pub rest : List Partial
  pub at : At coming.key store.held before found rest
  pub takes : TakesAt store now coming before found rest answer after

-- ---- a unit expires

-- the unit of least deadline that is past it, of two the one that came first
pub record ExpiresFirst (store : Holding) (now : ℕ) (expired : Expired) (after : Holding) : Type 0 where
  pub before : List Partial
  pub unit : Partial
  pub rest : List Partial
  pub stands : store.held ≡ before ++ unit ∷ rest
  pub past : unit.deadline < now
  pub sooner : AllByRecursion (λ other. unit.deadline < other.deadline) before
  pub first : AllByRecursion (λ other. unit.deadline ≤ other.deadline) rest
  pub expired_is : expired ≡ record { source = unit.source; reportable = unit.reportable; header = unit.first }
  pub after_is : after ≡ record store { clock = now; held = before ++ rest }

abbrev pub Expires : Holding → ℕ → Option Expired → Holding → Type 0
Expires store now None after = AllByRecursion (λ unit. now ≤ unit.deadline) store.held × (after ≡ record store { clock = now })
Expires store now (Some expired) after = ExpiresFirst store now expired after
