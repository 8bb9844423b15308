-- The promise on segments: what segments of one unit come to is the unit, whatever else comes.
use Rattle.std.specs.Prelude.{◌≡◌, ℕ, List, [], ◌∷◌, MatchOption}
use Rattle.std.specs.List.{AllByRecursion}
use Rattle.clnp_header.specs.declared.pdu.Pdu.{Pdu}
use Rattle.clnp_header.specs.declared.pdu.SegmentPart.{SegmentPart}
use Rattle.clnp_header.specs.Writing.{header_length}
use Rattle.clnp_segment.specs.Joining.{IsOf, IsSegmentOf, Segment}
use Rattle.clnp_segment.specs.Store.{Coming, Holding, Key, Takes, key_of}
use Rattle.clnp_segment.specs.declared.store.Joined.{Joined}
use Rattle.clnp_segment.specs.declared.store.Joined.TheVariants as joined

-- a segment that came, when, and its answer
pub record Came : Type 0 where
  pub now : ℕ
  pub coming : Coming
  pub answer : Joined

-- segments came, one after another
abbrev pub TakesAll : Holding → List Came → Holding → Type 0
TakesAll store [] after = after ≡ store
TakesAll store (came ∷ rest) after = (mid : Holding) × Takes store came.now came.coming came.answer mid × TakesAll mid rest after

-- what is held of that key is of that unit
abbrev pub HoldsOnly : Key → List ℕ → ℕ → Holding → Type 0
HoldsOnly key unit header store = AllByRecursion (λ partial. key_of partial ≡ key → IsOf unit header partial.held) store.held

-- a segment of that key is of that unit
abbrev pub IsOnly : Key → List ℕ → ℕ → Came → Type 0
IsOnly key unit header came = came.coming.key ≡ key → IsSegmentOf unit header came.coming.segment

-- there is no interference, and nothing is whole but the unit
abbrev pub AnswersOnly : List ℕ → Joined → Type 0
AnswersOnly unit joined.Interference = ⊥
AnswersOnly unit (joined.Whole octets) = octets ≡ unit
AnswersOnly unit joined.Full = Unit {0}
AnswersOnly unit joined.Held = Unit {0}

-- ---- what is cut

-- the segment that a PDU with that segmentation part is
abbrev pub segment_in : Pdu → SegmentPart → Segment
segment_in pdu part = record { offset = part.offset; octets = pdu.body; header = header_length pdu; total = part.total }

-- the PDU is a segment of that unit
abbrev pub IsOfUnit : List ℕ → ℕ → Pdu → Type 0
IsOfUnit unit header pdu = MatchOption pdu.segment ⊥ (λ part. IsSegmentOf unit header (segment_in pdu part))
