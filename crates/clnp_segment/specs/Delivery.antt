-- The pieces of a PDU, cut and forwarded on the way and delivered in any order, come to its data (X.233, segmentation, reassembly).
use Rattle.std.specs.Prelude.{◌≡◌, ◌⊎◌, ℕ, zero, suc, List, [], ◌∷◌, ◌++◌, length, Some}
use Rattle.std.specs.List.{AllByRecursion}
use Rattle.clnp_header.specs.declared.pdu.Pdu.{Pdu}
use Rattle.clnp_header.specs.declared.pdu.PduRef.{PduRef}
use Rattle.clnp_header.specs.declared.pdu.SegmentPart.{SegmentPart}
use Rattle.clnp_header.specs.Values.{value_of}
use Rattle.clnp_header.specs.Writing.{header_length, pdu_length}
use Rattle.clnp_segment.specs.Cutting.{Cuts}
use Rattle.clnp_segment.specs.Store.{Coming, Key, coming_of}
use Rattle.clnp_segment.specs.Units.{Came}
use Rattle.clnp_segment.specs.declared.store.Joined.TheVariants as joined

-- ---- on the way

-- an initial PDU with all its data
pub record IsInitial (pdu : Pdu) (part : SegmentPart) : Type 0 where
  pub segment : pdu.segment ≡ Some part
  pub offset : part.offset ≡ 0
  pub total : part.total ≡ pdu_length pdu

-- what forwarding leaves as it is
pub record IsForwarded (old new : Pdu) : Type 0 where
  pub source : new.source ≡ old.source
  pub destination : new.destination ≡ old.destination
  pub segment : new.segment ≡ old.segment
  pub header : header_length new ≡ header_length old
  pub body : new.body ≡ old.body

-- one of the PDUs is cut for a room, or forwarded, or comes twice
pub data IsMoved (old new : List Pdu) : Type 0 where
  Cut : (before : List Pdu) (pdu : Pdu) (rest : List Pdu) (room : ℕ) (pieces : List Pdu) → old ≡ before ++ pdu ∷ rest
      → Cuts pdu room pdu.segment (Some pieces) → new ≡ before ++ (pieces ++ rest) → IsMoved old new
  Forwarded : (before : List Pdu) (pdu : Pdu) (rest : List Pdu) (other : Pdu) → old ≡ before ++ pdu ∷ rest
      → IsForwarded pdu other → new ≡ before ++ other ∷ rest → IsMoved old new
  Twice : (before : List Pdu) (pdu : Pdu) (rest : List Pdu) → old ≡ before ++ pdu ∷ rest → new ≡ before ++ pdu ∷ pdu ∷ rest → IsMoved old new

-- so many times, one after another
abbrev pub MovesTo : ℕ → List Pdu → List Pdu → Type 0
MovesTo zero old new = new ≡ old
MovesTo (suc count) old new = (mid : List Pdu) × IsMoved old mid × MovesTo count mid new

-- the PDUs are the pieces of that PDU, however often it was cut and at which rooms
pub record AreAllOf (pdu : Pdu) (pdus : List Pdu) : Type 0 where
  pub count : ℕ
  pub moves : MovesTo count (pdu ∷ []) pdus

-- ---- at their destination

-- the PDU was read, with the header that is lent, and handed on
pub record IsReadAs (pdu : Pdu) (coming : Coming) : Type 0 where
  pub read : PduRef
  pub part : SegmentPart
  pub value : value_of read ≡ pdu
  pub segment : read.segment ≡ Some part
  pub header : length read.header.now ≡ header_length pdu
  pub coming_is : coming ≡ coming_of read part coming.left coming.reportable

-- one of these PDUs came
abbrev pub IsOneOf : List Pdu → Coming → Type 0
IsOneOf [] coming = ⊥
IsOneOf (pdu ∷ pdus) coming = IsReadAs pdu coming ⊎ IsOneOf pdus coming

-- the PDU is among those that came
abbrev pub HasCome : List Came → Pdu → Type 0
HasCome [] pdu = ⊥
HasCome (came ∷ rest) pdu = IsReadAs pdu came.coming ⊎ HasCome rest pdu

-- a segment of that key is a piece of that PDU
abbrev pub IsPieceOf : Key → Pdu → Came → Type 0
IsPieceOf key pdu came = came.coming.key ≡ key → (pdus : List Pdu) × AreAllOf pdu pdus × IsOneOf pdus came.coming

abbrev pub key_in : Pdu → SegmentPart → Key
key_in pdu part = record { source = pdu.source; destination = pdu.destination; id = part.id }

-- with one of those that came the unit is whole, and those of its key before it were held
pub record ComesWhole (key : Key) (unit : List ℕ) (list : List Came) : Type 0 where
  pub before : List Came
  pub last : Came
  pub rest : List Came
  pub stands : list ≡ before ++ last ∷ rest
  pub held : AllByRecursion (λ came. came.coming.key ≡ key → came.answer ≡ joined.Held) before
  pub key_is : last.coming.key ≡ key
  pub whole : last.answer ≡ joined.Whole unit
