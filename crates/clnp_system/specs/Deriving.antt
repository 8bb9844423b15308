-- What goes out derives from what came in.
use Rattle.std.specs.Prelude.{◌≡◌, ℕ, ◌+◌, ◌<◌, ◌≤◌, true, List, ◌++◌, length, Option, Some, None}
use Rattle.std.specs.List.{AllByRecursion}
use Rattle.osi_base.specs.declared.unit.Arrival.{Arrival}
use Rattle.osi_base.specs.declared.unit.Unit.{Unit as CarriedUnit}
use Rattle.osi_base.specs.declared.unit.Up.{Up}
use Rattle.osi_base.specs.declared.unit.Up.TheVariants.{Unit as Came, Note as Noted}
use Rattle.osi_base.specs.declared.unit.Wish.{Wish}
use Rattle.clnp_options.specs.declared.reason.PduKind.TheVariants.{Dt}
use Rattle.clnp_header.specs.declared.pdu.Pdu.{Pdu}
use Rattle.clnp_header.specs.declared.pdu.SegmentPart.{SegmentPart}
use Rattle.clnp_header.specs.Values.{is_segment}
use Rattle.clnp_header.specs.Writing.{header_length}
use Rattle.clnp_segment.specs.Store.{Takes as TakesSegment}
use Rattle.clnp_segment.specs.declared.store.Joined.{Joined}
use Rattle.clnp_segment.specs.declared.store.Joined.TheVariants.{Whole}
use Rattle.clnp_system.specs.Setting.{bound_of, is_own_system}
use Rattle.clnp_system.specs.Node.{Node, Frame}
use Rattle.clnp_system.specs.Written.{HasPdu}
use Rattle.clnp_system.specs.Sending.{first_pdu}
use Rattle.clnp_system.specs.Receiving.{coming}

-- a run of the data at that position
pub record IsRun (octets run : List ℕ) (position : ℕ) : Type 0 where
  pub before : List ℕ
  pub after : List ℕ
  pub parts : octets ≡ before ++ (run ++ after)
  pub place : length before ≡ position

-- the whole data, or a run of it where both are segments
pub record IsPartAt (part out : SegmentPart) (octets found : List ℕ) : Type 0 where
  pub id : out.id ≡ part.id
  pub total : out.total ≡ part.total
  pub position : ℕ
  pub offset : out.offset ≡ part.offset + position
  pub run : IsRun octets found position

abbrev pub IsPartOf : Option SegmentPart → Option SegmentPart → List ℕ → List ℕ → Type 0
IsPartOf None None octets run = run ≡ octets
IsPartOf None (Some out) octets run = ⊥
IsPartOf (Some part) None octets run = ⊥
IsPartOf (Some part) (Some out) octets run = IsPartAt part out octets run

-- a DT PDU that goes onward: a run of the data, the lifetime less the bound, a header of the same length
pub record Derives (pdu : Pdu) (bound : ℕ) (out : Pdu) : Type 0 where
  pub kind : pdu.kind ≡ Dt
  pub source : out.source ≡ pdu.source
  pub destination : out.destination ≡ pdu.destination
  pub age : out.lifetime + bound ≡ pdu.lifetime
  pub left : 0 < out.lifetime
  pub header : header_length out ≡ header_length pdu
  pub part : IsPartOf pdu.segment out.segment pdu.body out.body

-- a frame carries no DT PDU but those
abbrev pub Carries : Frame → (Pdu → Type 0) → Type 0
Carries frame P = (pdu : Pdu) → HasPdu frame.octets pdu → pdu.kind ≡ Dt → P pdu

abbrev pub AllCarry : List Frame → (Pdu → Type 0) → Type 0
AllCarry frames P = AllByRecursion (λ frame. Carries frame P) frames

-- a PDU derives from the one in front of these octets
abbrev pub DerivesFrom : List ℕ → ℕ → Pdu → Type 0
DerivesFrom octets bound out = (pdu : Pdu) × HasPdu octets pdu × Derives pdu bound out

-- of a unit that is sent: the whole, or a run of it with the identifier given
abbrev pub IsSentPart : ℕ → ℕ → CarriedUnit (List ℕ) → Pdu → Option SegmentPart → Type 0
IsSentPart id header unit pdu None = pdu.body ≡ unit.octets
IsSentPart id header unit pdu (Some part) =
    (part.id ≡ id) × (part.total ≡ header + length unit.octets) × (header_length pdu ≡ header) × IsRun unit.octets pdu.body part.offset

pub record IsSentFrom {N : Type 0} (node : Node N) (unit : CarriedUnit (List ℕ)) (wish : Wish) (pdu : Pdu) : Type 0 where
  pub source : pdu.source ≡ unit.from
  pub destination : pdu.destination ≡ unit.to
  pub lifetime : pdu.lifetime ≡ node.setup.life
  pub cut : is_segment pdu.segment ≡ wish.cut
  pub part : IsSentPart node.next_id (header_length (first_pdu node.setup unit wish node.next_id)) unit pdu pdu.segment

-- the octets of a unit: the data of the PDU, or what the store joined
abbrev pub IsWholeOrJoined : {N : Type 0} → Node N → ℕ → Frame → Pdu → Option SegmentPart → List ℕ → Node N → Type 0
IsWholeOrJoined old now frame pdu None octets new = octets ≡ pdu.body
IsWholeOrJoined old now frame pdu (Some part) octets new =
    TakesSegment old.store now (coming frame (bound_of old.setup frame.to.lan) pdu part) (Whole octets) new.store

-- a DT PDU that came for this end system, with lifetime left
pub record IsForEnd {N : Type 0} (old : Node N) (frame : Frame) (pdu : Pdu) : Type 0 where
  pub stands : HasPdu frame.octets pdu
  pub kind : pdu.kind ≡ Dt
  pub end : old.setup.end ≡ true
  pub own : is_own_system old.setup pdu.destination ≡ true
  pub left : bound_of old.setup frame.to.lan ≤ pdu.lifetime

-- what a unit that comes up came from: such a PDU, whole, or the last segment that was missing
pub record ComesFrom {N : Type 0} (old : Node N) (now : ℕ) (frame : Frame) (arrival : Arrival (List ℕ)) (new : Node N) : Type 0 where
  pub pdu : Pdu
  pub is_for : IsForEnd old frame pdu
  pub system : arrival.system ≡ old.setup.system
  pub source : arrival.unit.from ≡ pdu.source
  pub destination : arrival.unit.to ≡ pdu.destination
  pub unit : IsWholeOrJoined old now frame pdu pdu.segment arrival.unit.octets new

abbrev pub ComesIf : {N : Type 0} → Node N → ℕ → Frame → Node N → Up (List ℕ) → Type 0
ComesIf old now frame new (Noted note) = Prim.Unit {0}
ComesIf old now frame new (Came arrival) = ComesFrom old now frame arrival new

-- what a frame does to the store: nothing, or a segment that it takes from such a PDU
pub data StoresOrStays {N : Type 0} (old : Node N) (now : ℕ) (frame : Frame) (new : Node N) : Type 0 where
  Stays : new.store ≡ old.store → StoresOrStays old now frame new
  Takes : (pdu : Pdu) (part : SegmentPart) (answer : Joined) → IsForEnd old frame pdu → pdu.segment ≡ Some part
      → TakesSegment old.store now (coming frame (bound_of old.setup frame.to.lan) pdu part) answer new.store → StoresOrStays old now frame new

-- what no frame changes: the setup, and the identifiers given
pub record KeepsRest {N : Type 0} (old : Node N) (now : ℕ) (new : Node N) : Type 0 where
  pub setup : new.setup ≡ old.setup
  pub clock : new.clock ≡ now
  pub next_id : new.next_id ≡ old.next_id
  pub low : new.low ≡ old.low
  pub high : new.high ≡ old.high
