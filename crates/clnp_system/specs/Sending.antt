-- Sending a unit (X.233, PDU composition, segmentation, source routing, recording of route).
use Rattle.std.specs.Prelude.{◌≡◌, ℕ, Bool, true, false, ◌&&◌, not, nat_lt, if◌then◌else◌, List, [], ◌∷◌, ◌++◌, length, replicate, Option, Some, None, Result, Ok, Err}
use Rattle.nsap.specs.declared.port.Hop.{Hop}
use Rattle.osi_base.specs.declared.unit.Unit.{Unit as CarriedUnit}
use Rattle.osi_base.specs.declared.unit.Wish.{Wish}
use Rattle.osi_base.specs.declared.unit.DropCause.{DropCause}
use Rattle.osi_base.specs.declared.unit.DropCause.TheVariants as causes
use Rattle.clnp_options.specs.Titles.{entries}
use Rattle.clnp_options.specs.declared.reason.PduKind.TheVariants.{Dt}
use Rattle.clnp_header.specs.declared.pdu.OwnOpt.{OwnOpt}
use Rattle.clnp_header.specs.declared.pdu.Pdu.{Pdu}
use Rattle.clnp_header.specs.declared.pdu.SegmentPart.{SegmentPart}
use Rattle.clnp_header.specs.Writing.{pdu_length}
use Rattle.clnp_system.specs.declared.setup.Path.{Path}
use Rattle.clnp_system.specs.Setting.{Setting, is_own_system, path_of, room_of}
use Rattle.clnp_system.specs.Tables.{Tables}
use Rattle.clnp_system.specs.Node.{Node, Frame, at_tick}
use Rattle.clnp_system.specs.Hops.{hop_to, hop_of}
use Rattle.clnp_system.specs.Identifiers.{is_spent, numbered}
use Rattle.clnp_system.specs.Written.{CutFrames}

-- the option of a source route, its offset at the first entry
abbrev pub route_options : Option Path → List OwnOpt
route_options None = []
route_options (Some path) = record { code = 0xc8; value = (if path.complete then 1 else 0) ∷ 3 ∷ entries path.titles } ∷ []

-- the option of a recording: partial, of 63 octets, with nothing recorded
abbrev pub recording_options : Bool → List OwnOpt
recording_options false = []
recording_options true = record { code = 0xcb; value = 0 ∷ 3 ∷ replicate 61 0 } ∷ []

-- the segmentation part of a PDU that may be cut
abbrev pub first_segment : Bool → ℕ → ℕ → Option SegmentPart
first_segment false id total = None
first_segment true id total = Some (record { id = id; offset = 0; total = total; more = false })

-- the initial PDU with that identifier, where its segmentation part gives that length
abbrev pub pdu_with : Setting → CarriedUnit (List ℕ) → Wish → ℕ → ℕ → Pdu
pdu_with setting unit wish id total = record {
  kind = Dt;
  destination = unit.to;
  source = unit.from;
  lifetime = setting.life;
  checksum_used = true;
  report = wish.report;
  segment = first_segment wish.cut id total;
  options = route_options (path_of setting wish.path) ++ recording_options wish.trace;
  body = unit.octets;
}

-- the octets of the initial PDU of a unit, whatever its identifier
abbrev pub first_length : Setting → CarriedUnit (List ℕ) → Wish → ℕ
first_length setting unit wish = pdu_length (pdu_with setting unit wish 0 0)

-- the initial PDU of a unit, with that identifier where it may be cut
abbrev pub first_pdu : Setting → CarriedUnit (List ℕ) → Wish → ℕ → Pdu
first_pdu setting unit wish id = pdu_with setting unit wish id (first_length setting unit wish)

-- the hop to the first title
abbrev pub first_hop : {N : Type 0} → Tables N → Node N → ℕ → List (List ℕ) → Option Hop
first_hop tables node now [] = None
first_hop tables node now (title ∷ titles) = hop_to tables node now title

-- the hop by a source route is that to its first title
abbrev pub hop_by : {N : Type 0} → Tables N → Node N → ℕ → List ℕ → Option Path → Option Hop
hop_by tables node now address None = hop_of tables node now address
hop_by tables node now address (Some path) = first_hop tables node now path.titles

-- the hop by the source route of that number; none for a unit to the own system
abbrev pub way : {N : Type 0} → Tables N → Node N → ℕ → List ℕ → ℕ → Option Hop
way tables node now address path =
    if is_own_system node.setup address then None else hop_by tables node now address (path_of node.setup path)

-- with a hop: the unit fits its LAN, or may be cut, and then has an identifier
abbrev pub by_hop : {N : Type 0} → Node N → ℕ → CarriedUnit (List ℕ) → Wish → Option Hop → Result Hop DropCause
by_hop node now unit wish None = Err causes.NoRoute
by_hop node now unit wish (Some hop) =
    if not wish.cut && nat_lt (room_of node.setup hop.port.lan) (first_length node.setup unit wish) then Err causes.TooLong
    else if wish.cut && is_spent node now then Err causes.IdsSpent
    else Ok hop

-- where a unit is sent, or the first cause that applies
abbrev pub sending : {N : Type 0} → Tables N → Node N → ℕ → CarriedUnit (List ℕ) → Wish → Result Hop DropCause
sending tables node now unit wish =
    if nat_lt 16384 (length unit.octets) then Err causes.TooLong
    else by_hop node now unit wish (way tables node now unit.to wish.path)

-- an identifier is given to a unit that may be cut
abbrev pub numbered_if : {N : Type 0} → Bool → Node N → ℕ → Node N
numbered_if false node now = node
numbered_if true node now = numbered node now

-- the unit is dropped for a cause, or its initial PDU goes out in frames, cut for the hop's LAN
pub data Sends {N : Type 0} (tables : Tables N) (old : Node N) (now : ℕ) (unit : CarriedUnit (List ℕ)) (wish : Wish)
    (sent : Result (List Frame) DropCause) (new : Node N) : Type 0 where
  IsDropped : (cause : DropCause) → sending tables old now unit wish ≡ Err cause → sent ≡ Err cause → new ≡ at_tick now old
      → Sends tables old now unit wish sent new
  IsSent : (hop : Hop) (frames : List Frame) → sending tables old now unit wish ≡ Ok hop → CutFrames old.setup hop.port (first_pdu old.setup unit wish old.next_id) (Some frames)
      → sent ≡ Ok frames → new ≡ numbered_if wish.cut (at_tick now old) now
      → Sends tables old now unit wish sent new
