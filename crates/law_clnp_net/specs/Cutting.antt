-- A unit that is cut for one LAN, for the system at its far end (X.233, segmentation function).
use Rattle.std.specs.Prelude.{◌≡◌, ◌⊎◌, ℕ, ◌≤◌, true, false, List, length, Some, Ok}
use Rattle.nsap.specs.Address.{selector_of}
use Rattle.nsap.specs.declared.port.Hop.{Hop}
use Rattle.nsap.specs.declared.port.Port.{Port}
use Rattle.osi_base.specs.declared.unit.Unit.{Unit as CarriedUnit}
use Rattle.osi_base.specs.declared.unit.Wish.{Wish}
use Rattle.clnp_options.specs.declared.reason.PduKind.TheVariants.{Dt}
use Rattle.clnp_header.specs.declared.pdu.Pdu.{Pdu}
use Rattle.clnp_system.specs.Hops.{hop_of}
use Rattle.clnp_system.specs.Node.{Frame, Node}
use Rattle.clnp_system.specs.Sending.{Sends}
use Rattle.clnp_system.specs.Setting.{Setting, bound_of, is_group, is_own_system, port_on, room_of}
use Rattle.clnp_system.specs.Tables.{Tables}
use Rattle.clnp_system.specs.Written.{HasPdu}

-- the sender's hop for the unit is the port of the other end system on a LAN of both, for whose users it is, within the lifetime
pub record Faces {N : Type 0} (tables : Tables N) (node : Node N) (now : ℕ) (other : Setting) (unit : CarriedUnit (List ℕ)) (port : Port) : Type 0 where
  pub hop : Hop
  pub found : hop_of tables node now unit.to ≡ Some hop
  pub port_is : hop.port ≡ port
  pub at : port_on other port.lan ≡ Some port
  pub single : is_group port.snpa ≡ false
  pub lives : bound_of other port.lan ≤ node.setup.life
  pub end : other.end ≡ true
  pub own : is_own_system other unit.to ≡ true
  pub selector : (selector_of unit.to ≡ 1) ⊎ (selector_of unit.to ≡ 2)

-- the unit is sent there in these frames, by no source route
pub record SendsTo {N : Type 0} (tables : Tables N) (node : Node N) (now : ℕ) (other : Setting) (unit : CarriedUnit (List ℕ)) (port : Port) (frames : List Frame) (after : Node N) : Type 0 where
  pub faces : Faces tables node now other unit port
  pub wish : Wish
  pub plain : wish.path ≡ 0
  pub sends : Sends tables node now unit wish (Ok frames) after

-- a frame from the own port to that port, within the room of its LAN, with a DT PDU of the unit
pub record IsFrameTo (setting : Setting) (port : Port) (unit : CarriedUnit (List ℕ)) (frame : Frame) : Type 0 where
  pub from : port_on setting port.lan ≡ Some frame.from
  pub to : frame.to ≡ port
  pub room : length frame.octets ≤ room_of setting port.lan
  pub pdu : Pdu
  pub stands : HasPdu frame.octets pdu
  pub kind : pdu.kind ≡ Dt
  pub source : pdu.source ≡ unit.from
  pub destination : pdu.destination ≡ unit.to
  pub lifetime : pdu.lifetime ≡ setting.life

-- what is sent changes nothing but the clock and the identifiers that are left to give
pub record KeepsAll {N : Type 0} (old : Node N) (now : ℕ) (new : Node N) : Type 0 where
  pub setup : new.setup ≡ old.setup
  pub clock : new.clock ≡ now
  pub store : new.store ≡ old.store
  pub neighbours : new.neighbours ≡ old.neighbours
  pub redirects : new.redirects ≡ old.redirects
