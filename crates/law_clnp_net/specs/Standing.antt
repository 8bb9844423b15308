-- What is always so of a network over LANs: all that it holds was read from octets, or may be written (X.233, structure and encoding of
-- PDUs; IEEE 802.3, MAC frame structure).
use Rattle.std.specs.Prelude.{◌≡◌, ℕ, ◌<◌, ◌==◌, Bool, true, ◌&&◌, nat_le, nat_lt, List, [], ◌∷◌, length, Option, IfSome, IsSome}
use Rattle.std.specs.List.{AllByRecursion}
use Rattle.nsap.specs.declared.port.Port.{Port}
use Rattle.nsap.specs.declared.port.Hop.{Hop}
use Rattle.osi_base.specs.declared.unit.Up.{Up}
use Rattle.osi_base.specs.declared.unit.Up.TheVariants.{Unit as Came, Note as Noted}
use Rattle.lan_step.specs.Bag.{Bag, link_of}
use Rattle.lan_step.specs.Frames.{Frame as LanFrame}
use Rattle.pdu_parts.specs.Field.{IsAddress}
use Rattle.law_carrier_answers.specs.Answers.{AreOctets}
use Rattle.clnp_segment.specs.Store.{HasPlaces, Partial}
use Rattle.esis_tables.specs.declared.holding_time.Row.{Row}
use Rattle.esis_tables.specs.Rows.{Rows}
use Rattle.clnp_system.specs.Node.{Frame, Node}
use Rattle.clnp_system.specs.Setting.{IsSetting, Setting, port_on}
use Rattle.law_clnp_step.specs.Network.{Network}
use Rattle.law_clnp_step.specs.Sound.{IsSound}

-- an address, in octets
pub record IsNsap (address : List ℕ) : Type 0 where
  pub is : IsAddress address
  pub octets : AreOctets address

-- an SNPA has six octets
pub record IsSnpa (snpa : List ℕ) : Type 0 where
  pub six : length snpa ≡ 6
  pub octets : AreOctets snpa

-- a frame, in octets
pub record IsFrame (frame : Frame) : Type 0 where
  pub from : IsSnpa frame.from.snpa
  pub to : IsSnpa frame.to.snpa
  pub octets : AreOctets frame.octets

-- a hop on the LAN of a port
pub record IsHop (setting : Setting) (hop : Hop) : Type 0 where
  pub near : IsSome (port_on setting hop.port.lan)
  pub snpa : IsSnpa hop.port.snpa
  pub title : IfSome hop.title IsNsap

-- ---- a system

-- the set-up of a system, with its addresses in octets
pub record IsSetUp (setting : Setting) : Type 0 where
  pub may : IsSetting setting
  pub title : IsNsap setting.title
  pub ports : AllByRecursion (λ port. IsSnpa port.snpa) setting.ports
  pub rows : AllByRecursion (λ row. IsHop setting row.hop) setting.rows
  pub paths : AllByRecursion (λ path. AllByRecursion IsNsap path.titles) setting.paths

-- a place with an octet, or with none
abbrev pub FitsSlot : Option ℕ → Type 0
FitsSlot slot = IfSome slot (λ octet. octet < 256)

-- a unit of which some segments came, with a place for each of its octets
pub record FitsHeld (unit : Partial) : Type 0 where
  pub source : IsNsap unit.source
  pub destination : IsNsap unit.destination
  pub places : HasPlaces unit
  pub slots : AllByRecursion FitsSlot unit.held.slots
  pub first : AreOctets unit.first

-- what a system knows of others: hops on the LANs of its ports
abbrev pub FitsRows : Setting → List Row → Type 0
FitsRows setting rows = AllByRecursion (λ row. IsHop setting row.heard.hop) rows

-- a system that may be
pub record FitsNode (node : Node Rows) : Type 0 where
  pub setup : IsSetUp node.setup
  pub next_id : node.next_id < 65536
  pub held : AllByRecursion FitsHeld node.store.held
  pub neighbours : FitsRows node.setup node.neighbours.rows
  pub redirects : FitsRows node.setup node.redirects.rows

-- ---- the LANs, and the network

-- a frame that is kept carries octets between SNPAs
abbrev pub FitsKept : Option LanFrame → Type 0
FitsKept slot = IfSome slot (λ kept. IsFrame kept.unit)

-- so does one that arrives
abbrev pub FitsUp : Up Port → Type 0
FitsUp (Came arrival) = IsFrame arrival.unit
FitsUp (Noted note) = Prim.Unit {0}

-- LANs all of whose frames do
pub record FitsBag (bag : Bag) : Type 0 where
  pub frames : AllByRecursion FitsKept bag.frames
  pub waiting : AllByRecursion FitsUp bag.waiting

-- a network over the LANs between two calls: it is sound, and all that it holds is in octets
pub record Stands (net : Network Bag Rows) : Type 0 where
  pub sound : IsSound link_of net
  pub link : FitsBag net.link
  pub nodes : AllByRecursion FitsNode net.nodes

-- whether octets are octets
abbrev pub are_octets : List ℕ → Bool
are_octets [] = true
are_octets (octet ∷ octets) = nat_lt octet 256 && are_octets octets

-- whether it is an address: 1 to 20 octets
abbrev pub is_nsap : List ℕ → Bool
is_nsap address = nat_lt 0 (length address) && nat_le (length address) 20 && are_octets address

-- whether a port has an SNPA of six octets
abbrev pub is_port : Port → Bool
is_port port = (length port.snpa == 6) && are_octets port.snpa
