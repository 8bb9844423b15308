-- What calls without an injection make of a network of two end systems on one LAN, whatever was dropped, refused, taken again or out of order: no system knows of another,
-- what is held is of users, and each frame afloat is a hello that goes to no system, or has a PDU between users (X.233; ISO 9542, report configuration).
use Rattle.std.specs.Prelude.{◌≡◌, ℕ, true, false, List, [], ◌∷◌}
use Rattle.std.specs.List.{AllByRecursion, Contains}
use Rattle.clnp_options.specs.declared.reason.PduKind.TheVariants.{Dt}
use Rattle.clnp_header.specs.declared.pdu.Pdu.{Pdu}
use Rattle.clnp_segment.specs.Store.{Partial}
use Rattle.lan_step.specs.Bag.{Bag, link_of}
use Rattle.lan_step.specs.declared.row.PortRow.{PortRow}
use Rattle.esis_tables.specs.Rows.{Rows}
use Rattle.clnp_system.specs.Node.{Frame, Node}
use Rattle.clnp_system.specs.Setting.{Setting, all_intermediates, is_group}
use Rattle.clnp_system.specs.Written.{HasPdu}
use Rattle.law_clnp_step.specs.Network.{Network}
use Rattle.net_world.specs.Fifo.{IsUser}
use Rattle.law_clnp_net.specs.Calm.{titles_of}
use Rattle.law_clnp_net.specs.Joining.{HasMost}

abbrev pub IsOfUsers : List (List ℕ) → List ℕ → Type 0
IsOfUsers titles address = (system : ℕ) × IsUser titles address system

-- a frame to one SNPA with a PDU; the source of a DT PDU is that of users
pub record HasOwnPdu (titles : List (List ℕ)) (frame : Frame) : Type 0 where
  pub single : is_group frame.to.snpa ≡ false
  pub pdu : Pdu
  pub stands : HasPdu frame.octets pdu
  pub source : pdu.kind ≡ Dt → IsOfUsers titles pdu.source

pub data IsHarmless (titles : List (List ℕ)) (frame : Frame) : Type 0 where
  ToRouters : frame.to.snpa ≡ all_intermediates → IsHarmless titles frame
  OfUsers : HasOwnPdu titles frame → IsHarmless titles frame

-- what is held came from users
abbrev pub IsHeldOfUsers : List (List ℕ) → Partial → Type 0
IsHeldOfUsers titles held = IsOfUsers titles held.source

-- a system that knows of no other, and holds what came from users, as much as it may
pub record KnowsNobody (titles : List (List ℕ)) (node : Node Rows) : Type 0 where
  pub neighbours : node.neighbours.rows ≡ []
  pub redirects : node.redirects.rows ≡ []
  pub held : AllByRecursion (IsHeldOfUsers titles) node.store.held
  pub room : HasMost node.store

-- the two systems
pub record AreTwo (titles : List (List ℕ)) (first second : Setting) (nodes : List (Node Rows)) : Type 0 where
  pub one : Node Rows
  pub two : Node Rows
  pub are : nodes ≡ one ∷ two ∷ []
  pub one_is : one.setup ≡ first
  pub two_is : two.setup ≡ second
  pub one_knows : KnowsNobody titles one
  pub two_knows : KnowsNobody titles two

-- between two calls
pub record ReachedBy (titles : List (List ℕ)) (first second : Setting) (rows : List PortRow) (net : Network Bag Rows) : Type 0 where
  pub quiet : net.waiting ≡ []
  pub below : net.link.waiting ≡ []
  pub honest : net.link.honest ≡ true
  pub ports : net.link.rows ≡ rows
  pub nodes : AreTwo titles first second net.nodes
  pub frames : (entry : ℕ × Frame) → Contains (link_of net.link).floating entry → IsHarmless titles entry.1

abbrev pub Reached : List PortRow → Setting → Setting → Network Bag Rows → Type 0
Reached rows first second = ReachedBy (titles_of first second) first second rows
