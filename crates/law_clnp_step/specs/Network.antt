-- The network as a value, and what those above see of it (X.233, connectionless-mode network service).
use Rattle.std.specs.Prelude.{ℕ, ◌==◌, Bool, ◌&&◌, if◌then◌else◌, List}
use Rattle.std.specs.List.{list_any}
use Rattle.nsap.specs.declared.port.Port.{Port}
use Rattle.osi_base.specs.declared.unit.Up.{Up}
use Rattle.osi_base.specs.Floated.{Floated}
use Rattle.osi_base.specs.Link.{Link}
use Rattle.clnp_system.specs.Node.{Node}
use Rattle.clnp_system.specs.Setting.{is_own_system}

pub record Network (C N : Type 0) : Type 0 where
  -- the carrier of frames below
  pub link : C
  -- the systems, each one once
  pub nodes : List (Node N)
  -- the units that were taken and may still arrive, with their ticks
  pub floating : Floated (List ℕ)
  -- what is handed up next
  pub waiting : List (Up (List ℕ))
  -- how many arrivals equalled no unit afloat
  pub strays : ℕ
  -- the initial lifetime of each PDU, in ticks
  pub life : ℕ

-- the node is the end system of that number, and the address is one of its own
abbrev pub is_end_of : {N : Type 0} → List ℕ → ℕ → Node N → Bool
is_end_of address system node = node.setup.system == system && node.setup.end && is_own_system node.setup address

-- what those above see: a unit floats for the initial lifetime, and goes to the end system of its destination
abbrev pub net_link : {C N : Type 0} → (C → Link Port) → Network C N → Link (List ℕ)
net_link link net = record {
  clock = (link net.link).clock;
  floating = net.floating.entries;
  waiting = net.waiting;
  honest = (link net.link).honest;
  strays = if (link net.link).honest then 0 else net.strays;
  bound = λ to. net.life;
  room = λ to. 16384;
  belongs = λ to system. list_any (is_end_of to system) net.nodes;
  given = (link net.link).given;
  takes = (link net.link).takes;
  took = (link net.link).took;
}
