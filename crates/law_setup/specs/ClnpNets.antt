-- The systems of a script over its LANs, as a network that a set-up makes.
use Rattle.std.specs.Prelude.{ℕ, List}
use Rattle.esis_tables.specs.Rows.{Rows}
use Rattle.osi_base.specs.Link.{Link}
use Rattle.osi_base.specs.Calls.{Call}
use Rattle.lan_step.specs.Bag.{Bag, BagStep, link_of, new_bag}
use Rattle.clnp_system.specs.Tables.{rows_tables}
use Rattle.law_clnp_step.specs.Network.{Network, net_link}
use Rattle.law_clnp_step.specs.Step.{Begins, NetStep}
use Rattle.script_setup.specs.SetUp.{SetUp, nodes_of}

-- the systems of a script over its LANs: what users of the network see, and what each call does
abbrev pub Net : Type 0
Net = Network Bag Rows

abbrev pub link_of_net : Net → Link (List ℕ)
link_of_net = net_link link_of

abbrev pub NetDoes : Net → Call (List ℕ) → Net → Type 0
NetDoes = NetStep link_of BagStep rows_tables

-- the systems are made over the LANs, and send their first hellos at tick 0
abbrev pub MakesNet : SetUp → Net → Type 0
MakesNet setup net = Begins link_of BagStep rows_tables (new_bag setup.lans setup.ports) (nodes_of setup) setup.life net
