-- The end systems of a script over its LANs by the inactive subset, as a network that a set-up makes (X.233, Inactive Network Layer Protocol
-- subset).
use Rattle.std.specs.Prelude.{◌≡◌, ℕ, List}
use Rattle.osi_base.specs.Link.{Link}
use Rattle.osi_base.specs.Calls.{Call}
use Rattle.lan_step.specs.Bag.{Bag, BagStep, link_of, new_bag}
use Rattle.inactive_step.specs.Network.{Inactive, inactive_link, new_inactive}
use Rattle.inactive_step.specs.Step.{InactiveStep}
use Rattle.script_setup.specs.Inactive.{inactive_rows}
use Rattle.script_setup.specs.SetUp.{SetUp}

-- what users of the network see, and what each call does
abbrev pub link_of_inactive : Inactive Bag → Link (List ℕ)
link_of_inactive = inactive_link link_of

abbrev pub InactiveDoes : Inactive Bag → Call (List ℕ) → Inactive Bag → Type 0
InactiveDoes = InactiveStep link_of BagStep

-- the end systems with a port are made over the LANs
abbrev pub MakesInactive : SetUp → Inactive Bag → Type 0
MakesInactive setup net = net ≡ new_inactive (new_bag setup.lans setup.ports) (inactive_rows setup)
