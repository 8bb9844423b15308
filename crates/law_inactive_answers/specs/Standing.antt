-- What is always so of a network over LANs: all that it holds was read from octets, or may be written (X.233, Inactive Network Layer
-- Protocol subset; IEEE 802.3, MAC frame structure).
use Rattle.std.specs.List.{AllByRecursion}
use Rattle.lan_step.specs.Bag.{Bag, link_of}
use Rattle.inactive_step.specs.declared.row.InactiveRow.{InactiveRow}
use Rattle.inactive_step.specs.Network.{Inactive}
use Rattle.inactive_step.specs.Sound.{IsSound}
use Rattle.law_clnp_net.specs.Serving.{WaitsInOctets}
use Rattle.law_clnp_net.specs.Standing.{FitsBag, IsNsap, IsSnpa}

-- an end system with an address and an SNPA in octets
pub record FitsRow (row : InactiveRow) : Type 0 where
  pub address : IsNsap row.address
  pub snpa : IsSnpa row.port.snpa

-- a network over the LANs between two calls: it is sound, and all that it holds is in octets
pub record Stands (net : Inactive Bag) : Type 0 where
  pub sound : IsSound link_of net
  pub link : FitsBag net.link
  pub rows : AllByRecursion FitsRow net.rows
  pub waiting : WaitsInOctets net.waiting
