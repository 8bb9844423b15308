-- Where a carrier serves: all that may be asked is answered, what waits is in octets, and there is a least fresh pair, or none (X.233,
-- connectionless-mode network service).
use Rattle.std.specs.Prelude.{ℕ, Bool, List, Option}
use Rattle.std.specs.List.{AllByRecursion}
use Rattle.osi_base.specs.declared.unit.Up.{Up}
use Rattle.osi_base.specs.declared.unit.Up.TheVariants.{Unit as Came, Note as Noted}
use Rattle.osi_base.specs.Link.{Link, IsLeastFresh}
use Rattle.osi_base.specs.Calls.{Call}
use Rattle.law_carrier_answers.specs.Answers.{AlwaysAnswers, MayBeOffered}
use Rattle.esis_tables.specs.Rows.{Rows}
use Rattle.lan_step.specs.Bag.{Bag}
use Rattle.law_clnp_step.specs.Network.{Network}
use Rattle.law_clnp_net.specs.Standing.{Stands, is_nsap}

-- what comes up is a note, or a unit of octets between addresses
abbrev pub ComesInOctets : (List ℕ → Bool) → Up (List ℕ) → Type 0
ComesInOctets is_address (Came arrival) = MayBeOffered is_address arrival.unit
ComesInOctets is_address (Noted note) = Prim.Unit {0}

-- in the states of a set that calls do not leave, all that may be asked is answered; what waits is in octets; and there is a least pair that
-- can be taken and was not yet, or none
pub record Serves {C : Type 0} (is_address : List ℕ → Bool) (link : C → Link (List ℕ)) (steps : C → Call (List ℕ) → C → Type 0) (Standing : C → Type 0) : Type 0 where
  pub answers : AlwaysAnswers is_address link steps Standing
  pub in_octets : (old : C) → Standing old → AllByRecursion (ComesInOctets is_address) (link old).waiting
  pub least : (old : C) → Standing old → (found : Option (ℕ × ℕ)) × IsLeastFresh (link old) found

-- what waits in the network is in octets, between addresses of 1 to 20 octets
abbrev pub WaitsInOctets : List (Up (List ℕ)) → Type 0
WaitsInOctets ups = AllByRecursion (ComesInOctets is_nsap) ups

-- a network over the LANs that stands, where what waits is in octets
pub record StandsInOctets (net : Network Bag Rows) : Type 0 where
  pub stands : Stands net
  pub waiting : WaitsInOctets net.waiting
