-- What a network by the inactive subset answers: where the carrier of its frames answers in one way, so does it; and over LANs it always
-- answers (X.233, Inactive Network Layer Protocol subset).
use Rattle.std.specs.Prelude.{◌≡◌, ℕ, List}
use Rattle.std.specs.List.{AllByRecursion}
use Rattle.nsap.specs.declared.port.Port.{Port}
use Rattle.osi_base.specs.declared.unit.Offered.{Offered}
use Rattle.osi_base.specs.declared.unit.Unit.{Unit as CarriedUnit}
use Rattle.osi_base.specs.declared.unit.Wish.{Wish}
use Rattle.osi_base.specs.Calls.{Call, Offer}
use Rattle.osi_base.specs.Link.{Link}
use Rattle.law_carrier_answers.specs.Answers.{OneStep}
use Rattle.lan_step.specs.Bag.{Bag, BagStep, link_of, new_bag}
use Rattle.lan_step.specs.declared.row.Lan.{Lan}
use Rattle.lan_step.specs.declared.row.PortRow.{PortRow}
use Rattle.inactive_step.specs.declared.row.InactiveRow.{InactiveRow}
use Rattle.inactive_step.specs.Way.{way_from}
use Rattle.inactive_step.specs.Network.{Inactive, inactive_link, new_inactive}
use Rattle.inactive_step.specs.Rows.{AreServed}
use Rattle.inactive_step.specs.Step.{InactiveStep}
use Rattle.law_clnp_net.specs.Serving.{Serves}
use Rattle.law_clnp_net.specs.Standing.{is_nsap}
use Rattle.law_inactive_answers.specs.Standing.{FitsRow, Stands}
use Rattle.law_inactive_answers.specs.Offering.{ArePorts, offered_on}

-- what is asked of the network has one answer, and leads to one network
abbrev pub OneAnswer : {C : Type 0} → (C → Link Port) → (C → Call Port → C → Type 0) → Type 0
OneAnswer link steps = OneStep steps → OneStep (InactiveStep link steps)

-- ---- over LANs

-- so it has over LANs
abbrev pub OneNetAnswer : Type 0
OneNetAnswer = OneStep (InactiveStep link_of BagStep)

-- an offer has the answer of `offered_on`
abbrev pub AnswersExactly : Type 0
AnswersExactly = (old : Inactive Bag) (unit : CarriedUnit (List ℕ)) (wish : Wish) (answer : Offered) (new : Inactive Bag)
    → ArePorts old.link.rows old.rows → InactiveStep link_of BagStep old (Offer unit wish answer) new
    → answer ≡ offered_on old.link unit (way_from old.rows unit.from unit.to)

-- while the network stands it serves
abbrev pub InactiveServes : Type 0
InactiveServes = Serves is_nsap (inactive_link link_of) (InactiveStep link_of BagStep) Stands

-- it stands as it is made of end systems that the LANs serve, in octets
abbrev pub BeginsServing : Type 0
BeginsServing = (lans : List Lan) (ports : List PortRow) (rows : List InactiveRow) → AreServed (link_of (new_bag lans ports)) rows → AllByRecursion FitsRow rows
    → Stands (new_inactive (new_bag lans ports) rows)
