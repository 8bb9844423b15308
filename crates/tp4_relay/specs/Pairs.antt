-- What becomes of a pair of ends as its events come.
use Rattle.std.specs.Prelude.{ℕ, suc, ◌==◌, Bool, true, false, not, if◌then◌else◌, List, [], ◌∷◌, ◌++◌, map, drop, Option, Some, None}
use Rattle.script_journal.specs.declared.event.Event.{Event}
use Rattle.script_journal.specs.declared.event.Event.TheVariants as events
use Rattle.tp4_relay.specs.declared.pair.Pair.{Pair}
use Rattle.tp4_relay.specs.declared.pair.Way.{Way}
use Rattle.tp4_relay.specs.declared.pair.Phase.{Phase}
use Rattle.tp4_relay.specs.declared.pair.Phase.TheVariants.{Begun, Open, Closed}
use Rattle.tp4_relay.specs.declared.pair.Heading.{Heading}
use Rattle.tp4_relay.specs.declared.pair.Heading.TheVariants.{On, Back}
use Rattle.tp4_relay.specs.declared.unit.MarkedUnit.{MarkedUnit}
use Rattle.tp4_relay.specs.declared.unit.MarkedUnit.TheVariants.{Normal, Expedited}
use Rattle.tpdu.specs.declared.service.EndTold.TheVariants as tells

-- a way on which nothing waits
abbrev pub new_way : Way
new_way = record { waiting = []; lowered = false }

-- a pair through which nothing went
abbrev pub new_pair : ℕ → ℕ → Phase → Pair
new_pair inbound outbound phase = record { inbound = inbound; outbound = outbound; phase = phase; accepted = false; on = new_way; back = new_way }

-- what happens to a pair: its outbound end is confirmed; its inbound end is accepted; one of its ends goes; a unit is shown, and is to go this way; a unit
-- that went this way is submitted; the credit of the end is set at which the units of this way are shown
pub data Change : Type 0 where
  Opens : Change
  Accepts : Change
  Closes : Change
  Waits : (heading : Heading) (unit : MarkedUnit) → Change
  Gives : (heading : Heading) → Change
  Turns : (heading : Heading) → Change

-- only what has not begun to close opens
abbrev pub opened : Phase → Phase
opened Begun = Open
opened Open = Open
opened Closed = Closed

-- units wait at an open pair alone
abbrev pub kept : Phase → List MarkedUnit → MarkedUnit → List MarkedUnit
kept Begun units unit = units
kept Open units unit = units ++ unit ∷ []
kept Closed units unit = units

abbrev pub without_units : Way → Way
without_units way = record way { waiting = [] }

abbrev pub without_first : Way → Way
without_first way = record way { waiting = drop 1 way.waiting }

-- the credit is lowered after an odd number of these
abbrev pub turned : Way → Way
turned way = record way { lowered = not way.lowered }

abbrev pub changed : Pair → Change → Pair
changed pair Opens = record pair { phase = opened pair.phase }
changed pair Accepts = record pair { accepted = true }
changed pair Closes = record pair { phase = Closed; on = without_units pair.on; back = without_units pair.back }
changed pair (Waits On unit) = record pair { on = record { waiting = kept pair.phase pair.on.waiting unit; lowered = pair.on.lowered } }
changed pair (Waits Back unit) = record pair { back = record { waiting = kept pair.phase pair.back.waiting unit; lowered = pair.back.lowered } }
changed pair (Gives On) = record pair { on = without_first pair.on }
changed pair (Gives Back) = record pair { back = without_first pair.back }
changed pair (Turns On) = record pair { on = turned pair.on }
changed pair (Turns Back) = record pair { back = turned pair.back }

-- an end, and what its event does to a pair
abbrev pub AtEnd : Type 0
AtEnd = Option (ℕ × Change)

-- what an event does to the pair of which its end is the inbound one
abbrev pub inbound_change : Event → AtEnd
inbound_change (events.End end (tells.Accept options octets)) = Some (end, Accepts)
inbound_change (events.End end (tells.Got octets)) = Some (end, Waits On (Normal octets))
inbound_change (events.End end (tells.Urgent octets)) = Some (end, Waits On (Expedited octets))
inbound_change (events.Data end octets) = Some (end, Gives Back)
inbound_change (events.Expedite end octets) = Some (end, Gives Back)
inbound_change (events.End end (tells.Window credit)) = Some (end, Turns On)
inbound_change (events.Disconnect end octets) = Some (end, Closes)
inbound_change (events.End end (tells.Gone cause octets)) = Some (end, Closes)
inbound_change event = None

-- what an event does to the pair of which its end is the outbound one
abbrev pub outbound_change : Event → AtEnd
outbound_change (events.End end (tells.Confirm options octets)) = Some (end, Opens)
outbound_change (events.End end (tells.Got octets)) = Some (end, Waits Back (Normal octets))
outbound_change (events.End end (tells.Urgent octets)) = Some (end, Waits Back (Expedited octets))
outbound_change (events.Data end octets) = Some (end, Gives On)
outbound_change (events.Expedite end octets) = Some (end, Gives On)
outbound_change (events.End end (tells.Window credit)) = Some (end, Turns Back)
outbound_change (events.Disconnect end octets) = Some (end, Closes)
outbound_change (events.End end (tells.Gone cause octets)) = Some (end, Closes)
outbound_change event = None

abbrev pub inbound_changed : ℕ → Change → Pair → Pair
inbound_changed end change pair = if pair.inbound == end then changed pair change else pair

abbrev pub outbound_changed : ℕ → Change → Pair → Pair
outbound_changed end change pair = if pair.outbound == end then changed pair change else pair

abbrev pub change_inbound : AtEnd → List Pair → List Pair
change_inbound None pairs = pairs
change_inbound (Some at) pairs = map (inbound_changed at.0 at.1) pairs

abbrev pub change_outbound : AtEnd → List Pair → List Pair
change_outbound None pairs = pairs
change_outbound (Some at) pairs = map (outbound_changed at.0 at.1) pairs

-- pairs after an event of their ends
abbrev pub pairs_after : List Pair → Event → List Pair
pairs_after pairs event = change_outbound (outbound_change event) (change_inbound (inbound_change event) pairs)

-- the pair is open
abbrev pub is_open : Phase → Bool
is_open Begun = false
is_open Open = true
is_open Closed = false

-- one of its ends went
abbrev pub is_closed : Phase → Bool
is_closed Begun = false
is_closed Open = false
is_closed Closed = true

-- the places of the open pairs, in the order in which they were joined
abbrev pub places_from : ℕ → List Pair → List ℕ
places_from place [] = []
places_from place (pair ∷ pairs) = if is_open pair.phase then place ∷ places_from (suc place) pairs else places_from (suc place) pairs

abbrev pub open_places : List Pair → List ℕ
open_places pairs = places_from 0 pairs
