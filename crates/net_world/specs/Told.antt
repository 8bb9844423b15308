-- What a transcript tells of a network, of its answers and of what it hands up (X.213, connectionless-mode network service).
use Rattle.std.specs.Prelude.{ℕ, ◌==◌, if◌then◌else◌, List, [], ◌∷◌, ◌++◌}
use Rattle.nsap.specs.Address.{selector_of}
use Rattle.osi_base.specs.declared.unit.Unit.{Unit as CarriedUnit}
use Rattle.osi_base.specs.declared.unit.Up.{Up}
use Rattle.osi_base.specs.declared.unit.Up.TheVariants.{Unit as Came, Note as Noted}
use Rattle.osi_base.specs.declared.unit.DropCause.{DropCause}
use Rattle.osi_base.specs.declared.unit.DropCause.TheVariants as drops
use Rattle.osi_base.specs.declared.unit.Offered.{Offered}
use Rattle.osi_base.specs.declared.unit.Offered.TheVariants.{Taken as WasTaken, Dropped}
use Rattle.osi_base.specs.declared.unit.Picked.{Picked}
use Rattle.osi_base.specs.declared.unit.Picked.TheVariants as picks
use Rattle.script_journal.specs.declared.cause.Refused.{Refused}
use Rattle.script_journal.specs.declared.cause.Refused.TheVariants as refusals
use Rattle.script_journal.specs.declared.event.Event.{Event}
use Rattle.script_journal.specs.declared.event.Event.TheVariants as events

-- a raw unit is shown: one whose destination has the selector 02
abbrev pub shown_at : ℕ → CarriedUnit (List ℕ) → List Event
shown_at system unit = if selector_of unit.to == 2 then events.Unit system unit.from unit.octets ∷ [] else []

abbrev pub up_events : Up (List ℕ) → List Event
up_events (Noted note) = events.Net note ∷ []
up_events (Came arrival) = shown_at arrival.system arrival.unit

-- what came up, in order
abbrev pub told : List (Up (List ℕ)) → List Event
told [] = []
told (up ∷ ups) = up_events up ++ told ups

-- why a raw unit is refused
abbrev pub refusal : DropCause → Refused
refusal drops.TooLong = refusals.TooLong
refusal drops.NoRoute = refusals.NoRoute
refusal drops.Full = refusals.Full
refusal drops.IdsSpent = refusals.IdsSpent

-- the line of a raw unit that is sent to an address
abbrev pub sent_event : ℕ → List ℕ → List ℕ → Offered → Event
sent_event system to octets WasTaken = events.Sent system to octets
sent_event system to octets (Dropped cause) = events.No (refusal cause)

-- the line of a delivery
abbrev pub picked_event : ℕ → ℕ → Picked → Event
picked_event number system picks.Taken = events.Deliver number system
picked_event number system picks.NoSuch = events.NoSuch number system
picked_event number system picks.Late = events.Late number system
picked_event number system picks.NotThere = events.NotThere number system
picked_event number system picks.NotOurs = events.NotOurs number system
