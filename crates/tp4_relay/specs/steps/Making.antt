-- What a pump tells of an event of a line, and which events of the line may come behind that.
use Rattle.std.specs.Prelude.{◌≡◌, ◌≢◌, ℕ, ◌<◌, ◌≤◌, true, false, List, [], ◌∷◌, Some, None}
use Rattle.std.specs.List.{AllByRecursion}
use Rattle.script_journal.specs.declared.event.Event.{Event}
use Rattle.script_journal.specs.declared.event.Event.TheVariants as events
use Rattle.tp4_conn.specs.End.{IsSized}
use Rattle.tp4_conn.specs.Calls.{IsCall}
use Rattle.tp4_conn.specs.declared.call.UserCall.{UserCall}
use Rattle.tp4_conn.specs.declared.call.UserCall.TheVariants as asks
use Rattle.tp4_relay.specs.declared.claim.Claim.{Claim}
use Rattle.tp4_relay.specs.declared.pair.Pair.{Pair}
use Rattle.tp4_relay.specs.declared.reaction.Reaction.{Reaction}
use Rattle.tp4_relay.specs.declared.reaction.Reaction.TheVariants.{Nothing, Begin, Ask}
use Rattle.tp4_relay.specs.declared.unit.MarkedUnit.TheVariants.{Normal, Expedited}
use Rattle.tp4_relay.specs.Allowed.{GivesUnit, IsUnjoined, Joins}
use Rattle.tp4_relay.specs.Kept.{Kept, noted}
use Rattle.tp4_relay.specs.Pairs.{AtEnd, Change, Accepts, Closes, inbound_change, outbound_change}
use Rattle.tp4_relay.specs.steps.Tables.{is_claimed}
use Rattle.tpdu.specs.declared.service.EndTold.TheVariants as tells

-- ---- what a pump tells

-- a change that goes with every other
abbrev pub IsFree : Change → Type 0
IsFree Accepts = Unit {0}
IsFree Closes = Unit {0}
IsFree change = ⊥

abbrev pub IsFreeAt : AtEnd → Type 0
IsFreeAt None = Unit {0}
IsFreeAt (Some at) = IsFree at.1

abbrev pub IsFreeEvent : Event → Type 0
IsFreeEvent event = IsFreeAt (inbound_change event) × IsFreeAt (outbound_change event)

-- what a pump tells of an event: it joins an indicated end to one that is above these, or what it tells goes with every event
abbrev pub IsMadeBy : ℕ → Kept → Event → Type 0
IsMadeBy ends kept (events.Incoming heard) = ⊥
IsMadeBy ends kept (events.End end (tells.Gone cause octets)) = ⊥
IsMadeBy ends kept (events.Joined inbound outbound) = Joins kept inbound outbound × (ends < outbound)
IsMadeBy ends kept event = IsFreeEvent event

abbrev pub AreMadeBy : ℕ → Kept → List Event → Type 0
AreMadeBy ends kept [] = Unit {0}
AreMadeBy ends kept (event ∷ made) = IsMadeBy ends kept event × AreMadeBy ends (noted kept event) made

-- ---- events of a line

-- the event goes with what a pump tells: no user calls an end that was indicated at a row, no such end shows a unit before it was joined, and an indicated
-- end is a new one
abbrev pub Passes : Kept → Event → Type 0
Passes kept (events.Incoming heard) = AllByRecursion (λ (claim : Claim). claim.end < heard.end) kept.claims × AllByRecursion (λ (pair : Pair). pair.outbound ≢ heard.end) kept.pairs
Passes kept (events.End end (tells.Accept options octets)) = is_claimed kept.claims end ≡ false
Passes kept (events.Data end octets) = is_claimed kept.claims end ≡ false
Passes kept (events.Expedite end octets) = is_claimed kept.claims end ≡ false
Passes kept (events.End end (tells.Window credit)) = is_claimed kept.claims end ≡ false
Passes kept (events.Disconnect end octets) = is_claimed kept.claims end ≡ false
Passes kept (events.End end (tells.Got octets)) = IsUnjoined kept end → ⊥
Passes kept (events.End end (tells.Urgent octets)) = IsUnjoined kept end → ⊥
Passes kept (events.Joined inbound outbound) = ⊥
Passes kept event = Unit {0}

-- its options have a listed size
abbrev pub HasSize : Event → Type 0
HasSize (events.Incoming heard) = IsSized heard.options
HasSize (events.End end (tells.Confirm options octets)) = IsSized options
HasSize event = Unit {0}

-- ---- what is to be done

-- the call submits no unit
abbrev pub SubmitsNone : UserCall → Type 0
SubmitsNone (asks.Normal octets) = ⊥
SubmitsNone (asks.Urgent octets) = ⊥
SubmitsNone (asks.Window credit) = ⊥
SubmitsNone call = Unit {0}

-- it may be done: the system is there and the options have a listed size, the end is named and the indicated one not joined yet
abbrev pub MayDo : (ℕ → Type 0) → Kept → Reaction → Type 0
MayDo has kept Nothing = Unit {0}
MayDo has kept (Begin inbound system request) =
    has system × IsSized request.options × (is_claimed kept.claims inbound ≡ true) × AllByRecursion (λ (pair : Pair). pair.inbound < inbound) kept.pairs × (inbound ≤ kept.named)
MayDo has kept (Ask end call) = IsCall call × SubmitsNone call × (end ≤ kept.named)

-- a unit that a call submits is the first that waits
abbrev pub MayAsk : Kept → ℕ → UserCall → Type 0
MayAsk kept end (asks.Normal octets) = GivesUnit kept end (Normal octets)
MayAsk kept end (asks.Urgent octets) = GivesUnit kept end (Expedited octets)
MayAsk kept end call = Unit {0}
