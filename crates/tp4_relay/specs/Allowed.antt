-- What may come in a journal in which a relay takes part.
use Rattle.std.specs.Prelude.{◌≡◌, ◌≢◌, ℕ, ◌<◌, ◌≤◌, ◌==◌, true, false, List, [], ◌∷◌}
use Rattle.std.specs.List.{AllByRecursion, list_any}
use Rattle.script_journal.specs.Lawful.{Marked}
use Rattle.script_journal.specs.Lawful.{Normal as NormalUnit, Expedited as ExpeditedUnit}
use Rattle.script_journal.specs.declared.event.Event.{Event}
use Rattle.script_journal.specs.declared.event.Event.TheVariants as events
use Rattle.tp4_conn.specs.End.{IsSized}
use Rattle.tp4_relay.specs.declared.pair.Pair.{Pair}
use Rattle.tp4_relay.specs.declared.pair.Phase.{Phase}
use Rattle.tp4_relay.specs.declared.pair.Phase.TheVariants.{Begun, Open}
use Rattle.tp4_relay.specs.declared.unit.MarkedUnit.{MarkedUnit}
use Rattle.tp4_relay.specs.declared.unit.MarkedUnit.TheVariants.{Normal, Expedited}
use Rattle.tp4_relay.specs.Kept.{Kept, noted, named_by, owns}
use Rattle.tpdu.specs.declared.service.EndTold.TheVariants as tells

-- ---- units, as a journal has them

abbrev pub marked : MarkedUnit → Marked
marked (Normal octets) = NormalUnit octets
marked (Expedited octets) = ExpeditedUnit octets

-- ---- the rules of a journal in which a relay takes part

-- the end was indicated at a row, and is no end of a pair yet
abbrev pub IsUnjoined : Kept → ℕ → Type 0
IsUnjoined kept end = (list_any (λ claim. claim.end == end) kept.claims ≡ true) × (list_any (λ pair. pair.inbound == end) kept.pairs ≡ false)

-- the unit is the first that waits, at an open pair
abbrev pub IsFirst : Phase → List MarkedUnit → MarkedUnit → Type 0
IsFirst phase units unit = (phase ≡ Open) × (rest : List MarkedUnit) × (units ≡ unit ∷ rest)

-- an end of a pair shows no unit before the pair is open
abbrev pub MayShow : ℕ → Pair → Type 0
MayShow end pair = ((pair.inbound == end) ≡ true → pair.phase ≢ Begun) × ((pair.outbound == end) ≡ true → pair.phase ≢ Begun)

-- a unit is submitted at an end of a pair only where it is the first that waits for it
abbrev pub MayGive : ℕ → MarkedUnit → Pair → Type 0
MayGive end unit pair = ((pair.outbound == end) ≡ true → IsFirst pair.phase pair.on.waiting unit) × ((pair.inbound == end) ≡ true → IsFirst pair.phase pair.back.waiting unit)

abbrev pub Shows : Kept → ℕ → Type 0
Shows kept end = (IsUnjoined kept end → ⊥) × AllByRecursion (MayShow end) kept.pairs

abbrev pub GivesUnit : Kept → ℕ → MarkedUnit → Type 0
GivesUnit kept end unit = (IsUnjoined kept end → ⊥) × AllByRecursion (MayGive end unit) kept.pairs

-- two ends are joined of which the one was indicated, later than each inbound end so far, and the other was named by no event yet
pub record Joins (kept : Kept) (inbound outbound : ℕ) : Type 0 where
  pub indicated : list_any (λ claim. claim.end == inbound) kept.claims ≡ true
  pub later : AllByRecursion (λ pair. pair.inbound < inbound) kept.pairs
  pub unnamed : kept.named < outbound

-- the event may come after what is kept: an indication names an end that was named by none, an end of a pair shows units only after it was opened, and
-- what waits is submitted in order
abbrev pub IsAllowed : Kept → Event → Type 0
IsAllowed kept (events.Incoming heard) = kept.named < heard.end
IsAllowed kept (events.End end (tells.Got octets)) = Shows kept end
IsAllowed kept (events.End end (tells.Urgent octets)) = Shows kept end
IsAllowed kept (events.Data end octets) = GivesUnit kept end (Normal octets)
IsAllowed kept (events.Expedite end octets) = GivesUnit kept end (Expedited octets)
IsAllowed kept (events.Joined inbound outbound) = Joins kept inbound outbound
IsAllowed kept event = Unit {0}

-- each event may come after those before it
abbrev pub AreAllowed : Kept → List Event → Type 0
AreAllowed kept [] = Unit {0}
AreAllowed kept (event ∷ journal) = IsAllowed kept event × AreAllowed (noted kept event) journal

-- ---- the events of a line

-- no user calls the end: it is none of the relay
abbrev pub IsOther : Kept → ℕ → Type 0
IsOther kept end = owns kept end ≡ false

-- of the events of a line: none is a note of a relay, none is a call on an end of the relay, an indication names an end that was named by none, an
-- end of a pair shows units only after it was opened, and options have a listed size
abbrev pub IsLine : Kept → Event → Type 0
IsLine kept (events.Incoming heard) = (kept.named < heard.end) × IsSized heard.options
IsLine kept (events.End end (tells.Confirm options octets)) = IsSized options
IsLine kept (events.End end (tells.Accept options octets)) = IsOther kept end
IsLine kept (events.Refuse end octets) = IsOther kept end
IsLine kept (events.Data end octets) = IsOther kept end
IsLine kept (events.Expedite end octets) = IsOther kept end
IsLine kept (events.End end (tells.Window credit)) = IsOther kept end
IsLine kept (events.Disconnect end octets) = IsOther kept end
IsLine kept (events.End end (tells.Got octets)) = Shows kept end
IsLine kept (events.End end (tells.Urgent octets)) = Shows kept end
IsLine kept (events.Joined inbound outbound) = ⊥
IsLine kept event = Unit {0}

-- and all of them name ends that were made, of which there are so many
abbrev pub AreLine : ℕ → Kept → List Event → Type 0
AreLine ends kept [] = Unit {0}
AreLine ends kept (event ∷ line) = IsLine kept event × (named_by event ≤ ends) × AreLine ends (noted kept event) line
