-- What holds of a journal in which a relay takes part, and of a pump that leaves it.
use Rattle.std.specs.Prelude.{◌≡◌, ℕ, Bool, List, ◌++◌, map}
use Rattle.script_journal.specs.Lawful.{shown, submitted}
use Rattle.script_journal.specs.declared.event.Event.{Event}
use Rattle.tp4_conn.specs.declared.call.ConnectRequest.{ConnectRequest}
use Rattle.tp4_conn.specs.declared.call.UserCall.{UserCall}
use Rattle.tp4_conn.specs.declared.timers.Timers.{Timers}
use Rattle.tp4_relay.specs.declared.pair.Heading.{Heading}
use Rattle.tp4_relay.specs.declared.pair.Pair.{Pair}
use Rattle.tp4_relay.specs.declared.pair.Phase.TheVariants.{Open}
use Rattle.tp4_relay.specs.declared.row.RelayRow.{RelayRow}
use Rattle.tp4_relay.specs.declared.unit.MarkedUnit.{MarkedUnit}
use Rattle.tp4_relay.specs.Allowed.{AreAllowed, marked}
use Rattle.tp4_relay.specs.Kept.{Kept, nothing_kept, relay_after}
use Rattle.tp4_relay.specs.Leaving.{AreGiven, RefusesNext, ServesAll}
use Rattle.tp4_relay.specs.Pump.{PumpStep}
use Rattle.tp4_relay.specs.Refusing.{IsNextRefused}

-- at an open pair what the one end showed was submitted at the other, in order and with the marks, but for what waits, which comes behind it
abbrev pub AllButWaiting : List Event → Pair → Type 0
AllButWaiting journal pair = pair.phase ≡ Open
    → (shown pair.inbound journal ≡ submitted pair.outbound journal ++ map marked pair.on.waiting)
    × (shown pair.outbound journal ≡ submitted pair.inbound journal ++ map marked pair.back.waiting)

-- where what is kept is that of a journal, what a pump leaves that serves all gives all that was shown
abbrev pub GivesShown : {S : Type 0} → (S → ℕ → ConnectRequest → Bool → List Event → S → Type 0) → (S → ℕ → UserCall → Bool → List Event → S → Type 0) → Type 0
GivesShown {S} connects calls = (rows : List RelayRow) (rules : Timers) (journal : List Event) (old : S) (kept : Kept) (line : List Event) (done : Bool) (made : List Event) (new : S) (last : Kept)
    → AreAllowed (nothing_kept rows rules) journal → last ≡ relay_after rows rules journal → (all : ServesAll connects calls old kept line done made new last)
    → AreGiven connects calls old kept line done made new last all.step journal

-- a refusal of the next unit, which excuses what a pump leaves, is one of its calls
abbrev pub TellsRefusals : {S : Type 0} → (S → ℕ → ConnectRequest → Bool → List Event → S → Type 0) → (S → ℕ → UserCall → Bool → List Event → S → Type 0) → Type 0
TellsRefusals {S} connects calls = (old : S) (kept : Kept) (line : List Event) (done : Bool) (made : List Event) (new : S) (last : Kept) (step : PumpStep connects calls old kept line done made new last)
    (place : ℕ) (heading : Heading) (end : ℕ) (waiting : List MarkedUnit) → RefusesNext connects calls old kept line done made new last step place heading end waiting
    → IsNextRefused calls made end waiting
