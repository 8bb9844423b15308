-- What a user of datagrams may see (X.214, connectionless-mode transport service).
use Rattle.std.specs.Prelude.{◌≡◌, ℕ, ◌+◌, ◌≤◌, List, ◌∷◌, ◌++◌, Some}
use Rattle.script_journal.specs.RawLawful.{tick_after}
use Rattle.script_journal.specs.declared.event.Event.{Event}
use Rattle.script_journal.specs.declared.event.Event.TheVariants as events
use Rattle.cltp.specs.declared.system.ClSystem.{ClSystem}
use Rattle.cltp.specs.Systems.{system_at}

-- among the events there is one by which the system of the address `from` sent these octets, from that selector, to the address of this
-- system and to that selector, at most `life` ticks ago
pub record WasSent (life : ℕ) (systems : List ClSystem) (before : List Event) (system : ℕ) (from calling called octets : List ℕ) : Type 0 where
  pub sender : ClSystem
  pub own : ClSystem
  pub earlier : List Event
  pub later : List Event
  pub sender_is : system_at systems sender.system ≡ Some sender
  pub from_is : from ≡ sender.own
  pub own_is : system_at systems system ≡ Some own
  pub sent : before ≡ earlier ++ events.Send sender.system calling own.own called octets ∷ later
  pub recent : tick_after before ≤ tick_after earlier + life

-- each datagram that is shown was sent, to this system and selector, with these octets, at most the initial lifetime ago
abbrev pub DatagramLawful : ℕ → List ClSystem → List Event → Type 0
DatagramLawful life systems journal =
    (before after : List Event) (system : ℕ) (from calling called octets : List ℕ) → journal ≡ before ++ events.Datagram system from calling called octets ∷ after
    → WasSent life systems before system from calling called octets
