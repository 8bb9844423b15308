-- What a receiver of raw units may see (X.213, connectionless-mode network service).
use Rattle.std.specs.Prelude.{◌≡◌, ℕ, ◌+◌, ◌≤◌, List, [], ◌∷◌, ◌++◌, slice_get, Some}
use Rattle.nsap.specs.Address.{system_part}
use Rattle.script_journal.specs.declared.event.Event.{Event}
use Rattle.script_journal.specs.declared.event.Event.TheVariants as events

-- the clock after an event
abbrev pub clock_after : ℕ → Event → ℕ
clock_after now (events.Tick tick) = tick
clock_after now event = now

abbrev pub clock_from : ℕ → List Event → ℕ
clock_from now [] = now
clock_from now (event ∷ journal) = clock_from (clock_after now event) journal

-- the tick at which an event stands that comes after these
abbrev pub tick_after : List Event → ℕ
tick_after journal = clock_from 0 journal

-- the address of a system's raw units
abbrev pub raw_address : List ℕ → List ℕ
raw_address title = system_part title ++ 2 ∷ []

-- among the events there is one by which the system of the address `from` sent these octets to the raw address of the
-- system, at most `life` ticks ago
pub record WasSent (life : ℕ) (titles : List (List ℕ)) (before : List Event) (system : ℕ) (from octets : List ℕ) : Type 0 where
  pub sender : ℕ
  pub sender_title : List ℕ
  pub own_title : List ℕ
  pub earlier : List Event
  pub later : List Event
  pub sender_is : slice_get titles sender ≡ Some sender_title
  pub from_is : from ≡ raw_address sender_title
  pub own_is : slice_get titles system ≡ Some own_title
  pub sent : before ≡ earlier ++ events.Sent sender (raw_address own_title) octets ∷ later
  pub recent : tick_after before ≤ tick_after earlier + life

-- each unit that is shown was sent, to this system, from that address, with these octets, at most the initial lifetime ago
abbrev pub RawLawful : ℕ → List (List ℕ) → List Event → Type 0
RawLawful life titles journal =
    (before after : List Event) (system : ℕ) (from octets : List ℕ) → journal ≡ before ++ events.Unit system from octets ∷ after
    → WasSent life titles before system from octets
