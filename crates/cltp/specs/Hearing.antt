-- What comes of the units that the network hands up (X.234, unit data transfer).
use Rattle.std.specs.Prelude.{◌≡◌, ℕ, Bool, true, false, List, [], ◌∷◌, ◌++◌, Option, Some, None}
use Rattle.osi_base.specs.declared.unit.Arrival.{Arrival}
use Rattle.osi_base.specs.declared.unit.Unit.{Unit as CarriedUnit}
use Rattle.osi_base.specs.declared.unit.Up.{Up}
use Rattle.osi_base.specs.declared.unit.Up.TheVariants.{Unit as Came, Note as Noted}
use Rattle.script_journal.specs.declared.event.Event.{Event}
use Rattle.script_journal.specs.declared.event.Event.TheVariants as events
use Rattle.cltp.specs.declared.fault.UdFault.{UdFault}
use Rattle.cltp.specs.declared.system.ClSystem.{ClSystem}
use Rattle.cltp.specs.Faults.{IsUdFault}
use Rattle.cltp.specs.Systems.{has_selector, is_for, system_at}
use Rattle.cltp.specs.Ud.{Ud, IsUd}

-- a unit for the users of a system gives one event: it is no UD; or its destination selector is none of the system's; or it is shown
pub data TellsOf (own : ClSystem) (unit : CarriedUnit (List ℕ)) (event : Event) : Type 0 where
  Bad : (fault : UdFault) → IsUdFault unit.octets fault → event ≡ events.BadUd own.system fault.cause fault.place → TellsOf own unit event
  NoUser : (ud : Ud) → IsUd unit.octets ud → has_selector own ud.to ≡ false → event ≡ events.NoUser own.system → TellsOf own unit event
  Shown : (ud : Ud) → IsUd unit.octets ud → has_selector own ud.to ≡ true → event ≡ events.Datagram own.system unit.from ud.from ud.to ud.octets → TellsOf own unit event

-- a unit gives one event at the system to whose users it is sent, and nothing elsewhere
abbrev pub HearsIf : ClSystem → CarriedUnit (List ℕ) → Bool → List Event → Type 0
HearsIf own unit false made = made ≡ []
HearsIf own unit true made = (event : Event) × TellsOf own unit event × (made ≡ event ∷ [])

abbrev pub HearsAt : Option ClSystem → CarriedUnit (List ℕ) → List Event → Type 0
HearsAt None unit made = made ≡ []
HearsAt (Some own) unit made = HearsIf own unit (is_for own unit.to) made

abbrev pub Hears : List ClSystem → Arrival (List ℕ) → List Event → Type 0
Hears systems arrival made = HearsAt (system_at systems arrival.system) arrival.unit made

-- the units among what came up, one after another
abbrev pub HearsAll : List ClSystem → List (Up (List ℕ)) → List Event → Type 0
HearsAll systems [] made = made ≡ []
HearsAll systems (Noted note ∷ ups) made = HearsAll systems ups made
HearsAll systems (Came arrival ∷ ups) made =
    (here rest : List Event) × Hears systems arrival here × HearsAll systems ups rest × (made ≡ here ++ rest)
