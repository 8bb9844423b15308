-- A line from one end to its partner: units go in at one side and are shown at the other, normal and expedited (X.214, queue model).
use Rattle.std.specs.Prelude.{◌≡◌, ℕ, ◌<◌, ◌==◌, if◌then◌else◌, List, [], ◌∷◌, ◌++◌, length, get_or, Some}
use Rattle.script_journal.specs.Lawful.{Marked, Normal, Expedited, normals, expediteds}
use Rattle.tp4_number.specs.declared.piece.Piece.{Piece}
use Rattle.tp4_number.specs.Number.{wire}
use Rattle.tp4_number.specs.Receiver.{arrival}
use Rattle.tp4_number.specs.Traffic.{Rules, Traffic, Event, Tick, Open, Send, Resend, Dt_comes, Grant, Acknowledge, Ak_comes, May, after, start}
use Rattle.tp4_number.specs.Expedited.{Urgent, UrgentEvent, Ticks, Sends_ed, Resends_ed, Ed_comes, Ea_comes, MayUrgent, urgently, quiet}
use Rattle.tp4_sending.specs.Pieces.{cut_at}

-- normal units, with their mark
abbrev pub all_normal : List (List ℕ) → List Marked
all_normal [] = []
all_normal (octets ∷ units) = Normal octets ∷ all_normal units

-- the numbers of both kinds, with the units that one side submitted and that the other showed
pub record Line : Type 0 where
  pub world : Traffic
  pub urgent : Urgent
  pub submitted : List Marked
  pub shown : List Marked

-- a unit is submitted, the clock moves, or something happens to numbers of DTs and AKs or of EDs and EAs
pub data Happening : Type 0 where
  Submit : (unit : Marked) → Happening
  Clock : Happening
  Flows : (event : Event) → Happening
  Expedites : (event : UrgentEvent) → Happening

-- a normal unit has octets
abbrev pub IsUnit : Marked → Type 0
IsUnit (Normal octets) = 0 < length octets
IsUnit (Expedited octets) = record {}

-- a DT carries the piece of its number; a new one goes only where no ED is outstanding or waits
abbrev pub CarriesPiece : ℕ → Line → Event → Type 0
CarriesPiece size l Tick = ⊥
CarriesPiece size l (Open credit) = record {}
CarriesPiece size l Send = ((piece : Piece) × (cut_at size (normals l.submitted) l.world.sender.next ≡ Some piece)) × (l.urgent.base ≡ length (expediteds l.submitted))
CarriesPiece size l (Resend n) = record {}
CarriesPiece size l (Dt_comes n tick piece) = cut_at size (normals l.submitted) n ≡ Some piece
CarriesPiece size l (Grant credit) = record {}
CarriesPiece size l Acknowledge = record {}
CarriesPiece size l (Ak_comes answer) = record {}

-- a new ED goes only where a unit waits for it
abbrev pub CarriesUnit : Line → UrgentEvent → Type 0
CarriesUnit l Ticks = ⊥
CarriesUnit l Sends_ed = l.urgent.next < length (expediteds l.submitted)
CarriesUnit l Resends_ed = record {}
CarriesUnit l (Ed_comes n tick) = record {}
CarriesUnit l (Ea_comes n tick) = record {}

-- what a DT shows
abbrev pub shown_by : Rules → Traffic → Event → List (List ℕ)
shown_by rules w Tick = []
shown_by rules w (Open credit) = []
shown_by rules w Send = []
shown_by rules w (Resend n) = []
shown_by rules w (Dt_comes n tick piece) = (arrival rules.block w.receiver (wire rules.block n) piece).units
shown_by rules w (Grant credit) = []
shown_by rules w Acknowledge = []
shown_by rules w (Ak_comes answer) = []

-- what an ED shows: it carries the unit of its number
abbrev pub urged_by : Rules → Line → UrgentEvent → List Marked
urged_by rules l Ticks = []
urged_by rules l Sends_ed = []
urged_by rules l Resends_ed = []
urged_by rules l (Ed_comes n tick) = if wire rules.block n == wire rules.block l.urgent.expected then Expedited (get_or (expediteds l.submitted) n []) ∷ [] else []
urged_by rules l (Ea_comes n tick) = []

-- when it may happen
abbrev pub Can : Rules → ℕ → Line → Happening → Type 0
Can rules size l (Submit unit) = IsUnit unit
Can rules size l Clock = record {}
Can rules size l (Flows event) = May rules l.world event × CarriesPiece size l event
Can rules size l (Expedites event) = MayUrgent rules l.urgent event × CarriesUnit l event

-- what it changes
abbrev pub next : Rules → Line → Happening → Line
next rules l (Submit unit) = record l { submitted = l.submitted ++ unit ∷ [] }
next rules l Clock = record l { world = after rules l.world Tick; urgent = urgently rules l.urgent Ticks }
next rules l (Flows event) = record l { world = after rules l.world event; shown = l.shown ++ all_normal (shown_by rules l.world event) }
next rules l (Expedites event) = record l { urgent = urgently rules l.urgent event; shown = l.shown ++ urged_by rules l event }

-- all this can happen in this order, and leads from one line to the other; `size` is the most octets of a piece
abbrev pub Runs : Rules → ℕ → Line → List Happening → Line → Type 0
Runs rules size old [] new = new ≡ old
Runs rules size old (happening ∷ happenings) new = Can rules size old happening × Runs rules size (next rules old happening) happenings new

-- nothing happened yet: `credit` is what the sender may use, `places` the most that the receiver keeps, `room` the credit that it gives
abbrev pub empty : ℕ → ℕ → ℕ → ℕ → Line
empty tick credit places room = record { world = start tick credit places room; urgent = quiet tick; submitted = []; shown = [] }
