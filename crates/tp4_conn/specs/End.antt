-- One end of a connection, and what a row of its state table does (X.224, class 4 state tables).
use Rattle.std.specs.Prelude.{◌≡◌, ◌≤◌, ℕ, ◌+◌, ◌-◌, ◌*◌, Bool, true, false, ◌==◌, List, [], ◌∷◌, ◌++◌, Option, Some, None, IsSome, if◌then◌else◌}
use Rattle.tpdu.specs.Parameters.{sizes}
use Rattle.tpdu.specs.Writing.{code_in}
use Rattle.tpdu.specs.declared.tpdu.Format.{Format}
use Rattle.tpdu.specs.declared.tpdu.Format.TheVariants.{Normal}
use Rattle.tpdu.specs.declared.tpdu.Tpdu.{Tpdu}
use Rattle.tpdu.specs.declared.tpdu.Tpdu.TheVariants.{Dr, Dc}
use Rattle.tp4_flow.specs.Told.{Told, Grows}
use Rattle.tpdu.specs.declared.service.Options.{Options}
use Rattle.tp4_flow.specs.declared.step.EndEvent.{EndEvent}
use Rattle.tpdu.specs.declared.service.GoneCause.{GoneCause}
use Rattle.tp4_flow.specs.declared.step.Sent.{Sent}
use Rattle.tp4_flow.specs.declared.step.What.TheVariants as whats
use Rattle.tpdu.specs.declared.service.EndTold.{EndTold}
use Rattle.tpdu.specs.declared.service.EndTold.TheVariants.{Gone}
use Rattle.tp4_conn.specs.declared.end_record.EndRecord.{EndRecord}
use Rattle.tp4_conn.specs.declared.proposed.Proposed.{Proposed}
use Rattle.tp4_conn.specs.declared.states.StateData.{StateData}
use Rattle.tp4_conn.specs.declared.states.StateData.TheVariants.{Closing, Frozen}
use Rattle.tp4_conn.specs.declared.timers.Timers.{Timers}

pub record End : Type 0 where
  pub base : EndRecord  -- what it has in every state. Its clock is the tick of the latest call that was not refused
  pub stage : StateData  -- its state, with what it has there alone

-- what a row does: the end after it, the events and the TPDUs, each in order
pub record Moved : Type 0 where
  pub base : EndRecord
  pub stage : StateData
  pub events : List EndEvent
  pub tpdus : List Sent

-- the end after a row
abbrev pub end_of : Moved → End
end_of m = record { base = m.base; stage = m.stage }

-- nothing happens
abbrev pub stays : EndRecord → StateData → Moved
stays b stage = record { base = b; stage = stage; events = []; tpdus = [] }

-- these events and TPDUs came first
abbrev pub led_by : List EndEvent → List Sent → Moved → Moved
led_by events tpdus m = record m { events = events ++ m.events; tpdus = tpdus ++ m.tpdus }

-- N T1
abbrev pub span : Timers → ℕ
span t = t.sendings * t.t1

-- for how long a number is in use
abbrev pub in_use : Timers → ℕ
in_use t = 2 * t.life + (t.sendings - 1) * t.t1

-- for how long a reference is frozen
abbrev pub frozen_for : Timers → ℕ
frozen_for t = 2 * t.life + t.inactive + span t

-- what was agreed, where something was; else normal formats and a checksum
abbrev pub agreed_format : Option Options → Format
agreed_format None = Normal
agreed_format (Some options) = options.format

abbrev pub agreed_sum : Option Options → Bool
agreed_sum None = true
agreed_sum (Some options) = options.sum

-- what this end tells
abbrev pub tell : EndRecord → EndTold → EndEvent
tell b told = record { reference = b.own; what = whats.End told }

-- a TPDU to its partner
abbrev pub send : EndRecord → Tpdu → Sent
send b tpdu = record { to = b.to; tpdu = tpdu; format = agreed_format b.agreed; sum = agreed_sum b.agreed }

-- a DC, where the source of the DR is not 0
abbrev pub confirms : EndRecord → ℕ → List Sent
confirms b source = if source == 0 then [] else send b (Dc source b.own) ∷ []

-- gone with a cause and octets
abbrev pub gone : EndRecord → GoneCause → List ℕ → List EndEvent
gone b cause octets = tell b (Gone cause octets) ∷ []

-- the DR of an end that parts
abbrev pub release : EndRecord → ℕ → List ℕ → Sent
release b reason octets = send b (Dr b.partner b.own reason None octets)

-- .. ; DR; Closing, whose time counts from that tick
abbrev pub closing : EndRecord → List EndEvent → ℕ → List ℕ → ℕ → Moved
closing b events reason octets from = record {
  base = b;
  stage = Closing (record { reason = reason; octets = octets; from = from; last = b.clock });
  events = events;
  tpdus = release b reason octets ∷ [];
}

-- .. ; Frozen
abbrev pub frozen : EndRecord → List EndEvent → List Sent → Moved
frozen b events tpdus = record { base = b; stage = Frozen b.clock; events = events; tpdus = tpdus }

-- an end did what the row says
pub record Does (m : Moved) (base : EndRecord) (stage : StateData) (was new : Told) : Type 0 where
  pub base_is : base ≡ m.base
  pub stage_is : stage ≡ m.stage
  pub told : Grows was m.events m.tpdus new

-- what an end keeps for good
pub record IsSame (old new : EndRecord) : Type 0 where
  pub own : new.own ≡ old.own
  pub to : new.to ≡ old.to
  pub is_called : new.is_called ≡ old.is_called
  pub calling : new.calling ≡ old.calling
  pub called : new.called ≡ old.called
  pub proposed : new.proposed ≡ old.proposed
  pub timers : new.timers ≡ old.timers

-- the timers are in their ranges
pub record IsTimed (t : Timers) : Type 0 where
  pub life : t.life ≤ 255
  pub t1_least : 1 ≤ t.t1
  pub t1 : t.t1 ≤ 255
  pub sendings_least : 2 ≤ t.sendings
  pub sendings : t.sendings ≤ 16
  pub window_least : 1 ≤ t.window
  pub window : t.window ≤ 255
  pub inactive_least : 1 ≤ t.inactive
  pub inactive : t.inactive ≤ 255
  pub credit : t.credit ≤ 15

-- the most octets of a TPDU are one of the sizes that have a code: 128, 256, 512, 1024, 2048, 4096, 8192
unfoldable pub IsSize : ℕ → Type 0
IsSize size = IsSome (code_in sizes size)

-- or, where it is preferred, 128 octets 1 to 128 times
abbrev pub IsSizedBy : Bool → ℕ → Type 0
IsSizedBy false size = IsSize size
IsSizedBy true size = (n : ℕ) × (size ≡ 128 * n) × (1 ≤ n) × (n ≤ 128)

abbrev pub IsSized : Options → Type 0
IsSized o = IsSizedBy o.preferred o.size

-- what a CR proposes, with the size of its C0
pub record IsProposal (p : Proposed) : Type 0 where
  pub sized : IsSized p.options
  pub listed : IsSize p.listed
