-- What a user of a script of datagrams may see (X.214, connectionless-mode transport service).
use Rattle.std.specs.Prelude.{◌≡◌, ℕ, List, [], ◌∷◌, Some}
use Rattle.osi_base.specs.declared.unit.Arrival.{Arrival}
use Rattle.osi_base.specs.Link.{Link}
use Rattle.osi_base.specs.Calls.{Call}
use Rattle.cltp.specs.Hearing.{Hears, TellsOf}
use Rattle.cltp.specs.Lawful.{DatagramLawful}
use Rattle.cltp.specs.Systems.{system_at}
use Rattle.cltp.specs.declared.system.ClSystem.{ClSystem}
use Rattle.script_journal.specs.declared.event.Event.{Event}
use Rattle.script_lines.specs.declared.line.Line.{Line}
use Rattle.script_setup.specs.SetUp.{SetUp}
use Rattle.script_world.specs.declared.play.World.{World}
use Rattle.script_world.specs.declared.play.World.TheVariants.{SettingUp, Running}
use Rattle.law_datagram_run.specs.Datagrams.{DatagramRun}
use Rattle.script_datagrams.specs.Each.{GivesEachUnit}

-- each datagram of the journal was sent, to this system and selector, with these octets, at most the lifetime before; while it is set up nothing is told
abbrev pub IsSent : {N : Type 0} → List Event → World (DatagramRun N) → Type 0
IsSent journal (SettingUp setup) = journal ≡ []
IsSent journal (Running run) = DatagramLawful run.life run.world.systems journal

-- so it is of a script and its journal
abbrev pub ShownWasSent : {N : Type 0} → List Line → List Event → World (DatagramRun N) → Type 0
ShownWasSent script journal last = IsSent journal last

-- each datagram that is shown was sent, and each unit that came up gave one event
pub record TellsDatagrams {N : Type 0} (link : N → Link (List ℕ)) (steps : N → Call (List ℕ) → N → Type 0) (makes : SetUp → N → Type 0) (script : List Line) (journal : List Event) (last : World (DatagramRun N)) : Type 0 where
  pub sent : ShownWasSent script journal last
  pub each : GivesEachUnit link steps makes script journal last

-- the unit gives this event alone, as one for the users of its system
pub record GivesOne (systems : List ClSystem) (arrival : Arrival (List ℕ)) : Type 0 where
  pub own : ClSystem
  pub own_is : system_at systems arrival.system ≡ Some own
  pub event : Event
  pub tells : TellsOf own arrival.unit event
  pub only : (made : List Event) → Hears systems arrival made → made ≡ event ∷ []
