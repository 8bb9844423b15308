-- A network with its transport entities, which a script runs once it is set up.
use Rattle.std.specs.Prelude.{◌≡◌, ℕ, if◌then◌else◌, List, Option, Some, None}
use Rattle.osi_base.specs.Link.{Link}
use Rattle.osi_base.specs.Calls.{Call}
use Rattle.tp4_conn.specs.declared.timers.Timers.{Timers}
use Rattle.tp4_conn.specs.End.{frozen_for}
use Rattle.tp4_number.specs.Number.{wire}
use Rattle.tp4_world.specs.Run.{RunsLine, Starts}
use Rattle.tp4_world.specs.World.{World as TransportWorld}
use Rattle.script_journal.specs.declared.event.Event.{Event}
use Rattle.script_lines.specs.declared.words.Dialect.{Dialect}
use Rattle.script_lines.specs.declared.line.Line.{Line}
use Rattle.script_setup.specs.SetUp.{SetUp, timers_of, titles_of as titles_said}
use Rattle.law_setup.specs.Entities.{entities_of}
use Rattle.script_world.specs.Plays.{Playing}
use Rattle.script_world.specs.declared.play.World.{World}
use Rattle.script_world.specs.declared.play.World.TheVariants.{Running, SettingUp}

-- the titles of the systems by their numbers, the lifetime of their PDUs in ticks, and the network with its transport entities
pub record TransportRun (N : Type 0) : Type 0 where
  pub titles : List (List ℕ)
  pub timers : Timers
  pub ends : TransportWorld N

-- the titles of the systems by their numbers, the lifetime of their PDUs in ticks, and for how many ticks a reference is frozen and a transport entity
-- that began again is silent
abbrev pub titles_of : {N : Type 0} → World (TransportRun N) → List (List ℕ)
titles_of (SettingUp setup) = titles_said setup
titles_of (Running run) = run.titles

abbrev pub life_of : {N : Type 0} → World (TransportRun N) → ℕ
life_of (SettingUp setup) = setup.life
life_of (Running run) = run.timers.life

abbrev pub frozen_of : {N : Type 0} → World (TransportRun N) → ℕ
frozen_of (SettingUp setup) = frozen_for (timers_of setup.life setup.limits)
frozen_of (Running run) = frozen_for run.timers

module _ {N : Type 0} (link : N → Link (List ℕ)) where
  -- how many arrivals equalled no unit afloat, where something was injected
  abbrev pub strays_in : N → Option ℕ
  strays_in net = if (link net).honest then None else Some (link net).strays

module _ {N : Type 0} (link : N → Link (List ℕ)) (steps : N → Call (List ℕ) → N → Type 0) where
  -- what a line does
  abbrev pub RunsEnds : TransportRun N → Line → List Event → TransportRun N → Type 0
  RunsEnds old line made new = (ends : TransportWorld N) × RunsLine link steps wire old.titles old.ends line made ends × (new ≡ record old { ends = ends })

module _ {N : Type 0} (link : N → Link (List ℕ)) (steps : N → Call (List ℕ) → N → Type 0) (makes : SetUp → N → Type 0) where
  -- the network is made with its transport entities, and what it tells at tick 0 is told
  abbrev pub StartsEnds : SetUp → List Event → TransportRun N → Type 0
  StartsEnds setup made new =
      (net : N) × (first : TransportWorld N) × makes setup net × Starts link steps net (entities_of setup) made first
      × (new ≡ record { titles = titles_said setup; timers = timers_of setup.life setup.limits; ends = first })

  -- read by that command
  abbrev pub tp_play : Dialect → Playing (TransportRun N)
  tp_play dialect = record { dialect = dialect; starts = StartsEnds; step = RunsEnds link steps; strays = λ run. strays_in link run.ends.carrier }
