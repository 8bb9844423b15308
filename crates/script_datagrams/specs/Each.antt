-- Each unit that comes up in a script of datagrams gives exactly one event (X.234, unit data transfer).
use Rattle.std.specs.Prelude.{◌≡◌, ℕ, Bool, true, false, IsTrue, List, [], ◌∷◌, ◌++◌}
use Rattle.osi_base.specs.Link.{Link}
use Rattle.osi_base.specs.Calls.{Call}
use Rattle.cltp.specs.Each.{CallGivesEach, GivesEach}
use Rattle.cltp.specs.Run.{Sending, Delivering, Ticking, Settling}
use Rattle.cltp.specs.Systems.{World}
use Rattle.script_journal.specs.declared.event.Event.{Event}
use Rattle.script_lines.specs.declared.line.Line.{Line}
use Rattle.script_lines.specs.declared.line.Line.TheVariants as lines
use Rattle.script_setup.specs.SetUp.{SetUp, end_at}
use Rattle.script_bench.specs.Acts.{RunsScript}
use Rattle.script_world.specs.Plays.{SetsUp, WorldStep, first_world, is_start, world_acts}
use Rattle.script_world.specs.declared.play.World.{World as ScriptWorld}
use Rattle.script_world.specs.declared.play.World.TheVariants.{Running, SettingUp}
use Rattle.law_datagram_run.specs.Datagrams.{DatagramRun, RunsLine, cl_play, request_for}
use Rattle.law_datagram_run.specs.Users.{users_of}

-- a unit comes to end systems alone
abbrev pub ComesToEnds : {N : Type 0} → (N → Link (List ℕ)) → (SetUp → N → Type 0) → Type 0
ComesToEnds {N} link makes = (setup : SetUp) (net : N) (to : List ℕ) (system : ℕ) → makes setup net → IsTrue ((link net).belongs to system) → end_at setup.systems system ≡ true

module _ {N : Type 0} (link : N → Link (List ℕ)) (steps : N → Call (List ℕ) → N → Type 0) (makes : SetUp → N → Type 0) where
  -- ---- each unit that comes up has one event

  -- in a line
  abbrev pub LineGivesEach : (titles : List (List ℕ)) (old : World N) (line : Line) (made : List Event) (new : World N) → RunsLine link steps titles old line made new → Type 0
  LineGivesEach titles old (lines.Send system selector to called octets) made new runs = CallGivesEach link steps old (Sending system (request_for selector runs.0 called octets)) made new runs.2
  LineGivesEach titles old lines.Tick made new runs = CallGivesEach link steps old Ticking made new runs
  LineGivesEach titles old lines.Settle made new runs = CallGivesEach link steps old Settling made new runs
  LineGivesEach titles old (lines.Deliver number system) made new runs = CallGivesEach link steps old (Delivering number system) made new runs
  LineGivesEach titles old line made new runs = Unit {0}

  -- as a network starts
  abbrev pub StartGivesEach : (start : Bool) (setup : SetUp) (line : Line) (made : List Event) (new : ScriptWorld (DatagramRun N)) → SetsUp (cl_play link steps makes) start setup line made new → Type 0
  StartGivesEach true setup line made new starts = GivesEach (users_of setup) starts.1.3.takes_up.ups starts.1.3.takes_up.heard
  StartGivesEach false setup line made new says = Unit {0}

  abbrev pub StepGivesEach : (old : ScriptWorld (DatagramRun N)) (line : Line) (made : List Event) (new : ScriptWorld (DatagramRun N)) → WorldStep (cl_play link steps makes) old line made new → Type 0
  StepGivesEach (SettingUp setup) line made new step = StartGivesEach (is_start line) setup line made new step.1
  StepGivesEach (Running run) line made new step = LineGivesEach run.titles run.world line made step.1.0 step.1.1

  -- in each line of a script
  abbrev pub RunGivesEach : (first : ScriptWorld (DatagramRun N)) (script : List Line) (journal : List Event) (last : ScriptWorld (DatagramRun N)) → RunsScript (world_acts (cl_play link steps makes)) first script journal last → Type 0
  RunGivesEach first [] journal last runs = Unit {0}
  RunGivesEach first (line ∷ script) journal last runs = StepGivesEach first line runs.1 runs.0 runs.3 × RunGivesEach runs.0 script runs.2 last runs.5

  -- the journal is that of the run of the script, or a front of it; and in this run each unit that comes up has one event
  pub record GivesEachUnit (script : List Line) (journal : List Event) (last : ScriptWorld (DatagramRun N)) : Type 0 where
    pub whole : List Event
    pub rest : List Event
    pub whole_is : whole ≡ journal ++ rest
    pub runs : RunsScript (world_acts (cl_play link steps makes)) first_world script whole last
    pub each : RunGivesEach first_world script whole last runs
