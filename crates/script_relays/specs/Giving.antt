-- After each pump of a script with relays: all that the one end of an open pair showed was submitted at the other, unless this pump's own call for the
-- next unit was refused (X.214, model of the transport service).
use Rattle.std.specs.Prelude.{◌≡◌, ℕ, ◌+◌, Bool, List, [], ◌∷◌, ◌++◌}
use Rattle.osi_base.specs.Link.{Link}
use Rattle.osi_base.specs.Calls.{Call}
use Rattle.script_journal.specs.declared.event.Event.{Event}
use Rattle.script_lines.specs.declared.line.Line.{Line}
use Rattle.script_setup.specs.SetUp.{SetUp}
use Rattle.script_bench.specs.Acts.{RunsScript}
use Rattle.script_world.specs.Plays.{WorldStep, first_world, world_acts}
use Rattle.script_world.specs.declared.play.World.{World as ScriptWorld}
use Rattle.script_world.specs.declared.play.World.TheVariants.{Running, SettingUp}
use Rattle.tp4_number.specs.Number.{wire}
use Rattle.tp4_relay.specs.Kept.{Kept}
use Rattle.tp4_relay.specs.Leaving.{AreGiven}
use Rattle.tp4_world.specs.Run.{Settles}
use Rattle.tp4_world.specs.World.{World}
use Rattle.law_relay.specs.Asked.{is_relayed}
use Rattle.script_relays.specs.Claims.{RelaysLawfully}
use Rattle.law_relay.specs.Relays.{Answers, Asking, Idle, LastTurn, OneTurn, Part, PumpsAfter, RelayRun, RunsPart, Settling, Turns, part_of, relay_play}
use Rattle.law_relay.specs.Services.{AsksEnd, AsksFor}

module _ {N : Type 0} (link : N → Link (List ℕ)) (steps : N → Call (List ℕ) → N → Type 0) where
  -- after the pump, in the journal up to its last event; those before stand before what the pump follows
  abbrev pub PumpGives : (Happens : World N → List Event → World N → Type 0) (before : List Event) (old : World N) (kept : Kept) (pumped : Bool) (here made : List Event) (new : World N) (last : Kept)
      → PumpsAfter link steps Happens old kept pumped here made new last → Type 0
  PumpGives Happens before old kept pumped here made new last after =
      AreGiven (AsksFor link steps) (AsksEnd link steps) after.mid kept here pumped after.rest new last after.pumps (before ++ made)

  -- after the pump of each turn
  abbrev pub TurnsGive : (before : List Event) (count : ℕ) (old : World N) (kept : Kept) (made : List Event) (new : World N) (last : Kept) → Turns link steps count old kept made new last → Type 0
  TurnsGive before count old kept made new last (LastTurn n o k m l z pumped settled after stop) = PumpGives (Settles link steps wire 0) before old kept pumped settled made new last after
  TurnsGive before count old kept made new last (OneTurn n o k m l z pumped settled mid middle here rest after goes turns is) =
      PumpGives (Settles link steps wire 0) before old kept pumped settled here mid middle after × TurnsGive (before ++ here) (count + 1) mid middle rest new last turns

  -- after each pump of a line
  abbrev pub PartGives : (part : Part) (before : List Event) (old : RelayRun N) (line : Line) (made : List Event) (new : World N) (last : Kept) → RunsPart link steps part old line made new last → Type 0
  PartGives Idle before old line made new last runs = Unit {0}
  PartGives Settling before old line made new last runs = TurnsGive before 0 old.ends old.relay made new last runs
  PartGives Asking before old line made new last runs = PumpGives (Answers link steps (is_relayed old.relay line) old.titles line) before old.ends old.relay runs.0 runs.1 made new last runs.2

module _ {N : Type 0} (link : N → Link (List ℕ)) (steps : N → Call (List ℕ) → N → Type 0) (makes : SetUp → N → Type 0) where
  -- no pump is made before the start
  abbrev pub StepGives : (before : List Event) (old : ScriptWorld (RelayRun N)) (line : Line) (made : List Event) (new : ScriptWorld (RelayRun N)) → WorldStep (relay_play link steps makes) old line made new → Type 0
  StepGives before (SettingUp setup) line made new step = Unit {0}
  StepGives before (Running run) line made new step = PartGives link steps (part_of line) before run line made step.1.0 step.1.1 step.1.2

  -- after each pump of a script
  abbrev pub RunGives : (before : List Event) (first : ScriptWorld (RelayRun N)) (script : List Line) (journal : List Event) (last : ScriptWorld (RelayRun N)) → RunsScript (world_acts (relay_play link steps makes)) first script journal last → Type 0
  RunGives before first [] journal last runs = Unit {0}
  RunGives before first (line ∷ script) journal last runs = StepGives before first line runs.1 runs.0 runs.3 × RunGives (before ++ runs.1) runs.0 script runs.2 last runs.5

  -- the journal is that of the run of the script, or a front of it; and so it is after each pump of this run
  pub record PumpsGiveAll (script : List Line) (journal : List Event) (last : ScriptWorld (RelayRun N)) : Type 0 where
    pub whole : List Event
    pub rest : List Event
    pub whole_is : whole ≡ journal ++ rest
    pub runs : RunsScript (world_acts (relay_play link steps makes)) first_world script whole last
    pub gives : RunGives [] first_world script whole last runs

  -- each connection is two queues, and so are those of a pair together; and no unit that was shown is left where the next is not refused
  pub record TellsRelays (script : List Line) (journal : List Event) (last : ScriptWorld (RelayRun N)) : Type 0 where
    pub lawful : RelaysLawfully script journal last
    pub gives : PumpsGiveAll script journal last
