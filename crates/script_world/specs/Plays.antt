-- What a script sets up and then runs: until its start what its lines say is kept, and then anything runs that starts of what was said.
use Rattle.std.specs.Prelude.{◌≡◌, ℕ, ◌+◌, ◌<◌, Bool, true, false, List, [], Option, None, Ok}
use Rattle.line_loop.specs.Lines.{most_lines}
use Rattle.script_journal.specs.declared.event.Event.{Event}
use Rattle.script_lines.specs.declared.words.Dialect.{Dialect}
use Rattle.script_lines.specs.declared.line.Line.{Line}
use Rattle.script_lines.specs.declared.line.Line.TheVariants as lines
use Rattle.script_lines.specs.Grammar.{line_read}
use Rattle.script_lines.specs.Known.{Declared}
use Rattle.script_setup.specs.Fitting.{Fits, IsWell}
use Rattle.script_setup.specs.SetUp.{SetUp, nothing_said, set_up}
use Rattle.law_setup.specs.Agreeing.{AreOne}
use Rattle.law_setup.specs.Lines.{IsInOctets}
use Rattle.script_bench.specs.Acts.{Acts, Keeping}
use Rattle.script_bench.specs.Script.{IsPlaced}
pub use Rattle.script_bench.specs.Script.{is_start}
use Rattle.script_world.specs.declared.play.World.{World}
use Rattle.script_world.specs.declared.play.World.TheVariants.{SettingUp, Running}

-- what runs, in its states
pub record Playing (P : Type 0) : Type 1 where
  -- the command that reads its scripts
  pub dialect : Dialect
  -- of what was set up it starts, with these events
  pub starts : SetUp → List Event → P → Type 0
  -- in a state a line has these events and leads to a state
  pub step : P → Line → List Event → P → Type 0
  -- how many arrivals equalled no unit afloat, where something was injected
  pub strays : P → Option ℕ

-- what carries a run from line to line
pub record Going (P : Type 0) : Type 1 where
  -- a state has the line
  pub runs : P → Line → Type 0
  -- what names and state have in common after so many lines
  pub fits : Declared → P → ℕ → Type 0

-- the lines of a set-up
abbrev pub IsOfSetUp : Line → Type 0
IsOfSetUp lines.Nothing = Unit {0}
IsOfSetUp (lines.Version version) = Unit {0}
IsOfSetUp (lines.Set key value) = Unit {0}
IsOfSetUp (lines.Lan name bound room) = Unit {0}
IsOfSetUp (lines.Es name title) = Unit {0}
IsOfSetUp (lines.Is name title) = Unit {0}
IsOfSetUp (lines.Port system lan snpa) = Unit {0}
IsOfSetUp (lines.Route system prefix next lan) = Unit {0}
IsOfSetUp (lines.Path name kind systems) = Unit {0}
IsOfSetUp (lines.Tsap system selector) = Unit {0}
IsOfSetUp (lines.Relay system selector to called) = Unit {0}
IsOfSetUp lines.Start = Unit {0}
IsOfSetUp line = ⊥

-- nothing was said yet
abbrev pub first_world : {P : Type 0} → World P
first_world = SettingUp nothing_said

module _ {P : Type 0} (play : Playing P) where
  -- what was set up starts
  abbrev pub StartsUp : SetUp → List Event → World P → Type 0
  StartsUp setup made new = (first : P) × play.starts setup made first × (new ≡ Running first)

  -- `start` ends the set-up, and another line adds to it
  abbrev pub SetsUp : Bool → SetUp → Line → List Event → World P → Type 0
  SetsUp true setup line made new = StartsUp setup made new
  SetsUp false setup line made new = (made ≡ []) × (new ≡ SettingUp (set_up setup line))

  -- what a line does: the state before it, the events, the state after it
  abbrev pub WorldStep : World P → Line → List Event → World P → Type 0
  WorldStep (SettingUp setup) line made new = IsOfSetUp line × SetsUp (is_start line) setup line made new
  WorldStep (Running old) line made new = (next : P) × play.step old line made next × (new ≡ Running next)

  abbrev pub strays_of : World P → Option ℕ
  strays_of (SettingUp setup) = None
  strays_of (Running old) = play.strays old

  -- as a stage of a script
  abbrev pub world_acts : Acts (World P)
  world_acts = record { dialect = play.dialect; first = first_world; step = WorldStep; strays = strays_of }

  -- it starts of what was set up
  pub record HasStart (setup : SetUp) : Type 0 where
    pub made : List Event
    pub first : P
    pub starts : play.starts setup made first

  -- a line has a step
  pub record HasLine (old : P) (line : Line) : Type 0 where
    pub made : List Event
    pub new : P
    pub steps : play.step old line made new

module _ {P : Type 0} (going : Going P) where
  -- which lines there are: those that fit what was set up, and then those that what runs has
  abbrev pub CanRun : World P → Line → Type 0
  CanRun (SettingUp setup) line = Fits setup line
  CanRun (Running old) line = going.runs old line

module _ {P : Type 0} (dialect : Dialect) (going : Going P) where
  -- the names are those of the command; until the start the names and the set-up are one, and the set-up is well and in octets; and then what runs fits the names
  abbrev pub Agrees : Declared → World P → ℕ → Type 0
  Agrees names (SettingUp setup) count = (names.started ≡ false) × AreOne names setup × IsWell setup × IsInOctets setup × (names.dialect ≡ dialect)
  Agrees names (Running old) count = (names.started ≡ true) × going.fits names old count

  abbrev pub world_keeping : Keeping (World P)
  world_keeping = record { runs = CanRun going; agrees = Agrees }

-- a set-up has one start, and a line one step; a line that is no event line tells nothing; where a set-up is well it starts, and what starts of it
-- fits the names; and what fits them has each line that is read, with a step, after which it fits
pub record PlayLaws {P : Type 0} (play : Playing P) (going : Going P) : Type 0 where
  pub one_start : (setup : SetUp) (made other : List Event) (new last : P) → play.starts setup made new → play.starts setup other last → (made ≡ other) × (new ≡ last)
  pub one_step : (line : Line) (old : P) (made other : List Event) (new last : P) → play.step old line made new → play.step old line other last → (made ≡ other) × (new ≡ last)
  pub idle : (line : Line) (old : P) (made : List Event) (new : P) → IsPlaced false line → play.step old line made new → made ≡ []
  pub some_start : (setup : SetUp) → IsWell setup → IsInOctets setup → HasStart play setup
  pub start_fits : (names : Declared) (setup : SetUp) (count : ℕ) (made : List Event) (new : P) → names.dialect ≡ play.dialect → AreOne names setup → IsWell setup → IsInOctets setup → Fits setup lines.Start
      → play.starts setup made new → going.fits names new count
  pub read_runs : (names declared : Declared) (old : P) (count : ℕ) (octets : List ℕ) (line : Line) → names.started ≡ true → going.fits names old count → count < most_lines
      → line_read names octets ≡ Ok (record { line = line; names = declared }) → going.runs old line
  pub read_fits : (names declared : Declared) (old : P) (count : ℕ) (octets : List ℕ) (line : Line) (made : List Event) (new : P) → names.started ≡ true → going.fits names old count → count < most_lines
      → line_read names octets ≡ Ok (record { line = line; names = declared }) → play.step old line made new → going.fits declared new (count + 1)
  pub some_step : (names declared : Declared) (old : P) (count : ℕ) (octets : List ℕ) (line : Line) → names.started ≡ true → going.fits names old count → count < most_lines
      → line_read names octets ≡ Ok (record { line = line; names = declared }) → HasLine play old line
