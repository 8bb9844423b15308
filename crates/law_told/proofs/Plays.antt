-- What is set up tells nothing; what starts of a set-up is told, and then each line that is read. So each part of a script that was run is told, whatever
-- it sets up and runs.
use Rattle.std.proofs.Common.{◌≡◌, ◌<◌, ◌∙◌, ℕ, ◌+◌, Bool, true, false, List, [], length, Ok, refl, sym, ap, subst, arith}
use Rattle.std.proofs.lemmas.Bool.{false≢true}
use Rattle.std.proofs.lemmas.List.{length-map}
use Rattle.line_loop.specs.Lines.{most_lines}
use Rattle.script_journal.specs.declared.event.Event.{Event}
use Rattle.script_lines.specs.declared.line.Line.{Line}
use Rattle.script_lines.specs.declared.line.Line.TheVariants as lines
use Rattle.script_lines.specs.Grammar.{line_read}
use Rattle.script_lines.specs.Known.{Declared}
use Rattle.script_lines.specs.Tags.{Tags, tags_of}
use Rattle.script_setup.specs.Fitting.{IsWell}
use Rattle.script_setup.specs.SetUp.{SetUp, set_up}
use Rattle.law_setup.specs.Agreeing.{AreOne}
use Rattle.law_setup.specs.Lines.{IsInOctets}
use Rattle.law_setup.proofs.Fitted.{as_many}
use Rattle.law_setup.proofs.Kept.{line_kept}
use Rattle.law_setup.proofs.Started.{names_kept}
use Rattle.script_bench.specs.Acts.{StageLaws}
use Rattle.script_bench.specs.steps.Moves.{line_moves, start_only}
use Rattle.script_world.specs.Plays.{Agrees, Going, PlayLaws, Playing, SetsUp, StartsUp, WorldStep, is_start, world_acts, world_keeping}
use Rattle.script_world.specs.declared.play.World.{World}
use Rattle.script_world.specs.declared.play.World.TheVariants.{Running, SettingUp}
use Rattle.script_world.specs.steps.Staged.{world_laws}
use Rattle.law_told.specs.Reading.{IsLegible}
use Rattle.law_told.proofs.Benches.{StageTells, StepTold, legible}
use Rattle.law_told.proofs.Events.{EachFrom}

pub as_many_systems : (names : Declared) → length (tags_of names).systems ≡ length names.systems
as_many_systems names = length-map names.systems (λ system. system.name)

pub as_many_lans : (names : Declared) → length (tags_of names).lans ≡ length names.lans
as_many_lans names = length-map names.lans (λ lan. lan.name)

-- what is so of what runs, by the names, after so many events
module _ {P : Type 0} (play : Playing P) (going : Going P) (RunTold : Tags → ℕ → P → Type 0) where
  -- the events of a step are told
  pub record PartTold (tags : Tags) (n : ℕ) (made : List Event) (new : P) : Type 0 where
    pub events : EachFrom tags n made
    pub run : RunTold tags (n + length made) new

  pub record PlayTells : Type 0 where
    pub starts : (tags : Tags) (setup : SetUp) (made : List Event) (first : P) → length tags.systems ≡ length setup.systems → length tags.lans ≡ length setup.lans → IsWell setup → IsInOctets setup
        → play.starts setup made first → PartTold tags 0 made first
    pub steps : (names declared : Declared) (old : P) (count n : ℕ) (octets : List ℕ) (line : Line) (made : List Event) (new : P) → names.started ≡ true → going.fits names old count → RunTold (tags_of names) n old
        → count < most_lines → line_read names octets ≡ Ok (record { line = line; names = declared }) → play.step old line made new → PartTold (tags_of names) n made new

  -- what was set up told nothing, and what runs is so
  abbrev pub WorldTold : Declared → World P → ℕ → Type 0
  WorldTold names (SettingUp setup) n = n ≡ 0
  WorldTold names (Running run) n = RunTold (tags_of names) n run

module _ {P : Type 0} (play : Playing P) (going : Going P) (laws : PlayLaws play going) (RunTold : Tags → ℕ → P → Type 0) (tells : PlayTells play going RunTold) where
  stage : StageLaws (world_acts play) (world_keeping play.dialect going)
  stage = world_laws play going laws

  abbrev Told : Declared → World P → ℕ → Type 0
  Told = WorldTold play going RunTold

  abbrev Step : (declared : Declared) (n : ℕ) (made : List Event) (new : World P) → Type 0
  Step = StepTold (world_acts play) (world_keeping play.dialect going) stage Told

  begun : (b : Bool) → b ≡ true → b ≡ false → ⊥
  begun b is idle = false≢true (sym idle ∙ is)

  sets_told : (names declared : Declared) (setup : SetUp) (n : ℕ) (octets : List ℕ) (line : Line) (made : List Event) (new : World P) → AreOne names setup → IsWell setup → IsInOctets setup → names.started ≡ false → n ≡ 0
      → line_read names octets ≡ Ok (record { line = line; names = declared }) → declared.started ≡ true → StartsUp play setup made new → is_start line ≡ true → Step declared n made new
  sets_told names declared setup n octets line made new one w o idle none is started h start =
      let same : line ≡ lines.Start = start_only line start in
      let kept = line_kept names setup octets line declared one w idle is in
      let agreed : AreOne declared setup = subst (λ (l : Line). AreOne declared (set_up setup l)) same kept.one in
      let count = as_many declared setup agreed in
      let systems = as_many_systems declared in
      let lans = as_many_lans declared in
      let both = agreed.lans in
      let t = tells.starts (tags_of declared) setup made h.0 (omega (arith, count, systems)) (omega (arith, both, lans)) w o h.1 in
      let run : Told declared (Running h.0) (n + length made) = subst (λ (m : ℕ). RunTold (tags_of declared) (m + length made) h.0) (sym none) t.run in
      record {
        events = subst (λ (m : ℕ). EachFrom (tags_of declared) m made) (sym none) t.events;
        world = subst (λ (w : World P). Told declared w (n + length made)) (sym h.2) run;
        quiet = λ idle. absurd (begun declared.started started idle);
      }

  runs_told : (names declared : Declared) (old : P) (count n : ℕ) (octets : List ℕ) (line : Line) (made : List Event) (new : World P) → Agrees play.dialect going names (Running old) count → RunTold (tags_of names) n old
      → count < most_lines → line_read names octets ≡ Ok (record { line = line; names = declared }) → WorldStep play (Running old) line made new → Step declared n made new
  runs_told names declared old count n octets line made new a told few is h =
      let kept : declared ≡ names = names_kept names declared a.0 (line_moves names octets line declared is).kept in
      let s = tells.steps names declared old count n octets line made h.0 a.0 a.1 told few is h.1 in
      let here : Told names (Running h.0) (n + length made) = s.run in
      let there : Told names new (n + length made) = subst (λ (w : World P). Told names w (n + length made)) (sym h.2) here in
      record {
        events = subst (λ (d : Declared). EachFrom (tags_of d) n made) (sym kept) s.events;
        world = subst (λ (d : Declared). Told d new (n + length made)) (sym kept) there;
        quiet = λ idle. absurd (begun declared.started (ap (λ (d : Declared). d.started) kept ∙ a.0) idle);
      }

  step_told : (names declared : Declared) (old : World P) (count n : ℕ) (octets : List ℕ) (line : Line) (made : List Event) (new : World P) → Agrees play.dialect going names old count → Told names old n
      → count < most_lines → line_read names octets ≡ Ok (record { line = line; names = declared }) → WorldStep play old line made new → Step declared n made new
  step_told names declared (SettingUp setup) count n octets line made new a told few is h = by (is_start line) refl h.1
    where
      by : (b : Bool) → is_start line ≡ b → SetsUp play b setup line made new → Step declared n made new
      by true start up =
          let after = subst (λ (w : World P). Agrees play.dialect going declared w (count + 1)) up.2 (stage.read_agrees names declared (SettingUp setup) count octets line made new a few is h) in
          sets_told names declared setup n octets line made new a.1 a.2 a.3 a.0 told is after.0 up start
      by false start up = record {
        events = subst (EachFrom (tags_of declared) n) (sym up.0) tt;
        world = subst (λ (w : World P). Told declared w (n + length made)) (sym up.1) (let none = ap (λ (m : List Event). length m) up.0 in omega (arith, none, told));
        quiet = λ idle. up.0;
      }
  step_told names declared (Running old) count n octets line made new a told few is h = runs_told names declared old count n octets line made new a told few is h

  stage_tells : StageTells (world_acts play) (world_keeping play.dialect going) stage Told
  stage_tells = record { begins = refl; steps = step_told }

  pub play_legible : (Claim : List Line → List Event → World P → Type 0) → IsLegible (world_acts play) Claim
  play_legible Claim = legible (world_acts play) (world_keeping play.dialect going) stage Told stage_tells Claim
