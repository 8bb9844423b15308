-- What is set up and then runs is a stage: a line has one step; names and state go on agreeing, since names and set-up are one until the start and
-- what starts of a set-up fits the names; and each line that is read has a step.
use Rattle.std.proofs.Common.{◌≡◌, ℕ, ◌+◌, ◌<◌, Bool, true, false, List, [], Ok, refl, sym, ◌∙◌, ap, subst}
use Rattle.std.proofs.lemmas.Bool.{false≢true}
use Rattle.line_loop.specs.Lines.{most_lines}
use Rattle.script_journal.specs.declared.event.Event.{Event}
use Rattle.script_lines.specs.declared.line.Line.{Line}
use Rattle.script_lines.specs.declared.line.Line.TheVariants as lines
use Rattle.script_lines.specs.Grammar.{line_read}
use Rattle.script_lines.specs.Known.{Declared, nothing_declared}
use Rattle.script_lines.proofs.CommandLines.{line_stays}
use Rattle.script_setup.specs.Fitting.{Fits, IsWell}
use Rattle.script_setup.specs.SetUp.{SetUp, set_up}
use Rattle.script_setup.proofs.Wellness.{nothing_well, well_after}
use Rattle.law_setup.specs.Agreeing.{AreOne}
use Rattle.law_setup.specs.Lines.{IsInOctets, Kept, LineInOctets}
use Rattle.law_setup.proofs.Kept.{line_kept}
use Rattle.law_setup.proofs.Octets.{line_octets, octets_after}
use Rattle.law_setup.proofs.Started.{still_started}
use Rattle.script_bench.specs.Acts.{HasStep, StageLaws}
use Rattle.script_bench.specs.Script.{IsPlaced, started_after}
use Rattle.script_bench.specs.steps.Moves.{Moves, line_moves, start_only, starts_not}
use Rattle.script_world.specs.Plays.{Agrees, CanRun, Going, IsOfSetUp, PlayLaws, Playing, SetsUp, StartsUp, WorldStep, first_world, is_start, world_acts, world_keeping}
use Rattle.script_world.specs.declared.play.World.{World}
use Rattle.script_world.specs.declared.play.World.TheVariants.{SettingUp, Running}

-- ---- a line of the set-up

of_set_up : (setup : SetUp) (line : Line) → Fits setup line → IsOfSetUp line
of_set_up setup lines.Nothing f = tt
of_set_up setup lines.Start f = tt
of_set_up setup (lines.Version version) f = tt
of_set_up setup (lines.Set key value) f = tt
of_set_up setup (lines.Lan name bound room) f = tt
of_set_up setup (lines.Es name title) f = tt
of_set_up setup (lines.Is name title) f = tt
of_set_up setup (lines.Port system lan snpa) f = tt
of_set_up setup (lines.Route system prefix next lan) f = tt
of_set_up setup (lines.Path name kind systems) f = tt
of_set_up setup (lines.Tsap system selector) f = tt
of_set_up setup (lines.Relay system selector to called) f = tt
of_set_up setup (lines.Connect system selector to called options octets) f = absurd f
of_set_up setup (lines.Accept end options octets) f = absurd f
of_set_up setup (lines.Refuse end octets) f = absurd f
of_set_up setup (lines.Disconnect end octets) f = absurd f
of_set_up setup (lines.Data end octets) f = absurd f
of_set_up setup (lines.Expedite end octets) f = absurd f
of_set_up setup (lines.Window end credit) f = absurd f
of_set_up setup (lines.Unit system to wish octets) f = absurd f
of_set_up setup lines.Tick f = absurd f
of_set_up setup lines.Settle f = absurd f
of_set_up setup (lines.Deliver number system) f = absurd f
of_set_up setup (lines.Inject lan system octets) f = absurd f
of_set_up setup (lines.Restart system) f = absurd f
of_set_up setup (lines.Send system selector to called octets) f = absurd f

-- the line that ends the set-up
pub start_step : {P : Type 0} (play : Playing P) (world : World P) (setup taken : SetUp) (line : Line) (made : List Event) (new : World P) → world ≡ SettingUp setup → taken ≡ setup → is_start line ≡ true
    → StartsUp play taken made new → WorldStep play world line made new
start_step {P} play world setup taken line made new is same start h =
    let here : line ≡ lines.Start = start_only line start in
    subst (λ (w : World P). WorldStep play w line made new) (sym is)
    (subst (λ (l : Line). WorldStep play (SettingUp setup) l made new) (sym here) (tt, subst (λ (s : SetUp). StartsUp play s made new) same h))

module _ {P : Type 0} (play : Playing P) (going : Going P) (laws : PlayLaws play going) where
  -- ---- one step

  sets_once : (start : Bool) (setup : SetUp) (line : Line) (made other : List Event) (new last : World P) → SetsUp play start setup line made new → SetsUp play start setup line other last
      → (made ≡ other) × (new ≡ last)
  sets_once true setup line made other new last a b =
      let same = laws.one_start setup made other a.0 b.0 a.1 b.1 in
      (same.0, a.2 ∙ ap (λ (p : P). Running p) same.1 ∙ sym b.2)
  sets_once false setup line made other new last a b = (a.0 ∙ sym b.0, a.1 ∙ sym b.1)

  one_step : (line : Line) (old : World P) (made other : List Event) (new last : World P) → WorldStep play old line made new → WorldStep play old line other last → (made ≡ other) × (new ≡ last)
  one_step line (SettingUp setup) made other new last a b = sets_once (is_start line) setup line made other new last a.1 b.1
  one_step line (Running old) made other new last a b =
      let same = laws.one_step line old made other a.0 b.0 a.1 b.1 in
      (same.0, a.2 ∙ ap (λ (p : P). Running p) same.1 ∙ sym b.2)

  -- ---- until the start nothing happens

  still : (start : Bool) (setup : SetUp) (line : Line) (made : List Event) (new : World P) → is_start line ≡ start → is_start line ≡ false → SetsUp play start setup line made new → made ≡ []
  still true setup line made new is other step = absurd (false≢true (sym other ∙ is))
  still false setup line made new is other step = step.0

  quiet : (line : Line) (old : World P) (made : List Event) (new : World P) → IsPlaced false line → is_start line ≡ false → WorldStep play old line made new → made ≡ []
  quiet line (SettingUp setup) made new placed other step = still (is_start line) setup line made new refl other step.1
  quiet line (Running old) made new placed other step = laws.idle line old made step.0 placed step.1

  -- ---- a line that was read

  read_runs : (names declared : Declared) (old : World P) (count : ℕ) (octets : List ℕ) (line : Line) → Agrees play.dialect going names old count → count < most_lines
      → line_read names octets ≡ Ok (record { line = line; names = declared }) → CanRun going old line
  read_runs names declared (SettingUp setup) count octets line a few is = (line_kept names setup octets line declared a.1 a.2 a.0 is).fits
  read_runs names declared (Running old) count octets line a few is = laws.read_runs names declared old count octets line a.0 a.1 few is

  module _ (names declared : Declared) (setup : SetUp) (count : ℕ) (line : Line) (made : List Event) (new : World P)
      (a : Agrees play.dialect going names (SettingUp setup) count) (moves : Moves names line declared) (kept : Kept setup line declared) (octets : LineInOctets line) (stays : declared.dialect ≡ names.dialect) where
    sets_agree : (start : Bool) → is_start line ≡ start → SetsUp play start setup line made new → Agrees play.dialect going declared new (count + 1)
    sets_agree true is h =
        let same : line ≡ lines.Start = start_only line is in
        let begun : declared.started ≡ true = moves.started ∙ ap (λ (l : Line). started_after names.started l) same in
        let one : AreOne declared setup = subst (λ (l : Line). AreOne declared (set_up setup l)) same kept.one in
        let fits : Fits setup lines.Start = subst (λ (l : Line). Fits setup l) same kept.fits in
        subst (λ (w : World P). Agrees play.dialect going declared w (count + 1)) (sym h.2) (begun, laws.start_fits declared setup (count + 1) made h.0 (stays ∙ a.4) one a.2 a.3 fits h.1)
    sets_agree false is h =
        subst (λ (w : World P). Agrees play.dialect going declared w (count + 1)) (sym h.1)
        (moves.started ∙ starts_not names.started line is ∙ a.0, kept.one, well_after setup line a.2 kept.fits, octets_after setup line a.3 kept.fits octets, stays ∙ a.4)

  read_agrees : (names declared : Declared) (old : World P) (count : ℕ) (octets : List ℕ) (line : Line) (made : List Event) (new : World P) → Agrees play.dialect going names old count → count < most_lines
      → line_read names octets ≡ Ok (record { line = line; names = declared }) → WorldStep play old line made new → Agrees play.dialect going declared new (count + 1)
  read_agrees names declared (SettingUp setup) count octets line made new a few is h =
      sets_agree names declared setup count line made new a (line_moves names octets line declared is)
      (line_kept names setup octets line declared a.1 a.2 a.0 is) (line_octets names octets line declared is) (line_stays names octets (record { line = line; names = declared }) is) (is_start line) refl h.1
  read_agrees names declared (Running old) count octets line made new a few is h =
      subst (λ (w : World P). Agrees play.dialect going declared w (count + 1)) (sym h.2)
      ((line_moves names octets line declared is).started ∙ still_started names.started line a.0, laws.read_fits names declared old count octets line made h.0 a.0 a.1 few is h.1)

  -- ---- each has a step

  sets_some : (start : Bool) (setup : SetUp) (line : Line) → is_start line ≡ start → IsWell setup → IsInOctets setup → Fits setup line → HasStep (world_acts play) (SettingUp setup) line
  sets_some true setup line is well octets fits =
      let s = laws.some_start setup well octets in
      record {
        made = s.made;
        new = Running s.first;
        steps = (of_set_up setup line fits, subst (λ (b : Bool). SetsUp play b setup line s.made (Running s.first)) (sym is) (s.first, s.starts, refl));
      }
  sets_some false setup line is well octets fits = record {
    made = [];
    new = SettingUp (set_up setup line);
    steps = (of_set_up setup line fits, subst (λ (b : Bool). SetsUp play b setup line [] (SettingUp (set_up setup line))) (sym is) (refl, refl));
  }

  some_step : (names declared : Declared) (old : World P) (count : ℕ) (octets : List ℕ) (line : Line) → Agrees play.dialect going names old count → count < most_lines
      → line_read names octets ≡ Ok (record { line = line; names = declared }) → HasStep (world_acts play) old line
  some_step names declared (SettingUp setup) count octets line a few is =
      sets_some (is_start line) setup line refl a.2 a.3 (line_kept names setup octets line declared a.1 a.2 a.0 is).fits
  some_step names declared (Running old) count octets line a few is =
      let s = laws.some_step names declared old count octets line a.0 a.1 few is in
      record { made = s.made; new = Running s.new; steps = (s.new, s.steps, refl) }

  -- ---- the laws

  begins : Agrees play.dialect going (nothing_declared play.dialect) first_world 0
  begins = (
    refl,
    record { lans = refl; bounds = refl; life = refl; systems = refl; ports = λ n. refl; selectors = λ n selector. refl },
    nothing_well,
    record { titles = tt; ports = tt; rows = λ n. tt; paths = tt; relays = tt },
    refl,
  )

  pub world_laws : StageLaws (world_acts play) (world_keeping play.dialect going)
  world_laws = record {
    one_step = one_step;
    quiet = quiet;
    begins = begins;
    read_runs = read_runs;
    read_agrees = read_agrees;
    some_step = some_step;
  }
