-- A calm script is set up, starts, and runs: what its set-up makes is a calm network, and of the lines after the start no raw unit asks for a path.
use Rattle.std.proofs.Common.{◌≡◌, ◌⊎◌, ℕ, ◌≤◌, Bool, true, false, List, [], ◌∷◌, ◌++◌, length, inl, inr, refl, sym, ◌∙◌, ap, subst, arith}
use Rattle.std.specs.List.{AllByRecursion}
use Rattle.lan_step.specs.declared.row.Lan.{Lan}
use Rattle.script_journal.specs.declared.event.Event.{Event}
use Rattle.script_lines.specs.declared.line.Line.{Line}
use Rattle.script_lines.specs.declared.line.Line.TheVariants as lines
use Rattle.script_lines.specs.Grammar.{Reading}
use Rattle.script_lines.specs.Known.{Declared, nothing_declared}
use Rattle.script_lines.specs.Names.{NamesDeclared}
use Rattle.script_lines.specs.Script.{Says}
use Rattle.script_lines.proofs.LineNames.{line_named}
use Rattle.law_tp4_pair.specs.CalmScript.{IsCalmScript, IsSettledScript, intermediate_systems}
use Rattle.law_calm_run.specs.Run.{IsUnrouted}
use Rattle.script_setup.specs.Fitting.{IsWell}
use Rattle.script_setup.specs.SetUp.{SetUp, nothing_said, set_up}
use Rattle.script_setup.proofs.Wellness.{nothing_well, well_after}
use Rattle.script_lines.specs.declared.words.Dialect.TheVariants as dialects
use Rattle.law_run.specs.World.{SetsUp, Started, WorldRun, WorldRuns, is_start, World}
use Rattle.law_run.proofs.WorldLaws.{started}
use Rattle.script_world.specs.declared.play.World.TheVariants.{SettingUp}
use Rattle.law_setup.specs.Agreeing.{AreOne}
use Rattle.script_bench.specs.steps.Came.{came}
use Rattle.script_bench.specs.Script.{started_after}
use Rattle.script_bench.specs.steps.Moves.{line_moves, start_only, starts_not}
use Rattle.law_run.proofs.CalmDrawn.{SetBy}
use Rattle.law_run.proofs.CalmNames.{HasEndsAlone, came_ends}
use Rattle.law_run.proofs.CalmNet.{MakesCalm, makes_calm}
use Rattle.law_setup.specs.Lines.{Kept}
use Rattle.law_setup.proofs.Kept.{line_kept}
use Rattle.law_setup.proofs.Started.{still_started as begun}

-- ---- the lines after the start

unrouted : (names : Declared) (line : Line) → HasEndsAlone names → NamesDeclared names line → IsUnrouted line
unrouted names lines.Nothing h known = tt
unrouted names (lines.Version version) h known = tt
unrouted names (lines.Set key value) h known = tt
unrouted names (lines.Lan name bound room) h known = tt
unrouted names (lines.Es name title) h known = tt
unrouted names (lines.Is name title) h known = tt
unrouted names (lines.Port system lan snpa) h known = tt
unrouted names (lines.Route system prefix next lan) h known = tt
unrouted names (lines.Path name kind systems) h known = tt
unrouted names (lines.Tsap system selector) h known = tt
unrouted names (lines.Relay system selector to called) h known = tt
unrouted names lines.Start h known = tt
unrouted names (lines.Connect system selector to called options octets) h known = tt
unrouted names (lines.Accept end options octets) h known = tt
unrouted names (lines.Refuse end octets) h known = tt
unrouted names (lines.Disconnect end octets) h known = tt
unrouted names (lines.Data end octets) h known = tt
unrouted names (lines.Expedite end octets) h known = tt
unrouted names (lines.Window end credit) h known = tt
unrouted names (lines.Unit system to wish octets) h known = let none = ap length h.paths in let few = known.2 in omega arith
unrouted names lines.Tick h known = tt
unrouted names lines.Settle h known = tt
unrouted names (lines.Deliver frame system) h known = tt
unrouted names (lines.Inject lan system octets) h known = tt
unrouted names (lines.Restart system) h known = tt
unrouted names (lines.Send system selector to called octets) h known = tt

same_names : (names new : Declared) → (names.started ≡ false) ⊎ (new ≡ names) → names.started ≡ true → new ≡ names
same_names names new (inl not) is = let clash : false ≡ true = sym not ∙ is in absurd (cc)
same_names names new (inr same) is = same

pub all_unrouted : (names last : Declared) (texts : List (List ℕ)) (script : List Line) → names.started ≡ true → HasEndsAlone names → Says names texts script last → AllByRecursion IsUnrouted script
all_unrouted names last [] [] is h says = tt
all_unrouted names last [] (line ∷ script) is h says = absurd says
all_unrouted names last (text ∷ texts) [] is h says = absurd says
all_unrouted names last (text ∷ texts) (line ∷ script) is h says =
    let moves = line_moves names text line says.0 says.1 in
    let same = same_names names says.0 moves.kept is in (
      unrouted names line h (line_named names text (record { line = line; names = says.0 }) says.1),
      all_unrouted says.0 last texts script (ap (λ (n : Declared). n.started) same ∙ is) (subst HasEndsAlone (sym same) h) says.2,
    )

-- a script starts once
starts_once : (names last : Declared) (texts : List (List ℕ)) (script after : List Line) → names.started ≡ true → Says names texts (script ++ lines.Start ∷ after) last → ⊥
starts_once names last [] [] after is says = says
starts_once names last [] (line ∷ script) after is says = says
starts_once names last (text ∷ texts) [] after is says =
    let clash : false ≡ true = sym (line_moves names text lines.Start says.0 says.1).placed ∙ is in cc
starts_once names last (text ∷ texts) (line ∷ script) after is says =
    starts_once says.0 last texts script after ((line_moves names text line says.0 says.1).started ∙ begun names.started line is) says.2

-- ---- the set-up

-- what is set up by the lines before the start, and what runs after it
pub record StartsFrom (old : SetUp) (before after : List Line) (journal : List Event) (last : World) (last_names : Declared) : Type 0 where
  pub setup : SetUp
  pub sets : SetBy old before setup
  pub well : IsWell setup
  pub lives : AllByRecursion (λ (l : Lan). l.bound ≤ setup.life) setup.lans
  pub made : List Event
  pub rest : List Event
  pub mid : World
  pub starts : Started setup made mid
  pub runs : WorldRuns mid after rest last
  pub journal_is : journal ≡ made ++ rest
  pub names : Declared
  pub texts : List (List ℕ)
  pub begins : names.started ≡ true
  pub ends : HasEndsAlone names
  pub says : Says names texts after last_names

abbrev FromHere : List Line → List Line → Declared → Type 0
FromHere before after last_names = (names : Declared) (texts : List (List ℕ)) (setup : SetUp) (journal : List Event) (last : World) → AreOne names setup → HasEndsAlone names → IsWell setup
    → names.started ≡ false → intermediate_systems before ≡ [] → Says names texts (before ++ lines.Start ∷ after) last_names → WorldRuns (SettingUp setup) (before ++ lines.Start ∷ after) journal last
    → StartsFrom setup before after journal last last_names

module _ (after : List Line) (last_names : Declared) where
  by_line : (start : Bool) (line : Line) (before : List Line) (names new : Declared) (texts : List (List ℕ)) (setup : SetUp) (made rest journal : List Event) (mid last : World) → is_start line ≡ start
      → new.started ≡ started_after names.started line → names.started ≡ false → IsWell setup → Kept setup line new → HasEndsAlone new → intermediate_systems before ≡ []
      → Says new texts (before ++ lines.Start ∷ after) last_names → SetsUp start setup line made mid → WorldRuns mid (before ++ lines.Start ∷ after) rest last → journal ≡ made ++ rest → FromHere before after last_names
      → StartsFrom setup (line ∷ before) after journal last last_names
  by_line true line before names new texts setup made rest journal mid last start moves not w kept ends none says h runs is others =
      absurd (starts_once new last_names texts before after (moves ∙ ap (λ (l : Line). started_after names.started l) (start_only line start)) says)
  by_line false line before names new texts setup made rest journal mid last start moves not w kept ends none says h runs is others =
      let found = others new texts (set_up setup line) rest last kept.one ends (well_after setup line w kept.fits) (moves ∙ starts_not names.started line start ∙ not) none says
      (subst (λ (world : World). WorldRuns world (before ++ lines.Start ∷ after) rest last) h.1 runs) in
      record {
        setup = found.setup;
        sets = (kept.fits, found.sets);
        well = found.well;
        lives = found.lives;
        made = found.made;
        rest = found.rest;
        mid = found.mid;
        starts = found.starts;
        runs = found.runs;
        journal_is = is ∙ ap (λ (m : List Event). m ++ rest) h.0 ∙ found.journal_is;
        names = found.names;
        texts = found.texts;
        begins = found.begins;
        ends = found.ends;
        says = found.says;
      }

  starts_from : (before : List Line) → FromHere before after last_names
  starts_from [] names [] setup journal last one ends w not none says h = absurd says
  starts_from [] names (text ∷ texts) setup journal last one ends w not none says h =
      let reading : Reading = record { line = lines.Start; names = says.0 } in
      let read = came names text reading says.1 in
      let moves = line_moves names text lines.Start says.0 says.1 in
      let kept = line_kept names setup text lines.Start says.0 one w not says.1 in
      record {
        setup = setup;
        sets = refl;
        well = w;
        lives = kept.fits;
        made = h.1;
        rest = h.2;
        mid = h.0;
        starts = started setup h.1 h.0 h.3.1;
        runs = h.5;
        journal_is = h.4;
        names = says.0;
        texts = texts;
        begins = moves.started;
        ends = (came_ends names setup [] reading read ends kept.fits (line_named names text reading says.1) refl).0;
        says = says.2;
      }
  starts_from (line ∷ before) names [] setup journal last one ends w not none says h = absurd says
  starts_from (line ∷ before) names (text ∷ texts) setup journal last one ends w not none says h =
      let reading : Reading = record { line = line; names = says.0 } in
      let read = came names text reading says.1 in
      let kept = line_kept names setup text line says.0 one w not says.1 in
      let alone = came_ends names setup before reading read ends kept.fits (line_named names text reading says.1) none in
      by_line (is_start line) line before names says.0 texts setup h.1 h.2 journal h.0 last refl (line_moves names text line says.0 says.1).started not w kept
      alone.0 alone.1 says.2 h.3.1 h.5 h.4 (starts_from before)

-- from nothing said
pub starts_from_nothing : (texts : List (List ℕ)) (before after : List Line) (names : Declared) (journal : List Event) (last : World) → Says (nothing_declared dialects.Run) texts (before ++ lines.Start ∷ after) names
    → WorldRun (before ++ lines.Start ∷ after) journal last → intermediate_systems before ≡ [] → StartsFrom nothing_said before after journal last names
starts_from_nothing texts before after names journal last says run none =
    starts_from after names before (nothing_declared dialects.Run) texts nothing_said journal last
    (record { lans = refl; bounds = refl; life = refl; systems = refl; ports = λ n. refl; selectors = λ n s. refl }) (record { ends = tt; paths = refl }) nothing_well refl none says run

-- ---- a calm script

pub record RunsCalm (script : List Line) (journal : List Event) (last : World) (last_names : Declared) : Type 0 where
  pub setup : SetUp
  pub well : IsWell setup
  pub calm : MakesCalm setup
  pub made : List Event
  pub rest : List Event
  pub mid : World
  pub after : List Line
  pub starts : Started setup made mid
  pub runs : WorldRuns mid after rest last
  pub journal_is : journal ≡ made ++ rest
  pub settled : IsSettledScript after
  pub unrouted : AllByRecursion IsUnrouted after
  pub names : Declared
  pub texts : List (List ℕ)
  pub begins : names.started ≡ true
  pub says : Says names texts after last_names

pub runs_calm : (texts : List (List ℕ)) (script : List Line) (names : Declared) (journal : List Event) (last : World) → Says (nothing_declared dialects.Run) texts script names → WorldRun script journal last
    → IsCalmScript script → RunsCalm script journal last names
runs_calm texts script names journal last says run calm =
    let found = starts_from_nothing texts calm.before calm.after names journal last (subst (λ (s : List Line). Says (nothing_declared dialects.Run) texts s names) calm.script_is says)
    (subst (λ (s : List Line). WorldRun s journal last) calm.script_is run) calm.one_lan.none in
    record {
      setup = found.setup;
      well = found.well;
      calm = makes_calm calm.before found.setup found.sets found.well calm.one_lan found.lives;
      made = found.made;
      rest = found.rest;
      mid = found.mid;
      after = calm.after;
      starts = found.starts;
      runs = found.runs;
      journal_is = found.journal_is;
      settled = calm.settled;
      unrouted = all_unrouted found.names names found.texts calm.after found.begins found.ends found.says;
      names = found.names;
      texts = found.texts;
      begins = found.begins;
      says = found.says;
    }
