-- A script that was run is still set up and told nothing; or it was set up, what was set up started, and its other lines ran.
use Rattle.std.proofs.Common.{◌≡◌, ◌⊎◌, ℕ, Bool, true, false, List, [], ◌∷◌, ◌++◌, inl, inr, refl, sym, ◌∙◌, ap, subst}
use Rattle.script_journal.specs.declared.event.Event.{Event}
use Rattle.script_lines.proofs.CommandLines.{line_stays}
use Rattle.script_lines.specs.declared.line.Line.{Line}
use Rattle.script_lines.specs.declared.line.Line.TheVariants as lines
use Rattle.script_lines.specs.Known.{Declared, nothing_declared}
use Rattle.script_lines.specs.Script.{Says}
use Rattle.script_setup.specs.Fitting.{Fits, IsWell}
use Rattle.script_setup.specs.SetUp.{SetUp, nothing_said, set_up}
use Rattle.script_setup.proofs.Wellness.{nothing_well, well_after}
use Rattle.law_setup.specs.Agreeing.{AreOne}
use Rattle.law_setup.specs.Lines.{IsInOctets, Kept}
use Rattle.law_setup.proofs.Kept.{line_kept}
use Rattle.law_setup.proofs.Octets.{line_octets, octets_after}
use Rattle.script_bench.specs.Acts.{RunsScript}
use Rattle.script_bench.specs.Script.{started_after}
use Rattle.script_bench.specs.steps.Moves.{line_moves, start_only, starts_not}
use Rattle.script_world.specs.Plays.{Playing, SetsUp, first_world, is_start, world_acts}
use Rattle.script_world.specs.declared.play.World.{World}
use Rattle.script_world.specs.declared.play.World.TheVariants.{SettingUp, Running}

module _ {P : Type 0} (play : Playing P) where
  -- the lines of what runs have these events, one after another
  abbrev pub PlayRuns : P → List Line → List Event → P → Type 0
  PlayRuns first [] journal last = (journal ≡ []) × (last ≡ first)
  PlayRuns first (line ∷ lines) journal last =
      (mid : P) × (made rest : List Event) × play.step first line made mid × (journal ≡ made ++ rest) × PlayRuns mid lines rest last

  -- what was set up started, and the lines behind the start ran
  pub record HasStarted (script : List Line) (names : Declared) (journal : List Event) (last : World P) : Type 0 where
    pub before : List Line
    pub after : List Line
    pub setup : SetUp
    pub declared : Declared
    pub texts : List (List ℕ)
    pub made : List Event
    pub rest : List Event
    pub first : P
    pub end : P
    pub script_is : script ≡ before ++ after
    pub well : IsWell setup
    pub octets : IsInOctets setup
    pub within : Fits setup lines.Start
    pub one : AreOne declared setup
    pub begun : declared.started ≡ true
    pub reads : declared.dialect ≡ play.dialect
    pub says : Says declared texts after names
    pub starts : play.starts setup made first
    pub runs : PlayRuns first after rest end
    pub journal_is : journal ≡ made ++ rest
    pub last_is : last ≡ Running end

  -- it is still set up
  pub record IsSettingUp (journal : List Event) (last : World P) : Type 0 where
    pub setup : SetUp
    pub journal_is : journal ≡ []
    pub last_is : last ≡ SettingUp setup

  abbrev pub Went : List Line → Declared → List Event → World P → Type 0
  Went script names journal last = IsSettingUp journal last ⊎ HasStarted script names journal last

  -- ---- the lines behind the start

  record Ran (first : P) (script : List Line) (journal : List Event) (last : World P) : Type 0 where
    end : P
    runs : PlayRuns first script journal end
    is : last ≡ Running end

  play_runs : (script : List Line) (first : P) (journal : List Event) (last : World P) → RunsScript (world_acts play) (Running first) script journal last → Ran first script journal last
  play_runs [] first journal last h = record { end = first; runs = (h.0, refl); is = h.1 }
  play_runs (line ∷ script) first journal last h =
      let rest = play_runs script h.3.0 h.2 last (subst (λ (w : World P). RunsScript (world_acts play) w script h.2 last) h.3.2 h.5) in
      record { end = rest.end; runs = (h.3.0, h.1, h.2, h.3.1, h.4, rest.runs); is = rest.is }

  -- ---- the set-up

  -- one line more before the start
  one_more : (line : Line) (script : List Line) (names : Declared) (rest journal : List Event) (last : World P) → rest ≡ journal → Went script names rest last → Went (line ∷ script) names journal last
  one_more line script names rest journal last same (inl s) = inl (record { setup = s.setup; journal_is = sym same ∙ s.journal_is; last_is = s.last_is })
  one_more line script names rest journal last same (inr s) = inr (record {
    before = line ∷ s.before;
    after = s.after;
    setup = s.setup;
    declared = s.declared;
    texts = s.texts;
    made = s.made;
    rest = s.rest;
    first = s.first;
    end = s.end;
    script_is = ap (λ (l : List Line). line ∷ l) s.script_is;
    well = s.well;
    octets = s.octets;
    within = s.within;
    one = s.one;
    begun = s.begun;
    reads = s.reads;
    says = s.says;
    starts = s.starts;
    runs = s.runs;
    journal_is = sym same ∙ s.journal_is;
    last_is = s.last_is;
  })

  abbrev FromHere : List (List ℕ) → List Line → Type 0
  FromHere texts script = (names last_names : Declared) (setup : SetUp) (journal : List Event) (last : World P) → AreOne names setup → IsWell setup → IsInOctets setup → names.started ≡ false
      → names.dialect ≡ play.dialect → Says names texts script last_names → RunsScript (world_acts play) (SettingUp setup) script journal last → Went script last_names journal last

  by_line : (start : Bool) (setup : SetUp) (line : Line) (names new last_names : Declared) (text : List ℕ) (texts : List (List ℕ)) (script : List Line) (made rest journal : List Event) (mid last : World P)
      → is_start line ≡ start → new.started ≡ started_after names.started line → names.started ≡ false → IsWell setup → IsInOctets setup → Kept setup line new → IsInOctets (set_up setup line)
      → new.dialect ≡ play.dialect → Says new texts script last_names → SetsUp play start setup line made mid → RunsScript (world_acts play) mid script rest last → journal ≡ made ++ rest → FromHere texts script
      → Went (line ∷ script) last_names journal last
  by_line true setup line names new last_names text texts script made rest journal mid last start moves begun w o kept next reads says h runs is others =
      let same : line ≡ lines.Start = start_only line start in
      let on = play_runs script h.0 rest last (subst (λ (w : World P). RunsScript (world_acts play) w script rest last) h.2 runs) in
      inr (record {
        before = line ∷ [];
        after = script;
        setup = setup;
        declared = new;
        texts = texts;
        made = made;
        rest = rest;
        first = h.0;
        end = on.end;
        script_is = refl;
        well = w;
        octets = o;
        within = subst (λ (l : Line). Fits setup l) same kept.fits;
        one = subst (λ (l : Line). AreOne new (set_up setup l)) same kept.one;
        begun = moves ∙ ap (λ (l : Line). started_after names.started l) same;
        reads = reads;
        says = says;
        starts = h.1;
        runs = on.runs;
        journal_is = is;
        last_is = on.is;
      })
  by_line false setup line names new last_names text texts script made rest journal mid last start moves begun w o kept next reads says h runs is others =
      let same : rest ≡ journal = sym (is ∙ ap (λ (m : List Event). m ++ rest) h.0) in
      one_more line script last_names rest journal last same
      (others new last_names (set_up setup line) rest last kept.one (well_after setup line w kept.fits) next (moves ∙ starts_not names.started line start ∙ begun) reads says
      (subst (λ (w : World P). RunsScript (world_acts play) w script rest last) h.1 runs))

  went_on : (texts : List (List ℕ)) (script : List Line) → FromHere texts script
  went_on [] [] names last_names setup journal last one w o begun reads says h = inl (record { setup = setup; journal_is = h.0; last_is = h.1 })
  went_on [] (line ∷ script) names last_names setup journal last one w o begun reads says h = absurd says
  went_on (text ∷ texts) [] names last_names setup journal last one w o begun reads says h = absurd says
  went_on (text ∷ texts) (line ∷ script) names last_names setup journal last one w o begun reads says h =
      let kept = line_kept names setup text line says.0 one w begun says.1 in
      by_line (is_start line) setup line names says.0 last_names text texts script h.1 h.2 journal h.0 last refl (line_moves names text line says.0 says.1).started begun w o kept
      (octets_after setup line o kept.fits (line_octets names text line says.0 says.1))
      (line_stays names text (record { line = line; names = says.0 }) says.1 ∙ reads) says.2 h.3.1 h.5 h.4 (went_on texts script)

  -- from nothing said
  pub went : (texts : List (List ℕ)) (script : List Line) (names : Declared) (journal : List Event) (last : World P) → Says (nothing_declared play.dialect) texts script names
      → RunsScript (world_acts play) first_world script journal last → Went script names journal last
  went texts script names journal last says run =
      went_on texts script (nothing_declared play.dialect) names nothing_said journal last
      (record { lans = refl; bounds = refl; life = refl; systems = refl; ports = λ n. refl; selectors = λ n s. refl }) nothing_well (record { titles = tt; ports = tt; rows = λ n. tt; paths = tt; relays = tt }) refl refl says run
