-- What ran on the bench is a script, line by line, and the run of the stage for its lines.
use Rattle.std.proofs.Common.{◌≡◌, ℕ, zero, suc, ◌+◌, ◌-◌, ◌<◌, ◌≤◌, List, [], ◌∷◌, ◌++◌, length, take, refl, sym, ◌∙◌, ap, subst, arith, append_assoc, length-append}
use Rattle.std.specs.Prelude.{Ok}
use Rattle.std.proofs.lemmas.List.{append-nil}
use Rattle.line_loop.specs.Course.{Runs}
use Rattle.script_journal.specs.declared.event.Event.{Event}
use Rattle.script_lines.specs.declared.line.Line.{Line}
use Rattle.script_lines.specs.Grammar.{line_read}
use Rattle.script_lines.specs.Known.{Declared, nothing_declared}
use Rattle.script_lines.specs.Script.{Says}
use Rattle.script_bench.specs.Acts.{Acts, RunsScript}
use Rattle.script_bench.specs.Bench.{Bench, FillsJournal, RunsText, bench_meaning, first_bench, most_events}
use Rattle.script_bench.specs.Claims.{lines_run}
use Rattle.script_bench.specs.Told.{IsFilledRun, IsScriptRun}

-- one line more
says_more : (old : Declared) (texts : List (List ℕ)) (script : List Line) (mid : Declared) (text : List ℕ) (line : Line) (new : Declared) → Says old texts script mid
    → line_read mid text ≡ Ok (record { line = line; names = new }) → Says old (texts ++ text ∷ []) (script ++ line ∷ []) new
says_more old [] [] mid text line new says read =
    (new, subst (λ (names : Declared). line_read names text ≡ Ok (record { line = line; names = new })) says read, refl)
says_more old [] (first ∷ script) mid text line new says read = absurd says
says_more old (first ∷ texts) [] mid text line new says read = absurd says
says_more old (first ∷ texts) (other ∷ script) mid text line new says read = (says.0, says.1, says_more says.0 texts script mid text line new says.2 read)

-- a front that goes past the first of two lists
take_past : (most : ℕ) (before made : List Event) → length before ≤ most → before ++ take (most - length before) made ≡ take most (before ++ made)
take_past most [] made room =
    let same : most - 0 ≡ most = omega arith in
    ap (λ (n : ℕ). take n made) same
take_past zero (event ∷ before) made room = absurd (omega arith)
take_past (suc most) (event ∷ before) made room =
    let same : suc most - length (event ∷ before) ≡ most - length before = omega arith in
    ap (λ (n : ℕ). event ∷ (before ++ take n made)) same ∙ ap (λ (j : List Event). event ∷ j) (take_past most before made (omega arith))

module _ {W : Type 0} (acts : Acts W) where
  -- the lines that ran are what the texts say, and the stage ran them
  pub record Ran (first : Bench W) (texts : List (List ℕ)) (script : List Line) (journal : List Event) (last : Bench W) : Type 0 where
    pub says : Says first.names texts script last.names
    pub runs : RunsScript acts first.world script journal last.world

  pub ran : (first : Bench W) (texts : List (List ℕ)) (journal : List Event) (last : Bench W) (runs : Runs (bench_meaning acts) first texts journal last)
      → Ran first texts (lines_run acts first texts journal last runs) journal last
  ran first [] journal last runs = record { says = ap (λ (b : Bench W). b.names) runs.1; runs = (runs.0, ap (λ (b : Bench W). b.world) runs.1) }
  ran first (text ∷ texts) journal last runs =
      let one : RunsText acts first text runs.0 runs.1 = runs.3 in
      let rest = ran runs.1 texts runs.2 last runs.5 in
      record { says = (runs.1.names, one.meaning, rest.says); runs = (runs.1.world, runs.0, runs.2, one.steps, runs.4, rest.runs) }

  runs_more : (first : W) (script : List Line) (journal : List Event) (mid : W) (line : Line) (made : List Event) (last : W) → RunsScript acts first script journal mid → acts.step mid line made last
      → RunsScript acts first (script ++ line ∷ []) (journal ++ made) last
  runs_more first [] journal mid line made last runs step =
      (last, made, [], subst (λ (w : W). acts.step w line made last) runs.1 step, ap (λ (j : List Event). j ++ made) runs.0 ∙ sym (append-nil made), (refl, refl))
  runs_more first (other ∷ script) journal mid line made last runs step =
      (runs.0, runs.1, runs.2 ++ made, runs.3, ap (λ (j : List Event). j ++ made) runs.4 ∙ append_assoc runs.1 runs.2 made, runs_more runs.0 script runs.2 mid line made last runs.5 step)

  -- and one line more, which ran or fills the journal
  pub ran_more : (texts : List (List ℕ)) (before : List Event) (state : Bench W) (runs : Runs (bench_meaning acts) (first_bench acts) texts before state) (text : List ℕ) (line : Line) (made : List Event) (last : Bench W)
      → line_read state.names text ≡ Ok (record { line = line; names = last.names }) → acts.step state.world line made last.world
      → Ran (first_bench acts) (texts ++ text ∷ []) (lines_run acts (first_bench acts) texts before state runs ++ line ∷ []) (before ++ made) last
  ran_more texts before state runs text line made last read step =
      let r = ran (first_bench acts) texts before state runs in
      let script : List Line = lines_run acts (first_bench acts) texts before state runs in
      record {
        says = says_more (nothing_declared acts.dialect) texts script state.names text line last.names r.says read;
        runs = runs_more acts.first script before state.world line made last.world r.runs step;
      }

  pub script_run : (texts : List (List ℕ)) (journal : List Event) (last : Bench W) → Runs (bench_meaning acts) (first_bench acts) texts journal last → IsScriptRun acts texts journal last
  script_run texts journal last runs =
      let r = ran (first_bench acts) texts journal last runs in
      record { script = lines_run acts (first_bench acts) texts journal last runs; lines = r.says; run = r.runs }

  -- the bench counts the events of a run, which the journal has room for
  record Counts (first : Bench W) (journal : List Event) (last : Bench W) : Type 0 where
    events : last.events ≡ first.events + length journal
    room : last.events ≤ most_events

  counts : (first : Bench W) (texts : List (List ℕ)) (journal : List Event) (last : Bench W) → first.events ≤ most_events → Runs (bench_meaning acts) first texts journal last → Counts first journal last
  counts first [] journal last room h =
      let same : last.events ≡ first.events = ap (λ (b : Bench W). b.events) h.1 in
      let none : length journal ≡ 0 = ap (λ (j : List Event). length j) h.0 in
      record { events = omega (arith, same, none); room = subst (λ (n : ℕ). n ≤ most_events) (sym same) room }
  counts first (text ∷ texts) journal last room h =
      let one : RunsText acts first text h.0 h.1 = h.3 in
      let rest = counts h.1 texts h.2 last one.room h.5 in
      let all : length journal ≡ length h.0 + length h.2 = ap (λ (j : List Event). length j) h.4 ∙ length-append h.0 h.2 in
      record { events = omega (arith, one.events, rest.events, all); room = rest.room }

  pub filled_run : (texts : List (List ℕ)) (before : List Event) (state : Bench W) (text : List ℕ) (part journal : List Event) (last : Bench W) → Runs (bench_meaning acts) (first_bench acts) texts before state
      → FillsJournal acts state text part last → journal ≡ before ++ part → IsFilledRun acts (texts ++ text ∷ []) journal last
  filled_run texts before state text part journal last runs h is =
      let c = counts (first_bench acts) texts before state (omega arith) runs in
      let count : state.events ≡ length before = omega (arith, c.events) in
      let r = ran_more texts before state runs text h.line h.whole last h.meaning h.steps in
      let made : part ≡ take (most_events - length before) h.whole = h.made_is ∙ ap (λ (n : ℕ). take (most_events - n) h.whole) count in
      record {
        whole = before ++ h.whole;
        run = record { script = lines_run acts (first_bench acts) texts before state runs ++ h.line ∷ []; lines = r.says; run = r.runs };
        over = subst (λ (n : ℕ). most_events < n) (ap (λ (n : ℕ). n + length h.whole) count ∙ sym (length-append before h.whole)) h.over;
        journal_is = is ∙ ap (λ (m : List Event). before ++ m) made ∙ take_past most_events before h.whole (subst (λ (n : ℕ). n ≤ most_events) count c.room);
      }
