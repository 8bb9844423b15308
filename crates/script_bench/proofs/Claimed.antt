-- Whatever part of the octets was run, its lines are a script and the stage ran them; so what holds of each run holds of it.
use Rattle.std.proofs.Common.{◌≡◌, ℕ, ◌-◌, List, [], ◌∷◌, ◌++◌, drop, inl, inr, sym, ◌∙◌, ap, subst, append_assoc}
use Rattle.std.proofs.lemmas.List.{append-nil, take-append-drop}
use Rattle.line_loop.specs.Course.{IsOver, Runs}
use Rattle.line_loop.specs.Lines.{open_line, last_line, without_return}
use Rattle.script_journal.specs.declared.event.Event.{Event}
use Rattle.script_lines.specs.declared.line.Line.{Line}
use Rattle.script_bench.specs.Acts.{Acts}
use Rattle.script_bench.specs.Bench.{Bench, FillsJournal, bench_meaning, first_bench, most_events}
use Rattle.script_bench.specs.Claims.{AllLines, IsLaw, IsRun, Shows, ToLimit, ToLimitAtEnd, WholeLines, lines_handled, lines_over, lines_run, texts_in}
use Rattle.script_bench.proofs.Runs.{ran, ran_more}

module _ {W : Type 0} (acts : Acts W) (Claim : List Line → List Event → W → Type 0) (law : IsLaw acts Claim) where
  texts_hold : (texts : List (List ℕ)) (journal : List Event) (last : Bench W) (runs : Runs (bench_meaning acts) (first_bench acts) texts journal last)
      → Claim (lines_run acts (first_bench acts) texts journal last runs) journal last.world
  texts_hold texts journal last runs =
      let r = ran acts (first_bench acts) texts journal last runs in
      law.runs texts (lines_run acts (first_bench acts) texts journal last runs) last.names journal last.world r.says r.runs

  -- a line that fills the journal
  filled_holds : (texts : List (List ℕ)) (before : List Event) (state : Bench W) (text : List ℕ) (part journal : List Event) (last : Bench W) (runs : Runs (bench_meaning acts) (first_bench acts) texts before state)
      → (fills : FillsJournal acts state text part last) → journal ≡ before ++ part → Claim (lines_run acts (first_bench acts) texts before state runs ++ fills.line ∷ []) journal last.world
  filled_holds texts before state text part journal last runs fills is =
      let r = ran_more acts texts before state runs text fills.line fills.whole last fills.meaning fills.steps in
      let script : List Line = lines_run acts (first_bench acts) texts before state runs in
      let whole : Claim (script ++ fills.line ∷ []) (before ++ fills.whole) last.world =
      law.runs (texts ++ text ∷ []) (script ++ fills.line ∷ []) last.names (before ++ fills.whole) last.world r.says r.runs in
      let left : List Event = drop (most_events - state.events) fills.whole in
      let parts : before ++ fills.whole ≡ journal ++ left =
      ap (λ (j : List Event). before ++ j) (sym (take-append-drop (most_events - state.events) fills.whole) ∙ ap (λ (j : List Event). j ++ left) (sym fills.made_is))
      ∙ sym (append_assoc before part left) ∙ ap (λ (j : List Event). j ++ left) (sym is) in
      law.front (script ++ fills.line ∷ []) journal left last.world (subst (λ (j : List Event). Claim (script ++ fills.line ∷ []) j last.world) parts whole)

  over_holds : (texts : List (List ℕ)) (front : List ℕ) (octet : ℕ) (before part : List Event) (state last : Bench W) (journal : List Event) (runs : Runs (bench_meaning acts) (first_bench acts) texts before state)
      → journal ≡ before ++ part → (over : IsOver (bench_meaning acts) state front octet part last)
      → Claim (lines_run acts (first_bench acts) texts before state runs ++ lines_over acts state front octet part last over) journal last.world
  over_holds texts front octet before part state last journal runs is (inl limit) =
      let all : before ≡ journal = sym (is ∙ ap (λ (m : List Event). before ++ m) limit.1 ∙ append-nil before) in
      let holds = texts_hold texts before state runs in
      let script : List Line = lines_run acts (first_bench acts) texts before state runs in
      let same : Claim (script ++ []) before state.world = subst (λ (s : List Line). Claim s before state.world) (sym (append-nil script)) holds in
      subst (λ (b : Bench W). Claim (script ++ []) journal b.world) (sym limit.2) (subst (λ (j : List Event). Claim (script ++ []) j state.world) all same)
  over_holds texts front octet before part state last journal runs is (inr fills) = filled_holds texts before state (without_return (open_line front)) part journal last runs fills.2 is

  run_holds : (octets : List ℕ) (journal : List Event) (last : Bench W) (run : IsRun acts octets journal last) → Claim (lines_handled acts octets journal last run) journal last.world
  run_holds octets journal last (WholeLines read) = texts_hold (texts_in octets) journal last read.runs
  run_holds octets journal last (AllLines whole) = texts_hold (texts_in octets ++ last_line (open_line octets)) journal last whole.runs
  run_holds octets journal last (ToLimit here) =
      over_holds (texts_in here.front) here.front here.octet here.before here.events here.state last journal here.so_far.runs here.journal_is here.over
  run_holds octets journal last (ToLimitAtEnd at_end) =
      filled_holds (texts_in octets) at_end.before at_end.state (open_line octets) at_end.events journal last at_end.so_far.runs at_end.fills at_end.journal_is

  pub shows : (octets : List ℕ) → Shows acts Claim octets
  shows octets = λ front journal last begins run. run_holds front journal last run
