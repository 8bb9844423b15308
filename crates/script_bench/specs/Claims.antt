-- Whatever part of the octets was run: the lines that were handled, and what holds of every run of a stage.
use Rattle.std.specs.Prelude.{ℕ, List, [], ◌∷◌, ◌++◌, map}
use Rattle.std.proofs.Common.{inl, inr}
use Rattle.line_loop.specs.Course.{Runs, IsRead, IsWhole, IsOver, IsTooMuch, IsTooMuchAtEnd}
use Rattle.line_loop.specs.Lines.{whole_lines, open_line, without_return, last_line}
use Rattle.line_loop.specs.Writing.{IsPrefix}
use Rattle.script_journal.specs.declared.event.Event.{Event}
use Rattle.script_lines.specs.declared.line.Line.{Line}
use Rattle.script_lines.specs.Known.{Declared, nothing_declared}
use Rattle.script_lines.specs.Script.{Says}
use Rattle.script_bench.specs.Acts.{Acts, RunsScript}
use Rattle.script_bench.specs.Bench.{Bench, RunsText, bench_meaning, first_bench}

-- the lines that have their line feed, without their ends
abbrev pub texts_in : List ℕ → List (List ℕ)
texts_in octets = map without_return (whole_lines octets)

module _ {W : Type 0} (acts : Acts W) where
  -- how far octets were run: to the end of the lines that have their line feed, to the end of all lines, or to a limit
  pub data IsRun (octets : List ℕ) (journal : List Event) (last : Bench W) : Type 0 where
    WholeLines : IsRead (bench_meaning acts) (first_bench acts) octets journal last → IsRun octets journal last
    AllLines : IsWhole (bench_meaning acts) (first_bench acts) octets journal last → IsRun octets journal last
    ToLimit : IsTooMuch (bench_meaning acts) (first_bench acts) octets journal last → IsRun octets journal last
    ToLimitAtEnd : IsTooMuchAtEnd (bench_meaning acts) (first_bench acts) octets journal last → IsRun octets journal last

  -- the lines that ran
  abbrev pub lines_run : (first : Bench W) (texts : List (List ℕ)) (journal : List Event) (last : Bench W) → Runs (bench_meaning acts) first texts journal last → List Line
  lines_run first [] journal last runs = []
  lines_run first (text ∷ texts) journal last runs = let one : RunsText acts first text runs.0 runs.1 = runs.3 in one.line ∷ lines_run runs.1 texts runs.2 last runs.5

  -- the line that fills the journal, where one does
  abbrev pub lines_over : (state : Bench W) (front : List ℕ) (octet : ℕ) (events : List Event) (last : Bench W) → IsOver (bench_meaning acts) state front octet events last → List Line
  lines_over state front octet events last (inl limit) = []
  lines_over state front octet events last (inr fills) = fills.2.line ∷ []

  -- the lines of the octets that were handled
  abbrev pub lines_handled : (octets : List ℕ) (journal : List Event) (last : Bench W) → IsRun octets journal last → List Line
  lines_handled octets journal last (WholeLines read) = lines_run (first_bench acts) (texts_in octets) journal last read.runs
  lines_handled octets journal last (AllLines whole) = lines_run (first_bench acts) (texts_in octets ++ last_line (open_line octets)) journal last whole.runs
  lines_handled octets journal last (ToLimit here) =
      lines_run (first_bench acts) (texts_in here.front) here.before here.state here.so_far.runs ++ lines_over here.state here.front here.octet here.events last here.over
  lines_handled octets journal last (ToLimitAtEnd at_end) =
      lines_run (first_bench acts) (texts_in octets) at_end.before at_end.state at_end.so_far.runs ++ at_end.fills.line ∷ []

  -- what is claimed of a script, its journal and the state after it: it holds of each run of a script, and then of each front of the journal
  pub record IsLaw (Claim : List Line → List Event → W → Type 0) : Type 0 where
    pub runs : (texts : List (List ℕ)) (script : List Line) (names : Declared) (journal : List Event) (last : W) → Says (nothing_declared acts.dialect) texts script names
        → RunsScript acts acts.first script journal last → Claim script journal last
    pub front : (script : List Line) (before after : List Event) (last : W) → Claim script (before ++ after) last → Claim script before last

  -- whatever front of the octets was run, the claim holds of the lines that were handled
  abbrev pub Shows : (List Line → List Event → W → Type 0) → List ℕ → Type 0
  Shows Claim octets = (front : List ℕ) (journal : List Event) (last : Bench W) → IsPrefix front octets → (run : IsRun front journal last) → Claim (lines_handled front journal last run) journal last.world
