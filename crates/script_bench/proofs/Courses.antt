-- Each line of a script has a course on the bench, as each line that is read has a step.
use Rattle.std.proofs.Common.{◌≡◌, ℕ, ◌+◌, ◌-◌, ◌<◌, List, length, take, Result, Ok, Err, inl, inr, refl, sym, subst}
use Rattle.std.proofs.lemmas.Bool.{cases_lt}
use Rattle.line_loop.specs.Lines.{most_lines}
use Rattle.line_loop.specs.Course.{HasCourse}
use Rattle.line_loop.specs.Laws.{AsksSomething}
use Rattle.line_loop.proofs.Totality.{asks_something}
use Rattle.script_journal.specs.declared.event.Event.{Event}
use Rattle.script_lines.specs.declared.cause.LineFault.{LineFault}
use Rattle.script_lines.specs.declared.line.Line.{Line}
use Rattle.script_lines.specs.Grammar.{Reading, line_read}
use Rattle.script_lines.specs.Known.{Declared}
use Rattle.script_bench.specs.Acts.{Acts, HasStep, Keeping, StageLaws}
use Rattle.script_bench.specs.Bench.{Bench, RunsText, bench_meaning, first_bench, most_events}
use Rattle.script_bench.specs.steps.BenchLaws.{bench_laws}

module _ {W : Type 0} (acts : Acts W) (keeping : Keeping W) (laws : StageLaws acts keeping) where
  abbrev Stands : Bench W → Type 0
  Stands bench = keeping.agrees bench.names bench.world bench.lines

  -- the journal has room for the events of a line, or the line fills it
  roomed : (bench : Bench W) (octets : List ℕ) (line : Line) (names : Declared) → line_read bench.names octets ≡ Ok (record { line = line; names = names }) → (h : HasStep acts bench.world line)
      → HasCourse (bench_meaning acts) bench octets
  roomed bench octets line names is h = elim (cases_lt most_events (bench.events + length h.made)) [
    | inl over ↦ inr (inr (
      take (most_events - bench.events) h.made,
      record { names = names; world = h.new; lines = bench.lines + 1; events = most_events },
      record { line = line; whole = h.made; meaning = is; steps = h.steps; lines = refl; over = over; made_is = refl; events = refl },
    ))
    | inr room ↦ inl (
      h.made,
      record { names = names; world = h.new; lines = bench.lines + 1; events = bench.events + length h.made },
      record { line = line; meaning = is; steps = h.steps; lines = refl; events = refl; room = room },
    )
  ]

  course_by : (bench : Bench W) (octets : List ℕ) (read : Result Reading LineFault) → Stands bench → bench.lines < most_lines → line_read bench.names octets ≡ read → HasCourse (bench_meaning acts) bench octets
  course_by bench octets (Err found) s few is = inr (inl (found, is))
  course_by bench octets (Ok reading) s few is = roomed bench octets reading.line reading.names is (laws.some_step bench.names reading.names bench.world bench.lines octets reading.line s few is)

  stays : (old : Bench W) (octets : List ℕ) (made : List Event) (new : Bench W) → Stands old → old.lines < most_lines → RunsText acts old octets made new → Stands new
  stays old octets made new s few h =
      subst (λ (n : ℕ). keeping.agrees new.names new.world n) (sym h.lines) (laws.read_agrees old.names new.names old.world old.lines octets h.line made new.world s few h.meaning h.steps)

  pub script_asks : (all : List ℕ) → AsksSomething (bench_meaning acts) (first_bench acts) all
  script_asks all =
      asks_something (bench_meaning acts) (bench_laws acts keeping laws) Stands (λ bench octets s few. course_by bench octets (line_read bench.names octets) s few refl) stays (first_bench acts) refl all laws.begins
