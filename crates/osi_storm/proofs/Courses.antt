-- Each line of a generated script runs, or fills the journal: it is read, and each line that is read has a step.
use Rattle.std.proofs.Common.{◌≡◌, ◌⊎◌, ℕ, ◌+◌, ◌-◌, ◌<◌, ◌≤◌, List, [], ◌∷◌, ◌++◌, length, map, take, inl, inr, refl, sym, ◌∙◌, ap, subst, length-append, arith}
use Rattle.std.proofs.lemmas.Bool.{cases_lt}
use Rattle.std.proofs.lemmas.List.{length-map}
use Rattle.line_loop.specs.Lines.{most_lines}
use Rattle.osi_base.specs.declared.status.Status.TheVariants.{Done, NoMemory, TooMuch}
use Rattle.script_journal.specs.declared.event.Event.{Event}
use Rattle.script_lines.specs.Grammar.{Reading}
use Rattle.script_storm.specs.Counted.{counts_of}
use Rattle.script_storm.specs.Line.{set_up_lines}
use Rattle.script_storm.specs.Summary.{summary_line}
use Rattle.script_storm.specs.Words.{generator_of, words}
use Rattle.script_storm.specs.declared.request.Storm.{Storm}
use Rattle.rand_pcg.specs.Pcg.{pcg32}
use Rattle.script_bench.specs.Acts.{HasStep}
use Rattle.law_run.specs.Bench.{Bench, RunsText, first_bench, most_events}
use Rattle.law_run.specs.World.{world_acts}
use Rattle.law_run.proofs.WorldLaws.{world_keeping, world_laws}
use Rattle.osi_storm.specs.Storm.{AsksSomeSummary, StormFills, StormRuns, SummaryOutcome, as_it_stands, line_after, storm_lines}
use Rattle.script_bench.specs.Text.{done_line, toomuch_line}
use Rattle.osi_storm.proofs.Generated.{AreClear, Lines, storm_clear}
use Rattle.osi_storm.proofs.Storming.{word_length}

-- the lines run, or one of them fills the journal
abbrev Ends : Bench → List Event → Lines → Type 0
Ends bench before lines = ((journal : List Event) × (last : Bench) × StormRuns bench before lines journal last) ⊎ StormFills bench before lines

-- names and network agree after so many lines
abbrev Stands : Bench → Type 0
Stands bench = world_keeping.agrees bench.names bench.world bench.lines

each_ends : (lines : Lines) (bench : Bench) (before : List Event) → AreClear lines bench.names → bench.events ≡ length before → length before ≤ most_events → Stands bench
    → bench.lines + length lines ≤ most_lines → Ends bench before lines
each_ends [] bench before clear events room stands few = inl (before, bench, (refl, refl))
each_ends (line ∷ lines) bench before clear events room stands few =
    let c = clear before room in
    let read : Reading = c.0 in
    let below : bench.lines < most_lines = omega (arith, few) in
    let h : HasStep world_acts bench.world read.line = world_laws.some_step bench.names read.names bench.world bench.lines (line before) read.line stands below c.1 in
    let on : world_keeping.agrees read.names h.new (bench.lines + 1) =
    world_laws.read_agrees bench.names read.names bench.world bench.lines (line before) read.line h.made h.new stands below c.1 h.steps in
    elim (cases_lt most_events (bench.events + length h.made)) [
      | inl over ↦ inr (inl (
        take (most_events - bench.events) h.made,
        record { names = read.names; world = h.new; lines = bench.lines + 1; events = most_events },
        record { line = read.line; whole = h.made; meaning = c.1; steps = h.steps; lines = refl; over = over; made_is = refl; events = refl },
      ))
      | inr fits ↦
          let next : Bench = record { names = read.names; world = h.new; lines = bench.lines + 1; events = bench.events + length h.made } in
          let runs : RunsText bench (line before) h.made next = record { line = read.line; meaning = c.1; steps = h.steps; lines = refl; events = refl; room = fits } in
          let size : length (before ++ h.made) ≡ length before + length h.made = length-append before h.made in
          let events_on : bench.events + length h.made ≡ length (before ++ h.made) = ap (λ (n : ℕ). n + length h.made) events ∙ sym size in
          elim (each_ends lines next (before ++ h.made) c.3 events_on (subst (λ (n : ℕ). n ≤ most_events) events_on fits) on (omega (arith, few))) [
            | inl all ↦ inl (all.0, all.1, (h.made, next, runs, all.2))
            | inr later ↦ inr (inr (h.made, next, runs, later))
          ]
    ]

-- a generated script has few lines
few_lines : (storm : Storm) → storm.count ≤ 20000 → 0 + length (storm_lines storm) ≤ most_lines
few_lines storm low =
    let all = length-append (map as_it_stands set_up_lines) (map line_after (words storm.seed storm.count)) in
    let first = length-map set_up_lines as_it_stands in
    let rest = length-map (words storm.seed storm.count) line_after in
    let count = word_length pcg32 storm.count (generator_of storm.seed) in
    let fifteen : length set_up_lines ≡ 15 = refl in
    omega (arith, all, first, rest, count, fifteen, low)

pub some_summary : (storm : Storm) → storm.count ≤ 20000 → AsksSomeSummary storm
some_summary storm low =
    elim (each_ends (storm_lines storm) first_bench [] (storm_clear storm) refl (omega arith) world_laws.begins (few_lines storm low)) [
      | inl all ↦ record { text = summary_line storm (counts_of all.0) ++ done_line; status = Done; asks = (all.0, all.1, all.2, refl) }
      | inr fills ↦ record { text = toomuch_line; status = TooMuch; asks = (fills, refl) }
    ]

-- where memory ran out before anything was written, that is a front of what the script asks for
pub nothing_written : (storm : Storm) → storm.count ≤ 20000 → SummaryOutcome storm [] NoMemory
nothing_written storm low =
    let some = some_summary storm low in
    record { front = []; text = some.text; status = some.status; begins = ([], refl); asked = some.asks; cut = (some.text, refl) }
