use Rattle.std.proofs.Common.{◌+◌, ℕ, ◌∙◌, ap}
use Rattle.script_storm.specs.Line.{set_up_lines}
use Rattle.law_run.specs.Bench.{Bench}
use Rattle.osi_storm.proofs.Storming.{IsAt, fills_texts, first_stands, goes_all, goes_texts, is_at, journal_on, known_at, left_at, left_first, none_goes, ready_all}
use Rattle.osi_storm.proofs.storm.Rig.run_set_up.Goals as goal

pub loop-line-init : goal.loop-line-init
loop-line-init c =
    let bench = c.args.self.now.bench in
    let counts = c.args.self.now.counts in
    (none_goes bench counts, left_first bench c.requires.bench, first_stands bench counts c.requires.bench c.requires.counts, ap (λ (b : Bench). b.lines) c.requires.bench)

pub run_line-requires-clause-known : goal.run_line-requires-clause-known
run_line-requires-clause-known c =
    let here : IsAt set_up_lines c.loop-line.line-index c.as_bytes.result.now =
    is_at (λ line. line.now) c.set_up-line-items.result.now set_up_lines c.loop-line.line-index _ c.as_bytes.result.now c.set_up-line-items.ensures c.loop-line-test.true c.as_bytes.ensures.value in
    known_at set_up_lines c.loop-line.line-index c.as_bytes.result.now c.loop-line.self.bench.names here c.loop-line.invariant.1

pub returns-in-Err-clause-full : goal.returns-in-Err-clause-full
returns-in-Err-clause-full c is =
    let here : IsAt set_up_lines c.loop-line.line-index c.as_bytes.result.now =
    is_at (λ line. line.now) c.set_up-line-items.result.now set_up_lines c.loop-line.line-index _ c.as_bytes.result.now c.set_up-line-items.ensures c.loop-line-test.true c.as_bytes.ensures.value in
    let full = c.in-Err.ensures.full is in
    fills_texts set_up_lines c.loop-line.line-index c.as_bytes.result.now c.args.self.now.bench c.loop-line.self.bench full.1 c.args.self.now.counts c.loop-line.self.counts full.0 here
    c.loop-line.invariant.0 full.2

pub loop-line-preserved : goal.loop-line-preserved
loop-line-preserved c =
    let here : IsAt set_up_lines c.loop-line.line-index c.as_bytes.result.now =
    is_at (λ line. line.now) c.set_up-line-items.result.now set_up_lines c.loop-line.line-index _ c.as_bytes.result.now c.set_up-line-items.ensures c.loop-line-test.true c.as_bytes.ensures.value in
    let ran = c.in_default.ensures in
    let was = c.loop-line.self in
    let new = c.run_line.new.self in
    let first = c.args.self.now in (
      goes_texts set_up_lines c.loop-line.line-index c.as_bytes.result.now first.bench was.bench new.bench first.counts was.counts new.counts new.events.items here c.loop-line.invariant.0 ran.ok ran.counts,
      left_at set_up_lines c.loop-line.line-index c.as_bytes.result.now was.bench new.bench new.events.items here c.loop-line.invariant.1 ran.ok,
      journal_on was.bench new.bench was.counts new.counts c.as_bytes.result.now new.events.items c.loop-line.invariant.2 ran.ok ran.counts,
      ran.ok.lines ∙ ap (λ (n : ℕ). n + 1) c.loop-line.invariant.3,
    )

pub returns-clause-ok : goal.returns-clause-ok
returns-clause-ok c =
    goes_all (λ line. line.now) c.set_up-line-items.result.now set_up_lines c.loop-line.line-index c.args.self.now.bench c.loop-line.self.bench c.args.self.now.counts c.loop-line.self.counts
    c.set_up-line-items.ensures c.loop-line-test.false c.loop-line.invariant.0

pub returns-clause-ready : goal.returns-clause-ready
returns-clause-ready c =
    ready_all (λ line. line.now) c.set_up-line-items.result.now set_up_lines c.loop-line.line-index c.loop-line.self.bench.names c.set_up-line-items.ensures c.loop-line-test.false c.loop-line.invariant.1
