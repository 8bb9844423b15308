use Rattle.std.proofs.Common.{◌≡◌, ◌++◌, [], List, ℕ, Err, ap, ◌∙◌, rules}
use Rattle.law_run.specs.Bench.{first_bench}
use Rattle.script_storm.specs.Counted.{counts_of}
use Rattle.script_storm.specs.Summary.{summary_line}
use Rattle.script_storm.specs.declared.counts.Counts.{Counts}
use Rattle.script_bench.specs.Text.{done_line}
use Rattle.osi_storm.proofs.Storming.{summary_asked, too_much_asked}
use Rattle.osi_storm.proofs.storm.push_storm.Goals as goal

pub returns-in-Ok : goal.returns-in-Ok
returns-in-Ok c =
    let first = c.deref_mut.result.now in
    let last = c.run_storm.new.rig in
    let bench : first.bench ≡ first_bench = search rules in
    let counts : first.counts ≡ counts_of [] = search rules in
    let same : c.deref.result.now.counts ≡ last.counts = search rules in
    summary_asked c.args.storm first.bench last.bench first.counts last.counts c.args.out.now.items c.push_done.new.out.items bench counts c.in-Ok.ensures.ok c.requires.none
    (c.in_ok-push_done-in-Ok.ensures ∙ ap (λ (out : List ℕ). out ++ done_line) c.in_ok-push_summary-in-Ok.ensures
    ∙ ap (λ (counts : Counts). c.args.out.now.items ++ summary_line c.args.storm counts ++ done_line) same)

pub returns-in-Err-Full : goal.returns-in-Err-Full
returns-in-Err-Full c =
    let first = c.deref_mut.result.now in
    let bench : first.bench ≡ first_bench = search rules in
    let counts : first.counts ≡ counts_of [] = search rules in
    too_much_asked c.args.storm first.bench first.counts c.args.out.now.items c.push_too_much.new.out.items bench counts
    (c.in-Err-Full.ensures.full (ap Err c.in-Err-Full.field-0-is)) c.requires.none c.in_ok-push_too_much-in-Err-Full.ensures
