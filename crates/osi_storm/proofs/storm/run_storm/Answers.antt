use Rattle.std.proofs.Common.{map}
use Rattle.line_loop.proofs.Calls.{on_ok}
use Rattle.script_storm.specs.Line.{set_up_lines}
use Rattle.script_storm.specs.Words.{words}
use Rattle.osi_storm.specs.Storm.{as_it_stands, line_after}
use Rattle.osi_storm.proofs.Storming.{fills_first, fills_second, goes_both}
use Rattle.osi_storm.proofs.storm.run_storm.Goals as goal

pub returns-in-Err-clause-full : goal.returns-in-Err-clause-full
returns-in-Err-clause-full c is =
    fills_first (map as_it_stands set_up_lines) (map line_after (words c.args.storm.seed c.args.storm.count)) c.args.rig.now.bench c.args.rig.now.counts (c.in-Err.ensures.full is)

pub returns-clause-ok : goal.returns-clause-ok
returns-clause-ok c =
    let first = c.args.rig.now in
    let mid = c.run_set_up.new.self in
    let last = c.run_words.new.self in
    on_ok c.run_words.result
    (goes_both (map as_it_stands set_up_lines) (map line_after (words c.args.storm.seed c.args.storm.count)) first.bench mid.bench last.bench first.counts mid.counts last.counts c.in_default.ensures.ok)
    c.run_words.ensures.ok

pub returns-clause-full : goal.returns-clause-full
returns-clause-full c is =
    let first = c.args.rig.now in
    let mid = c.run_set_up.new.self in
    fills_second (map as_it_stands set_up_lines) (map line_after (words c.args.storm.seed c.args.storm.count)) first.bench mid.bench first.counts mid.counts c.in_default.ensures.ok
    (c.run_words.ensures.full is)
