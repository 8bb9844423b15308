use Rattle.script_storm.proofs.Told.{begun, more, ended}
use Rattle.script_storm.proofs.summary.push_summary.Goals as goal

pub returns : goal.returns
returns c =
    let out = c.args.out.now.items in
    let seed = begun out _ _ _ c.in_ok-push_number.ensures in
    let count = more out _ _ _ _ _ seed c.in_ok-push_number-2.ensures in
    let ticks = more out _ _ _ _ _ count c.in_ok-push_number-3.ensures in
    let frames = more out _ _ _ _ _ ticks c.in_ok-push_number-4.ensures in
    let ends = more out _ _ _ _ _ frames c.in_ok-push_number-5.ensures in
    let got = more out _ _ _ _ _ ends c.in_ok-push_number-6.ensures in
    let urgent = more out _ _ _ _ _ got c.in_ok-push_number-7.ensures in
    let gone = more out _ _ _ _ _ urgent c.in_ok-push_number-8.ensures in
    ended c.push.result out _ _ _ _ gone c.push.ensures
