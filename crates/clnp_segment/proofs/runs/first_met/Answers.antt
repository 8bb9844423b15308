use Rattle.std.proofs.Common.{ℕ, ◌+◌, ◌-◌, ◌/◌, ◌<◌, ◌≤◌, arith}
use Rattle.clnp_segment.proofs.Meetings.{first_of_all, search_before, search_behind}
use Rattle.clnp_segment.proofs.runs.first_met.Goals as goal

pub returns-then-from-end : goal.returns-then-from-end
returns-then-from-end c =
    first_of_all c.args.runs.now.items c.args.at c.index.result.now c.requires (omega (arith, c.len-past.ensures, c.if-past-gt0.true)) c.index.ensures
    (omega (arith, c.if-from-end.true, c.from.ensures, c.end.ensures))

pub loop-first-preserved-then-end-from : goal.loop-first-preserved-then-end-from
loop-first-preserved-then-end-from c =
    let middle : ℕ = c.loop-first.first + (c.loop-first.past - c.loop-first.first) / 2 in
    let low : c.loop-first.first ≤ middle = omega arith in
    let high : middle < c.loop-first.past = omega arith in
    search_behind c.args.runs.now.items c.args.at c.loop-first.first c.loop-first.past middle c.index-in-loop-first.result.now c.requires c.loop-first.invariant low high
    c.index-in-loop-first.ensures (omega (arith, c.end-in-loop-first.ensures, c.from-in-loop-first.ensures, c.if-end-from.true))

pub loop-first-preserved : goal.loop-first-preserved
loop-first-preserved c =
    let middle : ℕ = c.loop-first.first + (c.loop-first.past - c.loop-first.first) / 2 in
    let low : c.loop-first.first ≤ middle = omega arith in
    let high : middle < c.loop-first.past = omega arith in
    search_before c.args.runs.now.items c.args.at c.loop-first.first c.loop-first.past middle c.index-in-loop-first.result.now c.requires c.loop-first.invariant low high
    c.index-in-loop-first.ensures (omega (arith, c.end-in-loop-first.ensures, c.from-in-loop-first.ensures, c.if-end-from.false))
