use Rattle.std.proofs.Common.{◌∙◌, arith}
use Rattle.esis_tables.proofs.Keeping.{sweeping_end, sweeping_more}
use Rattle.esis_tables.proofs.address_table.sweep_due.Goals as goal

pub loop-place-preserved : goal.loop-place-preserved
loop-place-preserved c =
    let h = sweeping_more c.args.now c.args.rows.now c.loop-place.rows c.remove.new.self c.loop-place.due c.pop.new.self c.in-Some.place
    c.remove.ensures c.loop-place.invariant.0 c.in-Some.ensures in
    (h.0, h.1 ∙ c.loop-place.invariant.1)

pub loop-place-smaller : goal.loop-place-smaller
loop-place-smaller c =
    let h = sweeping_more c.args.now c.args.rows.now c.loop-place.rows c.remove.new.self c.loop-place.due c.pop.new.self c.in-Some.place
    c.remove.ensures c.loop-place.invariant.0 c.in-Some.ensures in
    h.2

pub returns-clause-rows : goal.returns-clause-rows
returns-clause-rows c =
    sweeping_end c.args.now c.args.rows.now c.loop-place.rows c.loop-place.due c.pop.new.self c.pop.result (omega arith) c.in_default.is c.loop-place.invariant.0 c.pop.ensures
