use Rattle.clnp_entity.specs.steps.Lost.{lost_pdu}
use Rattle.clnp_entity.proofs.Ending.{reports_next}
use Rattle.clnp_entity.proofs.entity.NetEntity.reports.Goals as goal

pub loop-unit-preserved : goal.loop-unit-preserved
loop-unit-preserved c = reports_next c.args.self.now c.args.now c.args.expired.now c.loop-unit.unit-index c.unit-item.result (lost_pdu c.lost.result)
    c.loop-unit.frames.items c.in_ok-report.report.items c.append.new.self.items c.loop-unit-test.true c.unit-item.is c.loop-unit.invariant c.lost.ensures
    c.in_ok-report.ensures c.in_ok-append.ensures.items
