use Rattle.tp4_relay.proofs.Telling.{credit_raises, credit_stands}
use Rattle.tp4_relay.proofs.backlog.credit_now.Goals as goal

pub returns-then-lowered : goal.returns-then-lowered
returns-then-lowered c = λ units is. credit_raises c.args.first c.args.left c.args.lowered units is c.if-left-eq0.true c.if-lowered.true

pub returns-else-lowered : goal.returns-else-lowered
returns-else-lowered c = λ units is. credit_stands c.args.first c.args.left c.args.lowered units is c.if-left-eq0.true c.if-lowered.false
