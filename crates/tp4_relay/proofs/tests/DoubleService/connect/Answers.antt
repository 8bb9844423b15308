use Rattle.std.proofs.Common.{ap}
use Rattle.script_journal.specs.declared.event.Request.{Request}
use Rattle.tp4_relay.proofs.DoubledCalls.{connected}
use Rattle.tp4_relay.proofs.tests.DoubleService.connect.Goals as goal

pub returns-clause-connects : goal.returns-clause-connects
returns-clause-connects c =
    connected c.args.self.now.ends c.args.events.now.items c.push.new.self.items c.in_ok-new.field-0 (ap (λ (r : Request). r.end) c.in_ok-new.ensures) c.in_ok-push.ensures.items
