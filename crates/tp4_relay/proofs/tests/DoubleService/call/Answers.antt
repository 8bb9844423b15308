use Rattle.tp4_relay.proofs.DoubledCalls.{called, refused_call}
use Rattle.tp4_relay.proofs.tests.DoubleService.call.Goals as goal

pub returns-then-self-clause-calls : goal.returns-then-self-clause-calls
returns-then-self-clause-calls c =
    refused_call c.args.events.now.items c.refuse.new.events.items c.refuse.result c.args.end c.args.call c.args.self.now.ends c.refuse.ensures.not_done c.refuse.ensures.told

pub returns-clause-calls : goal.returns-clause-calls
returns-clause-calls c =
    called c.args.end c.args.call c.args.self.now.ends c.args.events.now.items c.push.new.self.items c.own_event.result c.own_event.ensures c.in_ok-push.ensures.items
