use Rattle.std.proofs.Common.{refl, sym, subst}
use Rattle.script_journal.specs.declared.event.Event.TheVariants as events
use Rattle.tp4_conn.specs.declared.call.UserCall.{UserCall}
use Rattle.tp4_relay.specs.Service.{IsOwn}
use Rattle.tp4_relay.proofs.tests.own_event.Goals as goal
use Rattle.tpdu.specs.declared.service.EndTold.TheVariants as tells

pub returns-in-Accept : goal.returns-in-Accept
returns-in-Accept c = subst (λ (call : UserCall). IsOwn c.args.end call (events.End c.args.end (tells.Accept c.options.result c.in-Accept.octets))) (sym c.in-Accept.is) (c.options.result, refl)

pub returns-in-Refuse : goal.returns-in-Refuse
returns-in-Refuse c = subst (λ (call : UserCall). IsOwn c.args.end call (events.Refuse c.args.end c.in-Refuse.octets)) (sym c.in-Refuse.is) refl

pub returns-in-Normal : goal.returns-in-Normal
returns-in-Normal c = subst (λ (call : UserCall). IsOwn c.args.end call (events.Data c.args.end c.in-Normal.octets)) (sym c.in-Normal.is) refl

pub returns-in-Urgent : goal.returns-in-Urgent
returns-in-Urgent c = subst (λ (call : UserCall). IsOwn c.args.end call (events.Expedite c.args.end c.in-Urgent.octets)) (sym c.in-Urgent.is) refl

pub returns-in-Window : goal.returns-in-Window
returns-in-Window c = subst (λ (call : UserCall). IsOwn c.args.end call (events.End c.args.end (tells.Window c.in-Window.credit))) (sym c.in-Window.is) (c.in-Window.credit, refl)

pub returns-in-Disconnect : goal.returns-in-Disconnect
returns-in-Disconnect c = subst (λ (call : UserCall). IsOwn c.args.end call (events.Disconnect c.args.end c.in-Disconnect.octets)) (sym c.in-Disconnect.is) refl
