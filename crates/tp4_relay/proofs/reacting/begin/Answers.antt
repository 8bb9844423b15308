use Rattle.std.proofs.Common.{◌∙◌}
use Rattle.std.specs.List.{AllByRecursion}
use Rattle.tp4_relay.specs.steps.Serving.{IsIdle}
use Rattle.tp4_relay.proofs.Begun.{begun, begun_broken, made_there, refused, refused_broken, tells_none}
use Rattle.tp4_relay.proofs.Placed.{on_err}
use Rattle.tp4_relay.proofs.reacting.begin.Goals as goal

pub returns-in_err-connect-clause-broken : goal.returns-in_err-connect-clause-broken
returns-in_err-connect-clause-broken g c = on_err _ _ (tells_none (AllByRecursion IsIdle) c.args.events.now.items c.connect.new.events.items c.in_err-connect.ensures.err tt)

pub made_end-outbound-requires : goal.made_end-outbound-requires
made_end-outbound-requires g c =
    made_there g.S.Service.has g.S.Service.ends g.S.Service.honest g.S.Service.connects g.S.Service.calls g.met.S.Service.laws
    c.args.service.now c.args.system c.args.request c.args.events.now.items c.connect.new.events.items c.connect.new.self c.in_ok-connect.field-0 c.in_ok-connect.ensures.connects c.len-told.result c.deref.result.now
    (c.len-told.ensures ∙ c.args.events.now.ok.0) c.deref.ensures.value c.if-branch.true

pub returns-in_err-push-clause-broken : goal.returns-in_err-push-clause-broken
returns-in_err-push-clause-broken g c =
    on_err _ _ (begun_broken g.S.Service.has g.S.Service.ends g.S.Service.honest g.S.Service.connects g.S.Service.calls g.met.S.Service.laws
    c.args.service.now c.args.system c.args.request c.args.events.now.items c.connect.new.events.items c.connect.new.self c.in_ok-connect.field-0 c.in_ok-connect.ensures.connects c.push.new.self.items
    c.in_err-push.ensures.items)

pub returns-in_ok-push-clause-told : goal.returns-in_ok-push-clause-told
returns-in_ok-push-clause-told g c =
    begun g.S.Service.has g.S.Service.ends g.S.Service.honest g.S.Service.connects g.S.Service.calls g.met.S.Service.laws
    c.args.service.now c.args.system c.args.request c.args.events.now.items c.connect.new.events.items c.connect.new.self c.in_ok-connect.field-0 c.in_ok-connect.ensures.connects c.len-told.result c.deref.result.now
    (c.len-told.ensures ∙ c.args.events.now.ok.0) c.deref.ensures.value c.args.inbound c.made_end-outbound.result c.push.new.self.items c.if-branch.true c.made_end-outbound.ensures c.in_ok-push.ensures.items

pub returns-else-branch-clause-told : goal.returns-else-branch-clause-told
returns-else-branch-clause-told g c =
    refused g.S.Service.has g.S.Service.ends g.S.Service.honest g.S.Service.connects g.S.Service.calls g.met.S.Service.laws
    c.args.service.now c.args.system c.args.request c.args.events.now.items c.connect.new.events.items c.connect.new.self c.in_ok-connect.field-0 c.in_ok-connect.ensures.connects
    c.call.result c.args.inbound c.nothing.result c.call.new.self c.call.new.events.items c.if-branch.false c.nothing.ensures c.call.ensures.calls

pub returns-else-branch-clause-broken : goal.returns-else-branch-clause-broken
returns-else-branch-clause-broken g c =
    refused_broken g.S.Service.has g.S.Service.ends g.S.Service.honest g.S.Service.connects g.S.Service.calls g.met.S.Service.laws
    c.args.service.now c.args.system c.args.request c.args.events.now.items c.connect.new.events.items c.connect.new.self c.in_ok-connect.field-0 c.in_ok-connect.ensures.connects
    c.call.result c.args.inbound c.nothing.result c.call.new.self c.call.new.events.items c.call.ensures.err
