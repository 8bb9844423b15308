use Rattle.std.proofs.Common.{subst}
use Rattle.tp4_relay.specs.steps.Serving.{CanDo}
use Rattle.tp4_relay.proofs.Doing.{did_as, did_nothing, idle_err}
use Rattle.tp4_relay.proofs.reacting.act.Goals as goal

pub returns-in-Nothing-clause-told : goal.returns-in-Nothing-clause-told
returns-in-Nothing-clause-told g c = did_nothing g.S.Service.connects g.S.Service.calls c.args.to_do c.args.service.now c.args.events.now.items c.in-Nothing.is

pub begin-requires-clause-has : goal.begin-requires-clause-has
begin-requires-clause-has g c = (subst (CanDo (g.S.Service.has c.args.service.now)) c.in-Begin.is c.requires).0

pub begin-requires-clause-size : goal.begin-requires-clause-size
begin-requires-clause-size g c = (subst (CanDo (g.S.Service.has c.args.service.now)) c.in-Begin.is c.requires).1

pub returns-in-Begin-clause-told : goal.returns-in-Begin-clause-told
returns-in-Begin-clause-told g c =
    did_as g.S.Service.connects g.S.Service.calls c.args.to_do c.begin.result _ c.args.service.now c.args.events.now.items c.begin.new.events.items c.begin.new.service c.in-Begin.is
    c.begin.ensures.told

pub call-requires : goal.call-requires
call-requires g c = record { call = subst (CanDo (g.S.Service.has c.args.service.now)) c.in-Ask.is c.requires }

pub returns-in-Ask-clause-told : goal.returns-in-Ask-clause-told
returns-in-Ask-clause-told g c =
    did_as g.S.Service.connects g.S.Service.calls c.args.to_do c.call.result _ c.args.service.now c.args.events.now.items c.call.new.events.items c.call.new.self c.in-Ask.is c.call.ensures.calls

pub returns-in-Ask-clause-broken : goal.returns-in-Ask-clause-broken
returns-in-Ask-clause-broken g c = idle_err c.call.result c.args.events.now.items c.call.new.events.items c.call.ensures.err
