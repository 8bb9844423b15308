use Rattle.cltp.proofs.Taking.{next_taken, all_taken}
use Rattle.cltp.proofs.hearing.take_up.Goals as goal

pub loop-up-preserved : goal.loop-up-preserved
loop-up-preserved g c =
    next_taken g.C.Carrier.link g.C.Carrier.steps c.args.systems.now c.args.carrier.now c.loop-up.carrier c.next_up.new.self c.args.events.now.items c.loop-up.events.items
    c.tell.new.events.items c.loop-up.heard.items c.hear_up.new.heard.items c.in-Some.up c.loop-up.invariant c.in-Some.ensures.steps c.in-Some.ensures.link
    c.in_ok-hear_up.ensures c.in_ok-tell.ensures

pub returns : goal.returns
returns g c =
    all_taken g.C.Carrier.link g.C.Carrier.steps c.args.systems.now c.args.carrier.now c.loop-up.carrier c.next_up.new.self c.args.events.now.items c.loop-up.events.items
    c.append.new.self.items c.loop-up.heard.items c.loop-up.invariant c.in_default.ensures.steps c.in_default.ensures.link c.in_ok-append.ensures.items
