use Rattle.osi_base.proofs.Gatherings.{gathering_next, gathered}
use Rattle.osi_base.proofs.runs.gather.Goals as goal

pub loop-up-preserved : goal.loop-up-preserved
loop-up-preserved g c =
    let next = gathering_next g.C.Carrier.link g.C.Carrier.steps c.args.carrier.now c.loop-up.ups.items c.loop-up.carrier c.next_up.new.self c.in-Some.up
    c.loop-up.invariant c.in-Some.ensures.steps c.in-Some.ensures.link in
    rw c.in_ok-push_back.ensures.items next

pub returns : goal.returns
returns g c =
    gathered g.C.Carrier.link g.C.Carrier.steps c.args.carrier.now c.loop-up.ups.items c.loop-up.carrier c.next_up.new.self
    c.loop-up.invariant c.in_default.ensures.steps c.in_default.ensures.link
