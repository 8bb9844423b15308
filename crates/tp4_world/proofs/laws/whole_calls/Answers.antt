use Rattle.tp4_world.proofs.Whole.{OverWires, whole_calls}
use Rattle.tp4_world.proofs.laws.whole_calls.Goals as goal

pub returns : goal.returns
returns g c =
    let o = c.over_wires.ensures in
    let over : OverWires = record { connecting = o.connecting; calling = o.calling; ticking = o.ticking; hearing = o.hearing } in
    whole_calls g.C.Carrier.link g.C.Carrier.steps over c.one_hearing.ensures
