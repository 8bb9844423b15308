use Rattle.tp4_world.proofs.Lowered.{wire_line}
use Rattle.tp4_world.proofs.Whole.{OverWires, whole_line, whole_run}
use Rattle.tp4_world.proofs.laws.whole_run.Goals as goal

pub returns : goal.returns
returns g c =
    let o = c.over_wires.ensures in
    let over : OverWires = record { connecting = o.connecting; calling = o.calling; ticking = o.ticking; hearing = o.hearing } in record {
      whole = whole_line g.C.Carrier.link g.C.Carrier.steps over c.one_hearing.ensures;
      wire = wire_line g.C.Carrier.link g.C.Carrier.steps over;
      run = whole_run g.C.Carrier.link g.C.Carrier.steps over c.one_hearing.ensures;
    }
