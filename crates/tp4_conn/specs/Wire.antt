-- An end as the code keeps it: the two numbers that its receiving half expects, as they stand on the wire.
use Rattle.tp4_flow.specs.ReceivingHalf.{on_wire}
use Rattle.tp4_conn.specs.declared.halves.Halves.{Halves}
use Rattle.tp4_conn.specs.declared.states.StateData.{StateData}
use Rattle.tp4_conn.specs.declared.states.StateData.TheVariants.{AkWait, Opened}
use Rattle.tp4_conn.specs.End.{End}

abbrev pub halves_on_wire : Halves → Halves
halves_on_wire h = record h { receiving = on_wire h.receiving }

abbrev pub stage_on_wire : StateData → StateData
stage_on_wire (AkWait w) = AkWait (record w { halves = halves_on_wire w.halves })
stage_on_wire (Opened o) = Opened (record o { halves = halves_on_wire o.halves })
stage_on_wire stage = stage

abbrev pub end_on_wire : End → End
end_on_wire e = record e { stage = stage_on_wire e.stage }
