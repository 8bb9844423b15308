use Rattle.tp4_conn.proofs.Wires.{on_the_wire}
use Rattle.tp4_conn.proofs.laws.over_wires.Goals as goal

pub returns : goal.returns
returns c = on_the_wire
