use Rattle.tp4_number.specs.Number.{whole, wire}
use Rattle.law_recovery_run.proofs.Calls.{lines_are_calls}
use Rattle.law_recovery_run.proofs.laws.lines_are_calls.Goals as goal

pub returns-clause-whole_numbers : goal.returns-clause-whole_numbers
returns-clause-whole_numbers g c = lines_are_calls g.C.Carrier.link g.C.Carrier.steps g.met.C.Carrier.keeps whole

pub returns-clause-wire_numbers : goal.returns-clause-wire_numbers
returns-clause-wire_numbers g c = lines_are_calls g.C.Carrier.link g.C.Carrier.steps g.met.C.Carrier.keeps wire
