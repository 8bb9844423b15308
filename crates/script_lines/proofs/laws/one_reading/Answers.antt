use Rattle.script_lines.proofs.Scripts.{one_script, one_fault, no_fault}
use Rattle.script_lines.proofs.laws.one_reading.Goals as goal

pub returns-clause-lines : goal.returns-clause-lines
returns-clause-lines c = one_script

pub returns-clause-fault : goal.returns-clause-fault
returns-clause-fault c = one_fault

pub returns-clause-apart : goal.returns-clause-apart
returns-clause-apart c = no_fault
