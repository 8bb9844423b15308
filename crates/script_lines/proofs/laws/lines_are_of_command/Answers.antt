use Rattle.script_lines.proofs.CommandLines.{line_has, line_stays, script_has}
use Rattle.script_lines.proofs.laws.lines_are_of_command.Goals as goal

pub returns-clause-has : goal.returns-clause-has
returns-clause-has c = line_has

pub returns-clause-stays : goal.returns-clause-stays
returns-clause-stays c = line_stays

pub returns-clause-script : goal.returns-clause-script
returns-clause-script c = script_has
