use Rattle.script_lines.proofs.LineNames.{line_named}
use Rattle.script_lines.proofs.laws.names_are_known.Goals as goal

pub returns : goal.returns
returns c = line_named
