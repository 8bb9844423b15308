use Rattle.script_lines.proofs.FreshNames.{script_names}
use Rattle.script_lines.proofs.laws.names_stay_names.Goals as goal

pub returns : goal.returns
returns c = script_names
