use Rattle.law_setup.proofs.Octets.{line_octets}
use Rattle.law_setup.proofs.laws.lines_are_in_octets.Goals as goal

pub returns : goal.returns
returns c = line_octets
