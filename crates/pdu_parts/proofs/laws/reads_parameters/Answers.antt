-- By induction on the parameters.
use Rattle.pdu_parts.proofs.Parameters.{reads_parameters}
use Rattle.pdu_parts.proofs.laws.reads_parameters.Goals as goal

pub returns : goal.returns
returns c = reads_parameters
