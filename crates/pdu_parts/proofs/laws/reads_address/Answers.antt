-- What is found stands there, and what stands there is found.
use Rattle.pdu_parts.proofs.Addresses.{reads_address}
use Rattle.pdu_parts.proofs.laws.reads_address.Goals as goal

pub returns : goal.returns
returns c = reads_address
