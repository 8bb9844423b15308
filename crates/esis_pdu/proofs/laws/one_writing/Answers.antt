-- Two used checksums over the same other octets are the same.
use Rattle.esis_pdu.proofs.Drafts.{one_writing}
use Rattle.esis_pdu.proofs.laws.one_writing.Goals as goal

pub returns : goal.returns
returns c = one_writing
