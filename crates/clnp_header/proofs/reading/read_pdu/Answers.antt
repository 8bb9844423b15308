use Rattle.std.proofs.Common.{arith}
use Rattle.clnp_header.proofs.Answered.{reads_header, reads_ok, reads_only, reads_fault}
use Rattle.clnp_header.proofs.reading.read_pdu.Goals as goal

pub returns-clause-ok : goal.returns-clause-ok
returns-clause-ok c = reads_ok c.args.octets.now c.read.result (λ i. omega (arith, c.type_inv.octets i)) c.read.ensures

pub returns-clause-only : goal.returns-clause-only
returns-clause-only c = reads_only c.args.octets.now c.read.result c.read.ensures

pub returns-clause-fault : goal.returns-clause-fault
returns-clause-fault c = reads_fault c.args.octets.now c.read.result c.read.ensures

pub returns-clause-header : goal.returns-clause-header
returns-clause-header c = reads_header c.args.octets.now c.read.result (λ i. omega (arith, c.type_inv.octets i)) c.read.ensures
