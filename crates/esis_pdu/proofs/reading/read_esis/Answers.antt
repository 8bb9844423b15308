-- The clauses are laws of what reading answers.
use Rattle.std.proofs.Common.{arith}
use Rattle.esis_pdu.proofs.Grammar.{answer_each_fault, answer_fault, answer_ok, answer_only}
use Rattle.esis_pdu.proofs.reading.read_esis.Goals as goal

pub returns-clause-ok : goal.returns-clause-ok
returns-clause-ok c = answer_ok c.args.octets.now c.front_pdu.result (λ i. omega (arith, c.type_inv.octets i)) c.front_pdu.ensures

pub returns-clause-only : goal.returns-clause-only
returns-clause-only c = answer_only c.args.octets.now c.front_pdu.result c.front_pdu.ensures

pub returns-clause-fault : goal.returns-clause-fault
returns-clause-fault c = answer_fault c.args.octets.now c.front_pdu.result c.front_pdu.ensures

pub returns-clause-each_fault : goal.returns-clause-each_fault
returns-clause-each_fault c = answer_each_fault c.args.octets.now c.front_pdu.result c.front_pdu.ensures
