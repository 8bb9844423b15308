use Rattle.clnp_options.proofs.Allowing.{fault_from, ok_from, only_from, first_of}
use Rattle.clnp_options.proofs.FirstFault.{first_from_fault}
use Rattle.clnp_options.proofs.reading.read_options.Goals as goal

pub returns-clause-ok : goal.returns-clause-ok
returns-clause-ok c = ok_from c.args.kind c.args.first c.args.octets.now c.checked.result c.checked.ensures

pub returns-clause-only : goal.returns-clause-only
returns-clause-only c = λ options is. only_from c.args.kind c.args.first c.args.octets.now c.checked.result options c.checked.ensures is

pub returns-clause-first : goal.returns-clause-first
returns-clause-first c =
    first_of c.args.kind c.args.first c.args.octets.now c.checked.result c.checked.ensures
    (λ fault why. first_from_fault c.args.kind c.args.first c.args.octets.now fault why)

pub returns-clause-fault : goal.returns-clause-fault
returns-clause-fault c = fault_from c.args.kind c.args.first c.args.octets.now c.checked.result c.checked.ensures
