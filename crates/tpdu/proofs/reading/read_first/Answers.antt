use Rattle.tpdu.specs.Values.{seen}
use Rattle.tpdu.proofs.Answer.{ok_first, only_first, fault_first}
use Rattle.tpdu.proofs.reading.read_first.Goals as goal

pub returns-clause-ok : goal.returns-clause-ok
returns-clause-ok c = ok_first (λ x. seen x.0) (λ x. x.1.now) _ _ c.read.result c.read.ensures

pub returns-clause-only : goal.returns-clause-only
returns-clause-only c = only_first (λ x. seen x.0) (λ x. x.1.now) _ _ c.read.result c.read.ensures

pub returns-clause-fault : goal.returns-clause-fault
returns-clause-fault c = fault_first (λ x. (seen x.0, x.1.now)) _ _ c.read.result c.read.ensures
