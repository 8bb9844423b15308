use Rattle.law_refusals.proofs.Refusing.{refuses_first, refuses_last, refuses_long}
use Rattle.law_refusals.proofs.laws.refusals_are_first_faults.Goals as goal

pub returns-clause-whole : goal.returns-clause-whole
returns-clause-whole g c = refuses_first g.W.Stage.acts

pub returns-clause-long : goal.returns-clause-long
returns-clause-long g c = refuses_long g.W.Stage.acts

pub returns-clause-last : goal.returns-clause-last
returns-clause-last g c = refuses_last g.W.Stage.acts
