use Rattle.law_recovery_steps.proofs.Opens.{pairs_open, pairs_open_level, pairs_open_rest}
use Rattle.law_recovery_steps.proofs.laws.pairs_open.Goals as goal

pub returns-clause-opened : goal.returns-clause-opened
returns-clause-opened c = pairs_open

pub returns-clause-level : goal.returns-clause-level
returns-clause-level c = pairs_open_level

pub returns-clause-rest : goal.returns-clause-rest
returns-clause-rest c = pairs_open_rest
