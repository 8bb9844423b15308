use Rattle.law_recovery_pair.proofs.Chains.{all_recover, views_recover}
use Rattle.law_recovery_pair.proofs.laws.recovers.Goals as goal

pub returns-clause-events : goal.returns-clause-events
returns-clause-events c = λ rules tick credit room size events w fit low fits small leads fair t1 window moves r.
    all_recover rules tick credit room size t1 window events w moves r fit low fits small leads fair

pub returns-clause-views : goal.returns-clause-views
returns-clause-views c = λ rules tick credit places room size events w fit small low leads views fitted t1 window moves r.
    views_recover rules tick credit places room size t1 window events w moves r fit small low leads views fitted
