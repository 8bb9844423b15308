use Rattle.law_recovery_steps.proofs.Requests.{requests_last, requests_stay}
use Rattle.law_recovery_steps.proofs.laws.requests_stay.Goals as goal

pub returns-clause-next : goal.returns-clause-next
returns-clause-next c = requests_stay

pub returns-clause-last : goal.returns-clause-last
returns-clause-last c = requests_last
