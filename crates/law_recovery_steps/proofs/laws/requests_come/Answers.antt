use Rattle.law_recovery_steps.proofs.Requests.{refusals_end, requests_again, requests_met}
use Rattle.law_recovery_steps.proofs.laws.requests_come.Goals as goal

pub returns-clause-again : goal.returns-clause-again
returns-clause-again c = requests_again

pub returns-clause-answered : goal.returns-clause-answered
returns-clause-answered c = requests_met

pub returns-clause-refused : goal.returns-clause-refused
returns-clause-refused c = refusals_end
