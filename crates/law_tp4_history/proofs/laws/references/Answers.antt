use Rattle.law_tp4_history.proofs.Meets.{meets_own, each_request, free_is_quiet, each_end}
use Rattle.law_tp4_history.proofs.Agreed.{all_agreed, in_format}
use Rattle.law_tp4_history.proofs.Steps.{all_sound}
use Rattle.law_tp4_history.proofs.laws.references.Goals as goal

pub returns-clause-own : goal.returns-clause-own
returns-clause-own c = λ times h fit r. meets_own times h (all_sound times h fit r)

pub returns-clause-quiet : goal.returns-clause-quiet
returns-clause-quiet c = λ times h fit r. free_is_quiet times h (all_sound times h fit r) fit

pub returns-clause-request : goal.returns-clause-request
returns-clause-request c = λ times h fit r. each_request times h (all_sound times h fit r) fit

pub returns-clause-each : goal.returns-clause-each
returns-clause-each c = λ times h fit r. each_end times h (all_sound times h fit r)

pub returns-clause-format : goal.returns-clause-format
returns-clause-format c = λ times h fit r. in_format times h (all_sound times h fit r) (all_agreed times h fit r)
