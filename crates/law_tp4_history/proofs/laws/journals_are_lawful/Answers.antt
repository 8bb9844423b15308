use Rattle.law_tp4_history.proofs.Written.{written_lawful, written_start, written_more, written_reached}
use Rattle.law_tp4_history.proofs.laws.journals_are_lawful.Goals as goal

pub returns-clause-lawful : goal.returns-clause-lawful
returns-clause-lawful c = written_lawful

pub returns-clause-begins : goal.returns-clause-begins
returns-clause-begins c = written_start

pub returns-clause-more : goal.returns-clause-more
returns-clause-more c = written_more

pub returns-clause-reached : goal.returns-clause-reached
returns-clause-reached c = written_reached
