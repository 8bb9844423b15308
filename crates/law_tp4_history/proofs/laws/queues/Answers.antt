use Rattle.law_tp4_history.proofs.Tracked.{all_told, all_numbered, reached_base}
use Rattle.law_tp4_history.proofs.laws.queues.Goals as goal

pub returns-clause-told : goal.returns-clause-told
returns-clause-told c = all_told

pub returns-clause-numbers : goal.returns-clause-numbers
returns-clause-numbers c = all_numbered

pub returns-clause-base : goal.returns-clause-base
returns-clause-base c = reached_base
