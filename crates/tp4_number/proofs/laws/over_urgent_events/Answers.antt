use Rattle.tp4_number.proofs.Expedited.{all_alone, all_obey}
use Rattle.tp4_number.proofs.laws.over_urgent_events.Goals as goal

pub returns-clause-alone : goal.returns-clause-alone
returns-clause-alone c = all_alone

pub returns-clause-kept : goal.returns-clause-kept
returns-clause-kept c = all_obey
