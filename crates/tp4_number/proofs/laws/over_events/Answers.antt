use Rattle.tp4_number.proofs.Sound.{reads}
use Rattle.tp4_number.proofs.Rule.{keeps}
use Rattle.tp4_number.proofs.All.{all_lead}
use Rattle.tp4_number.proofs.Steps.{all_sound, leads_more}
use Rattle.tp4_number.proofs.laws.over_events.Goals as goal

pub returns-clause-read : goal.returns-clause-read
returns-clause-read c = λ rules tick credit size room events w fit low small h. reads rules w fit (all_sound rules tick credit size room events w fit low small h)

pub returns-clause-kept : goal.returns-clause-kept
returns-clause-kept c = λ rules tick credit size room events w fit low small h. keeps rules w fit (all_sound rules tick credit size room events w fit low small h)

pub returns-clause-more : goal.returns-clause-more
returns-clause-more c = leads_more

pub returns-clause-all : goal.returns-clause-all
returns-clause-all c = λ rules fuel total w. all_lead rules total fuel w
