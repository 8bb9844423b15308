use Rattle.tp4_number.proofs.Steps.{all_sound}
use Rattle.law_recovery_pair.proofs.Rising.{all_views}
use Rattle.law_recovery_pair.proofs.Speaking.{all_speak, views_known}
use Rattle.law_recovery_pair.proofs.Telling.{takes}
use Rattle.law_recovery_pair.proofs.laws.views.Goals as goal

pub returns-clause-rise : goal.returns-clause-rise
returns-clause-rise c = all_views

pub returns-clause-takes : goal.returns-clause-takes
returns-clause-takes c = λ rules tick credit size room events w a fit low small h may newer. takes rules fit w (all_sound rules tick credit size room events w fit low small h) a may newer

pub returns-clause-speaks : goal.returns-clause-speaks
returns-clause-speaks c = all_speak

pub returns-clause-knows : goal.returns-clause-knows
returns-clause-knows c = views_known
