use Rattle.tp4_sending.proofs.Counts.{held_normal_last, held_urgent_last}
use Rattle.tp4_sending.proofs.laws.held_numbers_rise.Goals as goal

pub returns : goal.returns
returns c = record { normal = held_normal_last; urgent = held_urgent_last }
