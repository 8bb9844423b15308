use Rattle.std.proofs.Common.{refl, true, ◌++◌, ◌∷◌, []}
use Rattle.tp4_sending.proofs.Dues.{later}
use Rattle.tp4_sending.proofs.Settles.{new_settled, taken_settled, done_settled, tick_settled}
use Rattle.tp4_sending.proofs.laws.stays_settled.Goals as goal

pub returns : goal.returns
returns c = record {
  opened = λ s. new_settled (record s { is_open = true }) refl;
  submitted = λ s unit o. new_settled (record s { queue = record s.queue { units = s.queue.units ++ unit ∷ [] } }) o;
  urged = λ s unit o. new_settled (record s { urgent = record s.urgent { units = s.urgent.units ++ unit ∷ [] } }) o;
  acknowledged = taken_settled;
  urgent_done = done_settled;
  ticked = tick_settled;
  later = later;
}
