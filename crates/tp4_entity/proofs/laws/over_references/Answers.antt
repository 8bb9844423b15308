use Rattle.tp4_entity.proofs.Standings.{calling_keeps, connecting_keeps, free_is, is_free_at, least_is_free, met_keeps, ticking_keeps}
use Rattle.tp4_entity.proofs.laws.over_references.Goals as goal

pub returns : goal.returns
returns c = record {
  free = free_is;
  only = is_free_at;
  least = least_is_free;
  connecting = connecting_keeps;
  calling = calling_keeps;
  met = met_keeps;
  ticking = ticking_keeps;
}
