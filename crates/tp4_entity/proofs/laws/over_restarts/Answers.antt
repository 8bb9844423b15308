use Rattle.std.proofs.Common.{refl}
use Rattle.tp4_entity.proofs.Restarts.{calling_same, connecting_same, met_same, none_stands, ticking_same}
use Rattle.tp4_entity.proofs.laws.over_restarts.Goals as goal

pub returns : goal.returns
returns c = record {
  none = none_stands;
  silent = λ now later e. refl;
  connecting = connecting_same;
  calling = calling_same;
  met = met_same;
  ticking = ticking_same;
}
